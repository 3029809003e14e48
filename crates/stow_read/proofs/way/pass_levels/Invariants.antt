use Rattle.stow_read.proofs.Ways.{ArePassing}
use Rattle.stow_read.proofs.way.pass_levels.Given as goal

abbrev pub invariant-loop-i : goal.invariant-loop-i
invariant-loop-i g l = ArePassing l.fn.key.bytes.now l.fn.to.bytes.now l.i l.fn.levels.items l.levels.items
