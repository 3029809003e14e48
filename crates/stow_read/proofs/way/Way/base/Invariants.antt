use Rattle.stow_read.specs.Suffixes.{suffixes_of}
use Rattle.stow_read.specs.Way.{row_ops}
use Rattle.stow_read.proofs.Ways.{IsLookedDown}
use Rattle.stow_read.proofs.way.Way.base.Given as goal

abbrev pub invariant-loop-i : goal.invariant-loop-i
invariant-loop-i g l = IsLookedDown l.self.levels.items (row_ops l.self l.fn.key.bytes.now) l.fn.key.bytes.now l.at l.i (suffixes_of l.fn.suffixes) (suffixes_of l.suffixes)
