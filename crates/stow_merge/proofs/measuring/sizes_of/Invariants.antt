use Rattle.std.proofs.Common.{take}
use Rattle.stow_merge.specs.Writing.{AreSizes, keys_in}
use Rattle.stow_merge.proofs.measuring.sizes_of.Given as goal

abbrev pub invariant-loop-i : goal.invariant-loop-i
invariant-loop-i g l = AreSizes l.format (keys_in l.survey (take l.i l.keys)) l.sizes.items
