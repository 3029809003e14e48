use Rattle.std.proofs.Common.{take}
use Rattle.stow_model.specs.Parts.{IsSoFar}
use Rattle.stow_model.proofs.number_at.number.Given as goal

abbrev pub invariant-loop-i : goal.invariant-loop-i
invariant-loop-i l = IsSoFar l.limit (take l.i l.bytes) l.value
