use Rattle.std.proofs.Common.{◌≡◌, drop, take}
use Rattle.stow_merge.proofs.parts.part.Given as goal

abbrev pub invariant-loop-i : goal.invariant-loop-i
invariant-loop-i g l = l.part ≡ drop l.from (take l.i l.block)
