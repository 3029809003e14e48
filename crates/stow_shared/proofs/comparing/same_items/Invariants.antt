use Rattle.std.proofs.Common.{◌≡◌, take}
use Rattle.stow_shared.proofs.comparing.same_items.Given as goal

abbrev pub invariant-loop-index : goal.invariant-loop-index
invariant-loop-index g l = take l.index l.a ≡ take l.index l.b
