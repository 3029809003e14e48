use Rattle.std.proofs.Common.{◌≡◌, length}
use Rattle.std.specs.List.{AllByRecursion}
use Rattle.stow_node.proofs.room.shells.Given as goal

abbrev pub invariant-loop-i : goal.invariant-loop-i
invariant-loop-i g l = (length l.shells.items ≡ l.i) × AllByRecursion (λ s. s ≡ l.shape) l.shells.items
