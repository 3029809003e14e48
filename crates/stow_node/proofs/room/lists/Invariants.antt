use Rattle.std.proofs.Common.{◌≡◌, length}
use Rattle.std.specs.List.{AllByRecursion}
use Rattle.stow_node.specs.Rooms.{IsList}
use Rattle.stow_node.proofs.room.lists.Given as goal

abbrev pub invariant-loop-i : goal.invariant-loop-i
invariant-loop-i g l = (length l.lists.items ≡ l.i) × AllByRecursion (IsList l.places) l.lists.items
