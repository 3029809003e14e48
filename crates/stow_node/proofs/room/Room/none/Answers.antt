use Rattle.std.proofs.Common.{◌≡◌, sym, subst, arith}
use Rattle.std.specs.List.{AllByRecursion}
use Rattle.stow_node.specs.Rooms.{IsList}
use Rattle.stow_node.specs.declared.shape.Shape.{Shape}
use Rattle.stow_node.proofs.room.Room.none.Goals as goal

pub returns-clause-room : goal.returns-clause-room
returns-clause-room g c shape = record {
  came = omega arith;
  wides = record { enough = omega arith; each = subst (AllByRecursion (IsList {A = g.row.A.Denot} 0)) (sym c.new-2.ensures.items) tt };
  shells = record { enough = omega arith; each = subst (AllByRecursion (λ (s : Shape). s ≡ shape)) (sym c.new-3.ensures.items) tt };
}
