use Rattle.std.proofs.Common.{refl, arith}
use Rattle.std.proofs.lemmas.List.{length-map}
use Rattle.stow_node.specs.Nodes.{part_of, parts_of}
use Rattle.stow_node.proofs.Places.{at_first}
use Rattle.stow_node.proofs.child.narrowed.Goals as goal

pub returns-then-is_before : goal.returns-then-is_before
returns-then-is_before g c = record {
  order = c.if-from-to.true;
  inside = let to = c.min-to.ensures in omega (arith, to, length-map c.args.children.now part_of);
  from = c.if-is_from.ensures refl;
  below = c.if-is_before.ensures refl;
}

pub returns-else-from-to : goal.returns-else-from-to
returns-else-from-to g c = rw (← length-map c.args.children.now part_of) (at_first (parts_of c.args.children.now) c.args.key.bytes.now (let some = c.requires.some in omega (arith, some, length-map c.args.children.now part_of)) c.requires.within)
