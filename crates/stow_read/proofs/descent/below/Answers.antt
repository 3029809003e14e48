use Rattle.std.proofs.Common.{arith}
use Rattle.std.proofs.lemmas.List.{length-map}
use Rattle.stow_node.specs.Nodes.{part_of}
use Rattle.stow_read.proofs.Below.{leads_to}
use Rattle.stow_read.proofs.descent.below.Goals as goal

pub offset_bounds-children-child_within : goal.offset_bounds-children-child_within
offset_bounds-children-child_within g c = let i = c.child_within.ensures.inside in omega (arith, i, length-map c.children-children.result.now part_of)

pub bounds-children-child_within : goal.bounds-children-child_within
bounds-children-child_within g c = let i = c.child_within.ensures.inside in omega (arith, i, length-map c.children-children.result.now part_of)

pub returns : goal.returns
returns g c = leads_to c.args.node.now c.children-children.result.now c.args.key.bytes.now c.child_within.result c.index-children-child_within.result c.children-children.ensures c.child_within.ensures c.index-children-child_within.is
