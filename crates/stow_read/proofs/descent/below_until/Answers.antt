use Rattle.std.proofs.Common.{arith}
use Rattle.std.proofs.lemmas.List.{length-map}
use Rattle.stow_node.specs.Nodes.{part_of}
use Rattle.stow_read.proofs.Below.{leads_all_to}
use Rattle.stow_read.proofs.descent.below_until.Goals as goal

pub offset_bounds-children-at : goal.offset_bounds-children-at
offset_bounds-children-at g c = let i = c.child_within-at.ensures.inside in omega (arith, i, length-map c.children-children.result.now part_of)

pub bounds-children-at : goal.bounds-children-at
bounds-children-at g c = let i = c.child_within-at.ensures.inside in omega (arith, i, length-map c.children-children.result.now part_of)

pub high_after-requires : goal.high_after-requires
high_after-requires g c = let i = c.child_within-at.ensures.inside in omega (arith, i, length-map c.children-children.result.now part_of)

pub returns : goal.returns
returns g c = leads_all_to c.args.node.now c.children-children.result.now c.args.key.bytes.now c.child_within-at.result c.index-children-at.result c.high_after.result.bytes.now c.children-children.ensures c.child_within-at.ensures c.index-children-at.is c.high_after.ensures
