use Rattle.std.proofs.Common.{[], ◌∷◌, ◌++◌, map, take, sym, ap, ◌∙◌}
use Rattle.std.proofs.lemmas.List.{take_more, map-append}
use Rattle.stow_node.specs.declared.child.Child.TheVariants as in_child
use Rattle.stow_node.proofs.Leaves.{no_node_there}
use Rattle.stow_node.proofs.absorbing.shared.Goals as goal

pub unreachable-requires : goal.unreachable-requires
unreachable-requires g c = no_node_there c.args.children.now c.requires.leaves c.loop-i.i c.index-children-i.result c.in-Node.field-0 c.loop-i-test.true c.index-children-i.is c.in-Node.is

pub loop-i-preserved : goal.loop-i-preserved
loop-i-preserved g c =
    ap (map in_child.Leaf) c.in_ok-push-in-Leaf.ensures.items
    ∙ map-append in_child.Leaf c.loop-i.leaves.items _
    ∙ (λ j. c.loop-i.invariant j ++ (in_child.Leaf (c.in_ok-share-in-Leaf.ensures j) ∷ []))
    ∙ sym (take_more c.args.children.now c.loop-i.i c.index-children-i.result c.loop-i-test.true ∙ ap (λ w. take c.loop-i.i c.args.children.now ++ w ∷ []) (sym c.index-children-i.is ∙ c.in-Leaf.is))
