use Rattle.std.proofs.Common.{◌+◌, ◌∙◌, sym, subst}
use Rattle.stow_node.proofs.Deepest.{IsDeepestOf, none_yet, one_more, leaf_told, node_told, all_looked, whole_node}
use Rattle.stow_node.proofs.planning.+deepest.Goals as goal
use Rattle.stow_node.proofs.planning.+deepest.Goals.{in-Leaf, in-Node}

pub loop-i-init : goal.loop-i-init
loop-i-init g t c = none_yet c.children-children.result.now

pub loop-i-preserved : goal.loop-i-preserved
loop-i-preserved g t c =
    elim c.match-children-i.branch [
      | in-Leaf w ↦
          let told = leaf_told c.index-children-i.result w.in-Leaf.field-0 w.in-Leaf.is in
          subst (IsDeepestOf c.children-children.result.now (c.loop-i.i + 1)) (sym c.lower_height-deepest.ensures)
          (one_more c.children-children.result.now c.loop-i.i c.index-children-i.result c.loop-i.deepest c.match-children-i.below c.loop-i-test.true c.index-children-i.is c.loop-i.invariant told.0 (w.below-is ∙ told.1))
      | in-Node w ↦
          let told = node_told c.index-children-i.result w.in-Node.lower c.match-children-i.below w.in-Node.is (w.below-is ∙ w.deepest_buffer-below.ensures.height)
          ((λ e. w.deepest_buffer-below.ensures.none.0 (sym w.below-is ∙ e)), (λ e. w.below-is ∙ w.deepest_buffer-below.ensures.none.1 e)) in
          subst (IsDeepestOf c.children-children.result.now (c.loop-i.i + 1)) (sym c.lower_height-deepest.ensures)
          (one_more c.children-children.result.now c.loop-i.i c.index-children-i.result c.loop-i.deepest c.match-children-i.below c.loop-i-test.true c.index-children-i.is c.loop-i.invariant told.0 told.1)
    ]

pub returns-clause-height : goal.returns-clause-height
returns-clause-height g t c =
    (whole_node c.args.node.now c.children-children.result.now c.loop-i.deepest c.own_height.result c.lower_height.result c.children-children.ensures
    (all_looked c.children-children.result.now c.loop-i.i c.loop-i.deepest c.loop-i-test.false c.loop-i.invariant) c.own_height.ensures c.lower_height.ensures).is

pub returns-clause-none : goal.returns-clause-none
returns-clause-none g t c =
    (whole_node c.args.node.now c.children-children.result.now c.loop-i.deepest c.own_height.result c.lower_height.result c.children-children.ensures
    (all_looked c.children-children.result.now c.loop-i.i c.loop-i.deepest c.loop-i-test.false c.loop-i.invariant) c.own_height.ensures c.lower_height.ensures).none
