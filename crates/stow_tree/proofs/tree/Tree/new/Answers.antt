use Rattle.std.proofs.Common.{refl, arith, ap, ◌∙◌, sym, subst}
use Rattle.stow_flush.specs.StowNode.Subtree.{Subtree}
use Rattle.stow_tree.specs.Shapes.{AreInRange}
use Rattle.stow_tree.proofs.Made.{new_is_tree, new_is_empty}
use Rattle.stow_tree.proofs.tree.Tree.new.Goals as goal

pub overflow_cast-shape-2 : goal.overflow_cast-shape-2
overflow_cast-shape-2 g c =
    let l = (c.is_in_range.ensures.0 c.if-not-is_in_range.false).cache in
    omega (arith, l)

pub same-result : goal.same-result
same-result g c = refl

pub invariant_of-result : goal.invariant_of-result
invariant_of-result g c = new_is_tree (record { root = c.in_ok-first.field-0; spare = c.in_ok-with_capacity.field-0; cache = c.in_ok-new.field-0 }) c.args.shape c.nodes.result (c.is_in_range.ensures.0 c.if-not-is_in_range.false) c.nodes.ensures c.in_ok-first.ensures c.in_ok-with_capacity.ensures c.in_ok-new.ensures

pub returns-clause-empty : goal.returns-clause-empty
returns-clause-empty g c = new_is_empty (record { root = c.in_ok-first.field-0; cache = c.in_ok-new.field-0 }) c.nodes.result c.in_ok-first.ensures

pub returns-clause-sizes : goal.returns-clause-sizes
returns-clause-sizes g c = subst AreInRange (sym (ap (λ (t : Subtree). t.shape) c.in_ok-first.ensures ∙ c.nodes.ensures)) (c.is_in_range.ensures.0 c.if-not-is_in_range.false).nodes
