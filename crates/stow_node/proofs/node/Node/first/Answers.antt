use Rattle.std.proofs.Common.{◌≡◌, [], ◌∷◌, refl, ◌∙◌}
use Rattle.stow_tree_model.specs.Keys.{packed}
use Rattle.stow_node.specs.declared.child.Child.TheVariants as in_child
use Rattle.stow_node.proofs.First.{first_leaf, is_first}
use Rattle.stow_node.proofs.node.Node.first.Goals as goal

pub invariant_of-result-2 : goal.invariant_of-result-2
invariant_of-result-2 g c =
    let items : c.push.new.self.items ≡ in_child.Leaf first_leaf ∷ [] =
    rw (c.in_ok-push.ensures.items, c.new-children.ensures.items, c.in_ok-new.ensures, c.in_ok-new-3.ensures, c.in_ok-new-2.ensures) refl in
    let low : c.low.inside.bytes ≡ packed 0 [] = c.low.view_is ∙ c.copied-low.ensures ∙ c.as_key.ensures ∙ c.in_ok-new.ensures in
    rw (low, c.in_ok-with_capacity.ensures) (is_first c.args.shape c.push.new.self items).is_node

pub returns : goal.returns
returns g c =
    let items : c.push.new.self.items ≡ in_child.Leaf first_leaf ∷ [] =
    rw (c.in_ok-push.ensures.items, c.new-children.ensures.items, c.in_ok-new.ensures, c.in_ok-new-3.ensures, c.in_ok-new-2.ensures) refl in
    let low : c.low.inside.bytes ≡ packed 0 [] = c.low.view_is ∙ c.copied-low.ensures ∙ c.as_key.ensures ∙ c.in_ok-new.ensures in
    rw (low, c.in_ok-with_capacity.ensures) (is_first c.args.shape c.push.new.self items).is
