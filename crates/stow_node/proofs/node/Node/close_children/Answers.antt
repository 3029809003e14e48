use Rattle.std.proofs.Common.{◌∙◌}
use Rattle.std.specs.Vec.{with_items}
use Rattle.stow_node.proofs.Reallocated.{SameNode, same_with, reallocated_items}
use Rattle.stow_node.proofs.node.Node.close_children.Given as given
use Rattle.stow_node.proofs.node.Node.close_children.Goals as goal
use Rattle.stow_node.proofs.node.Node.close_children.Goals.{After-close_all}

is_same : (g : given.Over) (c : After-close_all g) → SameNode c.self.inside (with_items c.self.inside.children c.close_all.new.children)
is_same g c = same_with c.self.inside (with_items c.self.inside.children c.close_all.new.children) c.self.invariant
    (reallocated_items c.self.inside.children c.close_all.new.children (rw (← c.deref_mut.ensures.value) c.close_all.ensures))

pub invariant_of-self : goal.invariant_of-self
invariant_of-self g c = rw c.note.ensures (is_same g (goal.at.invariant_of-self g c).After-close_all).is_node

pub returns : goal.returns
returns g c = rw c.note.ensures ((is_same g (goal.at.returns g c).After-close_all).same ∙ c.self.view_is)
