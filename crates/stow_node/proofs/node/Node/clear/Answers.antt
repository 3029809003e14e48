use Rattle.std.proofs.Common.{length, ap, ◌∙◌}
use Rattle.stow_node.specs.Subtree.{Subtree}
use Rattle.stow_node.proofs.Reallocated.{OtherBlock, emptied, reallocated_same, reallocated_then}
use Rattle.stow_node.proofs.node.Node.clear.Given as given
use Rattle.stow_node.proofs.node.Node.clear.Goals as goal
use Rattle.stow_node.proofs.node.Node.clear.Goals.{After-reset}

done : (g : given.Over) (c : After-reset g) → OtherBlock c.self.inside c.reset.new.self
done g c =
    emptied c.self.inside c.reset.new.self c.self.inside.buffer.capacity c.self.invariant
    (ap length (ap (λ (s : Subtree). s.buffer.messages) c.self.view_is ∙ (reallocated_same c.args.self.now c.open.new.self c.open.ensures.same).2 ∙ c.requires)) c.reset.ensures c.self.invariant.block

pub invariant_of-self : goal.invariant_of-self
invariant_of-self g c = (done g (goal.at.invariant_of-self g c).After-reset).is_node

pub returns-clause-same : goal.returns-clause-same
returns-clause-same g c = reallocated_then c.args.self.now c.open.new.self _ c.open.ensures.same (rw (← c.self.view_is) (done g (goal.at.returns-clause-same g c).After-reset).reallocated)
