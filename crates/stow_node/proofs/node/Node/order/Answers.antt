use Rattle.std.proofs.Common.{sym, ap, ◌∙◌, subst}
use Rattle.stow_leaves.specs.StowMessage.MessageBuf.{MessageList}
use Rattle.stow_node.specs.Nodes.{IsNode, subtree_of}
use Rattle.stow_node.proofs.node.Node.order.Goals as goal

pub invariant_of-self : goal.invariant_of-self
invariant_of-self g c = subst (λ (b : MessageList). IsNode (record c.self.inside { buffer = b })) (sym c.settle.ensures) c.self.invariant

pub returns : goal.returns
returns g c = ap (λ (b : MessageList). subtree_of (record c.self.inside { buffer = b })) c.settle.ensures ∙ c.self.view_is
