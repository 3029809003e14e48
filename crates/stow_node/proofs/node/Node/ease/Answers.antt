use Rattle.std.proofs.Common.{◌<◌, length, sym, ◌∙◌, subst, arith}
use Rattle.stow_node.specs.Subtree.{Subtree}
use Rattle.stow_node.proofs.Down.{some_there}
use Rattle.stow_node.proofs.node.Node.ease.Goals as goal

pub ease_below-requires-clause-some : goal.ease_below-requires-clause-some
ease_below-requires-clause-some g c = subst (λ (s : Subtree). 0 < length s.buffer.messages) (c.self.view_is ∙ sym c.order.ensures) (some_there c.self.inside.buffer.messages (let l = c.live.ensures in let t = c.if-live-capacity.true in omega (arith, l, t)))
