use Rattle.std.proofs.Common.{sym, subst}
use Rattle.stow_node.specs.Flushes.{AreShort}
use Rattle.stow_node.specs.Subtree.{Subtree, messages_of}
use Rattle.stow_node.proofs.node.Node.plan.Goals as goal

pub plan_below-requires-clause-short : goal.plan_below-requires-clause-short
plan_below-requires-clause-short g c = subst (λ (s : Subtree). AreShort (messages_of s)) (sym c.order.ensures) c.requires.short
