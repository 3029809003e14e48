use Rattle.std.proofs.Common.{[], sym, ◌∙◌, subst}
use Rattle.stow_node.specs.StowMessage.MessageBuf.{MessageList}
use Rattle.stow_tree_model.specs.Messages.{ops_in}
use Rattle.stow_read.specs.UpTo.{IsTop}
use Rattle.stow_read.proofs.Walked.{nothing_outside, walking_first}
use Rattle.stow_read.proofs.Glanced.{told_here}
use Rattle.stow_read.proofs.glancing.glance.Goals as goal

pub returns-then-not-may_hold : goal.returns-then-not-may_hold
returns-then-not-may_hold g c = nothing_outside c.args.node.now c.children-known.result.now c.args.key.bytes.now c.args.at c.children-known.ensures (sym c.may_hold.ensures ∙ c.if-not-may_hold.true)

pub returns-in-Some : goal.returns-in-Some
returns-in-Some g c =
    told_here c.args.node.now c.args.node.now c.children-known.result.now c.args.key.bytes.now c.args.at c.in-Some.message c.of_message-newest.result
    (walking_first c.args.node.now c.args.key.bytes.now c.args.at (0, []) (sym c.may_hold.ensures ∙ c.if-not-may_hold.false))
    c.children-known.ensures
    (subst (λ (b : MessageList). IsTop (ops_in b.messages c.args.key.bytes.now) c.args.at c.in-Some.message) c.buffer.ensures c.in-Some.ensures)
    c.of_message-newest.ensures
