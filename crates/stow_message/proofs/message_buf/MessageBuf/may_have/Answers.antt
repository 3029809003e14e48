use Rattle.std.proofs.Common.{sym, ◌∙◌}
use Rattle.stow_message.proofs.Covered.{covered, none_marked}
use Rattle.stow_message.proofs.message_buf.MessageBuf.may_have.Goals as goal

pub returns : goal.returns
returns g c e =
    none_marked c.self.inside.filter c.args.key.bytes.now c.args.self.now.messages (sym c.may_have.ensures ∙ e)
    (covered c.self.inside.raw c.self.inside.filter c.args.self.now c.self.view_is c.self.invariant.covers)
