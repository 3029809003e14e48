use Rattle.std.proofs.Common.{refl, ap, ◌∙◌, option_map}
use Rattle.stow_model.specs.Reply.{reply_of}
use Rattle.stow_house.specs.Conversations.{talk_of}
use Rattle.stow_house.specs.Seen.{status_by}
use Rattle.stow_house.proofs.Here.{told_alone, asked_core, here}
use Rattle.stow_house.proofs.connection.Connection.serve.Goals as goal

pub returns-in-Told-clause-does : goal.returns-in-Told-clause-does
returns-in-Told-clause-does g c =
    here _ _ _ _ _ (talk_of c.args.self.now.conversation) (talk_of c.hear.new.self) (talk_of c.hear.new.self) _ _ c.of.ensures.value c.requires c.stays_open-self.ensures refl
    (told_alone _ (option_map reply_of c.in-Told.told) c.in-Told.stop (talk_of c.args.self.now.conversation) (talk_of c.hear.new.self) c.args.core.now (c.deref.ensures ∙ c.tenants.ensures) c.in-Told.ensures)

pub returns-in-Request-clause-does : goal.returns-in-Request-clause-does
returns-in-Request-clause-does g c =
    here _ _ _ _ _ (talk_of c.args.self.now.conversation) (talk_of c.hear.new.self) (talk_of c.reuse.new.self) _ _ refl c.requires (ap status_by c.requires) c.reuse.ensures
    (asked_core _ c.in-Request.tenant c.in-Request.words (reply_of c.call-reply.result) (talk_of c.args.self.now.conversation) (talk_of c.hear.new.self) c.args.core.now c.call-reply.new.self (c.deref.ensures ∙ c.tenants.ensures) c.in-Request.ensures c.call-reply.ensures)
