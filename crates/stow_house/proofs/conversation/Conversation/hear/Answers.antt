use Rattle.std.proofs.Common.{◌∙◌, ap, sym, subst, option_map}
use Rattle.stow_model.specs.Reply.{reply_of}
use Rattle.stow_house.specs.Conversations.{Tells, talk_of}
use Rattle.stow_house.specs.Sessions.{taking, served_after_arrival}
use Rattle.stow_house.proofs.Hearing.{message_next, tells, asks}
use Rattle.stow_house.proofs.conversation.Conversation.hear.Goals as goal

pub returns-in-Told : goal.returns-in-Told
returns-in-Told g c =
    let entries = c.args.tenants.now in
    let who = c.args.self.now.session in
    let (m, is, taken) = message_next c.next.result c.args.self.now.input c.next.new.self c.in_default.not-More c.in_default.not-NoMemory c.in_default.not-Fault c.next.ensures in
    subst (λ stop. Tells entries (option_map reply_of c.in-Told.answer.reply) stop (talk_of c.args.self.now) (record { tenant = c.take.new.self; unread = c.next.new.self })) (sym c.then_some.ensures)
    (tells entries m _ c.in-Told.answer.ends _ _ taken (c.in-Told.ensures.after ∙ ap (λ a. served_after_arrival entries a who) is) (c.in-Told.ensures.taken ∙ ap (λ a. taking entries a who) is))

pub returns-in-ForStoreOf : goal.returns-in-ForStoreOf
returns-in-ForStoreOf g c =
    let entries = c.args.tenants.now in
    let who = c.args.self.now.session in
    let (m, is, taken) = message_next c.next.result c.args.self.now.input c.next.new.self c.in_default.not-More c.in_default.not-NoMemory c.in_default.not-Fault c.next.ensures in
    asks entries m c.in-ForStoreOf.tenant _ _ _ taken (c.in-ForStoreOf.ensures.after ∙ ap (λ a. served_after_arrival entries a who) is) (c.in-ForStoreOf.ensures.taken ∙ ap (λ a. taking entries a who) is)
