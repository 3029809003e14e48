use Rattle.std.proofs.Common.{◌+◌, ◌∷◌, List, map, ap, ◌∙◌, arith}
use Rattle.std.proofs.lemmas.List.{length-map}
use Rattle.stow_model.specs.Reply.{Reply, reply_of}
use Rattle.stow_workers.specs.declared.client.Client.{Client}
use Rattle.stow_workers.specs.Sent.{sent_at}
use Rattle.stow_workers.proofs.Pipelining.{asked_on, asked_part}
use Rattle.stow_workers.proofs.Turning.{led_all}
use Rattle.stow_workers.proofs.client.Client.ask.Goals as goal

pub returns-in-Ok-clause-goes : goal.returns-in-Ok-clause-goes
returns-in-Ok-clause-goes g c entries writer =
    let rs : List Reply = reply_of c.call_all-first.result ∷ map reply_of c.call_all-first.new.more.items in
    let same = c.add_all.ensures.same in
    asked_on g.D.Door.answers c.args.door.now c.call_all-first.new.self c.args.self.now c.add_all.new.self (sent_at writer c.args.self.now.replies) (sent_at writer c.add_all.new.self.replies) c.as_slice.result.now rs c.as_slice.ensures.value c.call_all-first.ensures.answers
    (ap (λ (s : Client _). s.requests) same) (ap (λ (s : Client _). s.done) same ∙ ap (λ k. c.args.self.now.done + k) (let n = c.len.ensures in let m = length-map c.call_all-first.new.more.items reply_of in omega (arith, n, m)))
    (ap (λ (s : Client _). s.end) same) (ap (λ (s : Client _). s.conversation) same) entries (c.in-Ok.ensures.ok writer)

pub returns-in-Ok-clause-led : goal.returns-in-Ok-clause-led
returns-in-Ok-clause-led g c = led_all _ _ _ _ _ c.call_all-first.ensures.answers

pub returns-in-Err-clause-goes : goal.returns-in-Err-clause-goes
returns-in-Err-clause-goes g c entries writer =
    let rs : List Reply = reply_of c.call_all-first.result ∷ map reply_of c.call_all-first.new.more.items in
    let same = c.add_all.ensures.same in
    asked_part g.D.Door.answers c.args.door.now c.call_all-first.new.self c.args.self.now c.add_all.new.self (sent_at writer c.args.self.now.replies) (sent_at writer c.add_all.new.self.replies) c.as_slice.result.now rs c.as_slice.ensures.value c.call_all-first.ensures.answers
    (ap (λ (s : Client _). s.requests) same) (ap (λ (s : Client _). s.done) same ∙ ap (λ k. c.args.self.now.done + k) (let n = c.len.ensures in let m = length-map c.call_all-first.new.more.items reply_of in omega (arith, n, m)))
    (ap (λ (s : Client _). s.end) same) (ap (λ (s : Client _). s.conversation) same) entries (c.in-Err.ensures.err writer)

pub returns-in-Err-clause-led : goal.returns-in-Err-clause-led
returns-in-Err-clause-led g c = led_all _ _ _ _ _ c.call_all-first.ensures.answers
