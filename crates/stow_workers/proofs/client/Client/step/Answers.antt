use Rattle.std.proofs.Common.{◌≡◌, [], ap, ◌∙◌, sym, drop, arith}
use Rattle.std.specs.Option.{option_map}
use Rattle.stow_model.specs.Reply.{reply_of}
use Rattle.stow_workers.specs.declared.client.Client.{Client}
use Rattle.stow_workers.specs.Sent.{sent_at}
use Rattle.stow_workers.specs.Turns.{IsRested}
use Rattle.stow_workers.specs.NonblockingConnections.{unknown}
use Rattle.stow_workers.proofs.Pipelining.{end_told, end_lightens}
use Rattle.stow_workers.proofs.Sending.{drop_past}
use Rattle.stow_workers.proofs.Turning.{led_none}
use Rattle.stow_workers.proofs.client.Client.step.Goals as goal

pub returns-in-Some-clause-goes : goal.returns-in-Some-clause-goes
returns-in-Some-clause-goes g c writer =
    let told = c.tell.ensures.same in
    let none : drop c.args.self.now.done c.args.self.now.requests.items ≡ [] = drop_past c.args.self.now.requests.items c.args.self.now.done (let t = c.if-self-len.false in let n = c.len.ensures in omega (arith, t, n)) in
    let rests : IsRested c.tell.new.self = (ap (λ (s : Client _). drop s.done s.requests.items) told ∙ none, ap (λ (s : Client _). s.end) told ∙ c.take.ensures.after) in
    end_told g.D.Door.answers c.args.tenants.now c.in-Some.reply c.in-Some.stop c.tell.result c.args.door.now c.args.self.now c.tell.new.self (sent_at writer c.args.self.now.replies) (sent_at writer c.tell.new.self.replies) none (sym c.in-Some.ensures.value) rests (ap (λ (s : Client _). s.conversation) told) (c.tell.ensures.told writer)

pub returns-in-Some-clause-lighter : goal.returns-in-Some-clause-lighter
returns-in-Some-clause-lighter g c =
    let told = c.tell.ensures.same in
    let none : drop c.args.self.now.done c.args.self.now.requests.items ≡ [] = drop_past c.args.self.now.requests.items c.args.self.now.done (let t = c.if-self-len.false in let n = c.len.ensures in omega (arith, t, n)) in
    let rests : IsRested c.tell.new.self = (ap (λ (s : Client _). drop s.done s.requests.items) told ∙ none, ap (λ (s : Client _). s.end) told ∙ c.take.ensures.after) in
    end_lightens (option_map reply_of c.in-Some.reply) c.in-Some.reply c.in-Some.stop c.tell.result c.args.self.now c.tell.new.self (sent_at unknown c.args.self.now.replies) (sent_at unknown c.tell.new.self.replies) none (sym c.in-Some.ensures.value) rests (ap (λ (s : Client _). s.conversation) told) (c.tell.ensures.told unknown)

pub returns-in-Some-clause-led : goal.returns-in-Some-clause-led
returns-in-Some-clause-led g c = led_none _ _
