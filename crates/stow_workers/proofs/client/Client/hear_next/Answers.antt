use Rattle.std.proofs.Common.{rules, ◌≡◌, ◌<◌, [], ap, ◌∙◌, sym, subst, drop, length, arith}
use Rattle.std.specs.Option.{option_map}
use Rattle.stow_model.specs.Reply.{reply_of}
use Rattle.stow_shared.specs.StowHouse.Conversations.{Talk, talk_of}
use Rattle.stow_workers.specs.declared.client.Client.{Client}
use Rattle.stow_workers.specs.Sent.{sent_at}
use Rattle.stow_workers.specs.Turns.{IsRested, Shortens}
use Rattle.stow_workers.specs.NonblockingConnections.{unknown}
use Rattle.stow_workers.proofs.Pipelining.{rested_turn, rested_lightens, rested_weight, heard_end, heard_weigh}
use Rattle.stow_workers.proofs.Sending.{none_left}
use Rattle.stow_workers.proofs.Turning.{led_none, told_turn, told_shortens}
use Rattle.stow_workers.proofs.client.Client.hear_next.Goals as goal

pub returns-in-Some-clause-goes : goal.returns-in-Some-clause-goes
returns-in-Some-clause-goes g c writer =
    let zero : length c.hear_all-end.new.self.requests.items ≡ 0 = search rules in
    let none : c.hear_all-end.new.self.requests.items ≡ [] = none_left c.hear_all-end.new.self.requests.items zero in
    let told = c.tell.ensures.same in
    let hears = heard_end c.args.tenants.now c.hear_all-end.new.self.requests.items c.in-Some.reply c.in-Some.stop (talk_of c.args.self.now.conversation) (talk_of c.reuse_words.new.self.conversation) (talk_of c.hear_all-end.new.self.conversation) none c.reuse_words.ensures.talk c.in-Some.ensures.hears in
    let rests : IsRested c.tell.new.self = (ap (λ (s : Client _). drop s.done s.requests.items) told ∙ ap (λ n. drop n c.hear_all-end.new.self.requests.items) c.hear_all-end.ensures.done ∙ none, ap (λ (s : Client _). s.end) told ∙ c.hear_all-end.ensures.end ∙ c.reuse_words.ensures.end ∙ c.requires.rested.1) in
    rested_turn g.D.Door.answers c.args.tenants.now (option_map reply_of c.in-Some.reply) c.in-Some.stop c.tell.result c.args.door.now c.args.door.now c.args.self.now c.hear_all-end.new.self c.tell.new.self writer c.requires.rested rests (c.hear_all-end.ensures.replies ∙ c.reuse_words.ensures.replies) (ap (λ (s : Client _). s.conversation) told)
    (told_turn g.D.Door.answers c.args.tenants.now (option_map reply_of c.in-Some.reply) c.in-Some.stop (talk_of c.args.self.now.conversation) (talk_of c.hear_all-end.new.self.conversation) c.args.door.now hears) (c.tell.ensures.told writer)

pub returns-in-Some-clause-lighter : goal.returns-in-Some-clause-lighter
returns-in-Some-clause-lighter g c =
    let zero : length c.hear_all-end.new.self.requests.items ≡ 0 = search rules in
    let none : c.hear_all-end.new.self.requests.items ≡ [] = none_left c.hear_all-end.new.self.requests.items zero in
    let told = c.tell.ensures.same in
    let hears = heard_end c.args.tenants.now c.hear_all-end.new.self.requests.items c.in-Some.reply c.in-Some.stop (talk_of c.args.self.now.conversation) (talk_of c.reuse_words.new.self.conversation) (talk_of c.hear_all-end.new.self.conversation) none c.reuse_words.ensures.talk c.in-Some.ensures.hears in
    let rests : IsRested c.tell.new.self = (ap (λ (s : Client _). drop s.done s.requests.items) told ∙ ap (λ n. drop n c.hear_all-end.new.self.requests.items) c.hear_all-end.ensures.done ∙ none, ap (λ (s : Client _). s.end) told ∙ c.hear_all-end.ensures.end ∙ c.reuse_words.ensures.end ∙ c.requires.rested.1) in
    rested_lightens (option_map reply_of c.in-Some.reply) c.in-Some.stop c.tell.result c.args.self.now c.tell.new.self (sent_at unknown c.hear_all-end.new.self.replies) (sent_at unknown c.tell.new.self.replies) c.requires.rested rests
    (subst (λ t. Shortens c.in-Some.stop (talk_of c.args.self.now.conversation) t) (sym (ap (λ (s : Client _). talk_of s.conversation) told)) (told_shortens c.args.tenants.now (option_map reply_of c.in-Some.reply) c.in-Some.stop (talk_of c.args.self.now.conversation) (talk_of c.hear_all-end.new.self.conversation) hears))
    (c.tell.ensures.told unknown)

pub returns-in-Some-clause-led : goal.returns-in-Some-clause-led
returns-in-Some-clause-led g c = led_none _ _

pub returns-then-not-is_empty-clause-lighter : goal.returns-then-not-is_empty-clause-lighter
returns-then-not-is_empty-clause-lighter g c =
    let requests = c.hear_all-end.new.self.requests.items in
    let some : 0 < length c.hear_all-end.new.self.requests.items = search rules in
    let h = heard_weigh c.args.tenants.now requests c.hear_all-end.result (talk_of c.reuse_words.new.self.conversation) (talk_of c.hear_all-end.new.self.conversation) some c.hear_all-end.ensures.hears in
    let w = rested_weight c.args.self.now c.requires.rested in
    let l : length (drop c.hear_all-end.new.self.done c.hear_all-end.new.self.requests.items) ≡ length c.hear_all-end.new.self.requests.items = ap (λ n. length (drop n c.hear_all-end.new.self.requests.items)) c.hear_all-end.ensures.done in
    let t : length (talk_of c.reuse_words.new.self.conversation).unread ≡ length (talk_of c.args.self.now.conversation).unread = ap (λ (t : Talk). length t.unread) c.reuse_words.ensures.talk in
    omega (arith, h, w, l, t)

pub returns-then-not-is_empty-clause-led : goal.returns-then-not-is_empty-clause-led
returns-then-not-is_empty-clause-led g c = led_none _ _
