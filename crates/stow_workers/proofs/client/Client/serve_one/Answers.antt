use Rattle.std.proofs.Common.{ap, ◌∙◌, sym, subst, drop}
use Rattle.std.specs.Option.{option_map}
use Rattle.stow_model.specs.Reply.{reply_of}
use Rattle.stow_shared.specs.StowHouse.Conversations.{talk_of}
use Rattle.stow_workers.specs.declared.client.Client.{Client}
use Rattle.stow_workers.specs.Sent.{sent_at}
use Rattle.stow_workers.specs.Turns.{IsRested, Shortens}
use Rattle.stow_workers.specs.NonblockingConnections.{unknown}
use Rattle.stow_workers.proofs.Pipelining.{rested_turn, rested_lightens}
use Rattle.stow_workers.proofs.client.Client.serve_one.Goals as goal

pub returns-clause-goes : goal.returns-clause-goes
returns-clause-goes g c writer =
    let told = c.tell.ensures.same in
    let turned = c.turn-reply.ensures.same in
    let rests : IsRested c.tell.new.self = (ap (λ (s : Client _). drop s.done s.requests.items) told ∙ ap (λ (s : Client _). drop s.done s.requests.items) turned ∙ c.requires.rested.0, ap (λ (s : Client _). s.end) told ∙ ap (λ (s : Client _). s.end) turned ∙ c.requires.rested.1) in
    rested_turn _ _ _ _ _ _ _ c.args.self.now c.turn-reply.new.self c.tell.new.self writer c.requires.rested rests (ap (λ (s : Client _). s.replies) turned) (ap (λ (s : Client _). s.conversation) told) c.turn-reply.ensures.turns (c.tell.ensures.told writer)

pub returns-clause-lighter : goal.returns-clause-lighter
returns-clause-lighter g c =
    let told = c.tell.ensures.same in
    let turned = c.turn-reply.ensures.same in
    let rests : IsRested c.tell.new.self = (ap (λ (s : Client _). drop s.done s.requests.items) told ∙ ap (λ (s : Client _). drop s.done s.requests.items) turned ∙ c.requires.rested.0, ap (λ (s : Client _). s.end) told ∙ ap (λ (s : Client _). s.end) turned ∙ c.requires.rested.1) in
    rested_lightens (option_map reply_of c.turn-reply.result.0) c.turn-reply.result.1 c.tell.result c.args.self.now c.tell.new.self (sent_at unknown c.turn-reply.new.self.replies) (sent_at unknown c.tell.new.self.replies) c.requires.rested rests
    (subst (λ t. Shortens c.turn-reply.result.1 (talk_of c.args.self.now.conversation) t) (sym (ap (λ (s : Client _). talk_of s.conversation) told)) c.turn-reply.ensures.shorter) (c.tell.ensures.told unknown)
