use Rattle.std.proofs.Common.{◌<◌, length, refl, ap, sym, ◌∙◌, subst}
use Rattle.stow_shared.specs.StowHouse.Conversations.{Talk, talk_of}
use Rattle.stow_workers.specs.declared.client.Client.{Client}
use Rattle.stow_workers.specs.Pipelined.{AsksAll}
use Rattle.stow_workers.proofs.Pipelining.{asks_on, asks_still}
use Rattle.stow_workers.proofs.Turning.{asked_shortens}
use Rattle.stow_workers.proofs.client.Client.hear_all.Goals as goal

pub loop-self-init : goal.loop-self-init
loop-self-init g c = (subst (λ requests. AsksAll c.args.tenants.now requests (talk_of c.args.self.now.conversation) (talk_of c.args.self.now.conversation)) (sym c.requires) refl, refl, refl, refl)

pub returns-in-Told-clause-hears : goal.returns-in-Told-clause-hears
returns-in-Told-clause-hears g c = record { mid = talk_of c.lend_words.new.self.conversation; asks = asks_still c.args.tenants.now _ _ _ _ _ (ap (λ (s : Client _). s.requests.items) c.lend_words.ensures.same) c.lend_words.ensures.talk c.loop-self.invariant.0; ends = c.in-Told.ensures }

pub loop-self-preserved : goal.loop-self-preserved
loop-self-preserved g c = (
  subst (λ requests. AsksAll c.args.tenants.now requests (talk_of c.args.self.now.conversation) (talk_of c.hear.new.self)) (sym c.push_reserved.ensures.items)
      (asks_on c.args.tenants.now c.lend_words.new.self.requests.items (record { tenant = c.in-Request.tenant; words = c.in-Request.words }) (talk_of c.args.self.now.conversation) (talk_of c.lend_words.new.self.conversation) (talk_of c.hear.new.self) (asks_still c.args.tenants.now _ _ _ _ _ (ap (λ (s : Client _). s.requests.items) c.lend_words.ensures.same) c.lend_words.ensures.talk c.loop-self.invariant.0) c.in-Request.ensures),
  ap (λ (s : Client _). s.replies) c.lend_words.ensures.same ∙ c.loop-self.invariant.1,
  ap (λ (s : Client _). s.done) c.lend_words.ensures.same ∙ c.loop-self.invariant.2,
  ap (λ (s : Client _). s.end) c.lend_words.ensures.same ∙ c.loop-self.invariant.3,
)

pub loop-self-smaller : goal.loop-self-smaller
loop-self-smaller g c = subst (λ (t : Talk). length (talk_of c.hear.new.self).unread < length t.unread) c.lend_words.ensures.talk
    (asked_shortens c.args.tenants.now c.in-Request.tenant c.in-Request.words (talk_of c.lend_words.new.self.conversation) (talk_of c.hear.new.self) (talk_of c.hear.new.self) c.in-Request.ensures refl)

pub returns-clause-hears : goal.returns-clause-hears
returns-clause-hears g c = record { mid = talk_of c.loop-self.self.conversation; asks = c.loop-self.invariant.0; ends = refl }
