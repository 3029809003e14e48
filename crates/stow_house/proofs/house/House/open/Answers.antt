use Rattle.std.proofs.Common.{◌≡◌, refl, ap, sym, ◌∙◌, inl}
use Rattle.std.specs.Ordering.{nat_cmp}
use Rattle.std.specs.BTreeMap.{get}
use Rattle.stow_model.specs.Event as event
use Rattle.stow_model.specs.History.{opened}
use Rattle.stow_house.specs.Seen.{seen_at, never_opened}
use Rattle.stow_house.specs.StepResult.{Done, Refused, NoMemory, when_unused}
use Rattle.stow_house.proofs.Here.{plain, opened_twice, used, unused}
use Rattle.stow_house.proofs.Stood.{at_connection}
use Rattle.stow_house.proofs.house.House.open.Goals as goal

pub returns-then-contains_key-clause-steps : goal.returns-then-contains_key-clause-steps
returns-then-contains_key-clause-steps g c =
    let old = c.args.self.now.connections in
    at_connection _ _ c.args.c event.Open Refused
    (opened_twice (seen_at old c.args.c) c.args.self.now.core (used (get nat_cmp old c.args.c) (sym c.contains_key.ensures ∙ c.if-contains_key.true)))
    (λ d differ. refl)
    (λ f. refl)

pub open_at-requires : goal.open_at-requires
open_at-requires g c = unused (get nat_cmp c.args.self.now.connections c.args.c) (sym c.contains_key.ensures ∙ c.if-contains_key.false)

pub returns-in-Ok-clause-steps : goal.returns-in-Ok-clause-steps
returns-in-Ok-clause-steps g c =
    let old = c.args.self.now.connections in
    let new = c.open_at.new.connections in
    let now = c.in-Ok.ensures.ok in
    let was : seen_at old c.args.c ≡ never_opened = unused (get nat_cmp old c.args.c) (sym c.contains_key.ensures ∙ c.if-contains_key.false) in
    at_connection _ _ c.args.c event.Open Done
    (plain event.Open Done (seen_at old c.args.c) (seen_at new c.args.c) c.args.self.now.core tt
    (ap (λ s. s.status) now ∙ ap (λ s. opened s.status) (sym was))
    (ap (λ s. s.tenant) now ∙ ap (λ s. s.tenant) (sym was))
    (ap (λ s. s.unread) now ∙ ap (λ s. s.unread) (sym was))
    (ap (λ s. when_unused s.status Done) (sym was)))
    c.open_at.ensures.others
    (λ f. refl)

pub returns-in-Err-clause-steps : goal.returns-in-Err-clause-steps
returns-in-Err-clause-steps g c =
    let old = c.args.self.now.connections in
    let was : seen_at old c.args.c ≡ never_opened = unused (get nat_cmp old c.args.c) (sym c.contains_key.ensures ∙ c.if-contains_key.false) in
    at_connection _ _ c.args.c event.Open NoMemory
    (inl (record { asks = ap (λ s. s.status) was; result = refl; connection = c.in-Err.ensures.err ∙ sym was; core = refl }))
    c.open_at.ensures.others
    (λ f. refl)
