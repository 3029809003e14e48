-- What an event does on its own connection.
use Rattle.std.proofs.Common.{◌≡◌, ◌≢◌, ℕ, eqb, Bool, true, false, List, Option, Some, None, is_some, refl, ap, ◌∙◌, sym, subst, ⊎_elim, inl, inr}
use Rattle.std.proofs.lemmas.Bool.{cases_eq, cond-true, cond-false, eq-eqb, ne_eqb}
use Rattle.stow_model.specs.Login.{Entry, IsTenant}
use Rattle.stow_model.specs.Event.{ConnectionEvent}
use Rattle.stow_model.specs.Event as event
use Rattle.stow_model.specs.Reply.{Reply}
use Rattle.stow_model.specs.Reply as reply
use Rattle.stow_model.specs.Store.{Answer, OwnEvent, Asked, step, is_out_of_memory}
use Rattle.stow_model.specs.History.{Plain, Status, Unused, IsOpen, Closed, Service, event_of_own, status_after_message, status_after_event, stream_after_event, request_of, request_of_message, message_reply, told_by}
use Rattle.stow_model.proofs.Refused.{want_of_memory_lem}
use Rattle.stow_core.specs.State.{CoreState, store_of, shared_of, Calls, Answers, AnswersRequest}
use Rattle.stow_core.specs.StowState.Steps.{SharedStep, Call}
use Rattle.stow_house.specs.SharedRuns.{IsCalled}
use Rattle.stow_house.specs.declared.connection.Connection.{Connection}
use Rattle.stow_house.specs.declared.connection_event.ConnectionEvent as coded
use Rattle.stow_house.specs.declared.connection_event.ConnectionEvent.TheVariants as in_code
use Rattle.stow_house.specs.declared.stop.Stop.{Stop}
use Rattle.stow_house.specs.declared.stop.Stop.TheVariants as stopped
use Rattle.stow_house.specs.Seen.{Seen, seen, IsServedTenant, never_opened, status_by}
use Rattle.stow_house.specs.StepResult.{StepResult, Refused, NoMemory, More, answered, answer_to_event, answer_to_own, served_so}
use Rattle.stow_house.specs.Sessions.{Whole, Taken, Told, ForStoreOf, taking}
use Rattle.stow_house.specs.Conversations.{Exchange, Read, Served, Faulted, step_of, reply_in, told_with, words_of, IsAsked, request_with, CanBePlain, Meets, Talk, as_seen, status_at, Tells, Asks}
use Rattle.stow_house.specs.Connections.{meaning, moved, reply_in_core, LeavesAll, Happens}
use Rattle.stow_house.proofs.Hearing.{Means, means}

-- ---- what is left of the core

-- where nothing changed all is left, whatever the answer
pub all_left : (r : StepResult) (before after : CoreState) → after ≡ before → LeavesAll r before after
all_left Refused before after same = same
all_left NoMemory before after same = same
all_left _ before after same = tt

-- a message that was taken was not refused
taken_leaves : (told : Option Reply) (before after : CoreState) → LeavesAll (answered told) before after
taken_leaves None before after = tt
taken_leaves (Some reply) before after = tt

-- ---- nothing is taken from the stream

pub plain : (e : ConnectionEvent) (r : StepResult) (old new : Seen) (core : CoreState) → CanBePlain e old → new.status ≡ status_after_event e old.status → new.tenant ≡ old.tenant → new.unread ≡ stream_after_event e old.status old.unread
    → r ≡ answer_to_event e old.status → Happens e r old new core core
plain e r old new core can status tenant unread result = inr (record {
  own = Plain e;
  is_event = refl;
  entries = refl;
  leaves = all_left r core core refl;
  moves = λ is. record { moves = record { can = can; status = status; tenant = tenant; unread = unread }; stores = λ t. refl; shared = refl; result = result };
})

-- an event on a connection that isn't open
refused_as : (e : coded.ConnectionEvent) (status : Status) (tenant : Option ℕ) (unread : List ℕ) (core : CoreState) → status ≢ IsOpen
    → Happens (meaning e) Refused (record { status = status; tenant = tenant; unread = unread }) (record { status = status; tenant = tenant; unread = unread }) core core
refused_as e IsOpen tenant unread core h = absurd (h refl)
refused_as (in_code.Piece bytes) Unused tenant unread core h = plain (event.Piece bytes.now) Refused _ _ core tt refl refl refl refl
refused_as (in_code.Piece bytes) Closed tenant unread core h = plain (event.Piece bytes.now) Refused _ _ core tt refl refl refl refl
refused_as in_code.Serve Unused tenant unread core h = plain event.Serve Refused _ _ core tt refl refl refl refl
refused_as in_code.Serve Closed tenant unread core h = plain event.Serve Refused _ _ core tt refl refl refl refl
refused_as in_code.Close Unused tenant unread core h = plain event.Close Refused _ _ core tt refl refl refl refl
refused_as in_code.Close Closed tenant unread core h = plain event.Close Refused _ _ core tt refl refl refl refl

pub refused : (e : coded.ConnectionEvent) (s : Seen) (core : CoreState) → s.status ≢ IsOpen → Happens (meaning e) Refused s s core core
refused e s core h = refused_as e s.status s.tenant s.unread core h

-- a number that was used is not opened again
opened_as : (status : Status) (tenant : Option ℕ) (unread : List ℕ) (core : CoreState) → status ≢ Unused
    → Happens event.Open Refused (record { status = status; tenant = tenant; unread = unread }) (record { status = status; tenant = tenant; unread = unread }) core core
opened_as Unused tenant unread core h = absurd (h refl)
opened_as IsOpen tenant unread core h = plain event.Open Refused _ _ core tt refl refl refl refl
opened_as Closed tenant unread core h = plain event.Open Refused _ _ core tt refl refl refl refl

pub opened_twice : (s : Seen) (core : CoreState) → s.status ≢ Unused → Happens event.Open Refused s s core core
opened_twice s core h = opened_as s.status s.tenant s.unread core h

never_unused : (is_open : Bool) → status_by is_open ≢ Unused
never_unused true e = cc
never_unused false e = cc

-- a connection that is there was opened
pub used : {A : Type 0} (o : Option (Connection A)) → is_some o ≡ true → (seen o).status ≢ Unused
used None some e = cc
used (Some connection) some e = never_unused connection.is_open e

-- a number that isn't there was never opened
pub unused : {A : Type 0} (o : Option (Connection A)) → is_some o ≡ false → seen o ≡ never_opened
unused None none = refl
unused (Some connection) none = absurd (cc)

-- ---- what is heard

-- where memory was refused is told by the reply
pub answered_by : (old new : CoreState) (tenant : ℕ) (words : List (List ℕ)) (r : Reply) (b : Bool) → is_out_of_memory r ≡ b → Answers old new tenant words r
    → AnswersRequest old new tenant (record { words = words; is_refused = b }) r
answered_by old new tenant words r b says (is_refused, is) =
    let told : is_refused ≡ b = sym (want_of_memory_lem (store_of old tenant) (record { words = words; is_refused = is_refused })) ∙ sym (ap (λ (a : Answer). is_out_of_memory a.1) is.alone) ∙ says in
    subst (λ x. AnswersRequest old new tenant (record { words = words; is_refused = x }) r) told is

-- what comes to the tenant moves its store, and no other
pub moves_by : (old new : CoreState) (tenant : ℕ) (own : OwnEvent) → store_of new tenant ≡ (step (store_of old tenant) own).0 → ((other : ℕ) → other ≢ tenant → store_of new other ≡ store_of old other)
    → (t : ℕ) → store_of new t ≡ moved t (Some (record { tenant = tenant; event = own })) (store_of old t)
moves_by old new tenant own is others t =
    let service : Option Service = Some (record { tenant = tenant; event = own }) in
    ⊎_elim
    (λ (e : tenant ≡ t). subst (λ x. store_of new x ≡ moved x service (store_of old x)) e (is ∙ sym (cond-true (eqb tenant tenant) _ _ (eq-eqb tenant tenant refl))))
    (λ (differ : tenant ≢ t). others t (λ e. differ (sym e)) ∙ sym (cond-false (eqb tenant t) _ _ (ne_eqb tenant t differ)))
    (cases_eq tenant t)

-- the event is a request, whose reply is told
abbrev pub IsShaped : Option Service → Option Reply → Reply → Type 0
IsShaped None told r = Unit {0}
IsShaped (Some service) told r = (service.event ≡ Asked (record { words = words_of service.event; is_refused = is_out_of_memory r })) × (told ≡ Some r)

-- what an exchange does to the core that is its door, and that its own stores tell the same
pub record Did (request : Option Service) (told there : Option Reply) (r : Reply) (old new : CoreState) : Type 0 where
  pub stores : (t : ℕ) → store_of new t ≡ moved t request (store_of old t)
  pub shared : IsCalled request there old new
  pub says : told ≡ there
  pub shape : IsShaped request told r

nothing_did : (told : Option Reply) (r : Reply) (old new : CoreState) → new ≡ old → Did None told told r old new
nothing_did told r old new same = record { stores = λ t. ap (λ c. store_of c t) same; shared = ap shared_of same; says = refl; shape = tt }

request_did : (tenant : ℕ) (words : List (List ℕ)) (r : Reply) (old new : CoreState) → IsTenant old.entries tenant → Calls old tenant words r new
    → Did (Some (request_with tenant words r)) (Some r) (Some (reply_in_core old (is_out_of_memory r) words tenant)) r old new
request_did tenant words r old new is called =
    let answer = answered_by old new tenant words r (is_out_of_memory r) refl (called.own is) in
    let says = ap (λ (a : Answer). Some a.1) answer.alone in
    record {
      stores = moves_by old new tenant (Asked (record { words = words; is_refused = is_out_of_memory r })) (ap (λ (a : Answer). a.0) answer.alone) called.others;
      shared = subst (λ o. SharedStep (shared_of old) (Call tenant (Asked (record { words = words; is_refused = is_out_of_memory r }))) o (shared_of new)) says answer.step;
      says = says;
      shape = (refl, refl);
    }

message_did : (taken : Taken) (request : Bool → Option Service) (status : Status) (says : (List (List ℕ) → ℕ → Reply) → Option Reply) (who : Option ℕ) (r : Reply) (old new : CoreState) → Means request status says who taken
    → IsServedTenant old.entries who → IsAsked Calls (request (is_out_of_memory r)) r old new → Did (request (is_out_of_memory r)) (says (λ words tenant. r)) (says (reply_in_core old (is_out_of_memory r))) r old new
message_did (Told told ends) request status says who r old new is served asked =
    let none = is.0 (is_out_of_memory r) in
    rw (none, is.2 (λ words tenant. r), is.2 (reply_in_core old (is_out_of_memory r))) (nothing_did told r old new (subst (λ o. IsAsked Calls o r old new) none asked))
message_did (ForStoreOf tenant words) request status says who r old new is served asked =
    let some = is.0 (is_out_of_memory r) in
    rw (some, is.2 (λ words tenant. r), is.2 (reply_in_core old (is_out_of_memory r))) (request_did tenant words r old new (served tenant is.3) (subst (λ o. IsAsked Calls o r old new) some asked))

pub did : (entries : List Entry) (x : Exchange) (who : Option ℕ) (old new : CoreState) → IsServedTenant old.entries who → IsAsked Calls (request_of (step_of x) who) (reply_in x) old new
    → Did (request_of (step_of x) who) (told_with entries x who) (told_by entries (step_of x) who (reply_in_core old)) (reply_in x) old new
did entries (Read bytes) who old new served asked = nothing_did None reply.Null old new asked
did entries (Served m r) who old new served asked =
    message_did (taking entries (Whole m) who) (λ b. request_of_message m b who) (status_after_message m IsOpen) (λ f. message_reply entries m who f) who r old new (means entries m who) served asked
did entries (Faulted fault) who old new served asked = nothing_did _ reply.Null old new asked

-- the tenants stay
pub same_tenants : (request : Option Service) (r : Reply) (old new : CoreState) → IsAsked Calls request r old new → new.entries ≡ old.entries
same_tenants None r old new asked = ap (λ c. c.entries) asked
same_tenants (Some service) r old new asked = asked.entries

-- a message or a fault was met, over the core
met : (x : Exchange) → event_of_own (step_of x) ≡ event.Serve → ((status : Status) (told : Option Reply) → answer_to_own (step_of x) status told ≡ answered told) → (request : Option Service) (told : Option Reply) (old new : Seen) (before after : CoreState)
    → Meets before.entries x request told old new → IsAsked Calls request (reply_in x) before after → Happens event.Serve (answered told) old new before after
met x serves answers request told old new before after m asked = inr (record {
  own = step_of x;
  is_event = serves;
  entries = same_tenants request (reply_in x) before after asked;
  leaves = taken_leaves told before after;
  moves = λ is.
      let d = did before.entries x old.tenant before after is (subst (λ o. IsAsked Calls o (reply_in x) before after) (sym m.asks) asked) in
      record { moves = m.moves; stores = d.stores; shared = d.shared; result = ap answered (m.says ∙ d.says) ∙ sym (answers old.status _) };
})

-- no door was asked
tells_alone : (told : Option Reply) (stop : Option Stop) (old new : Talk) (core : CoreState) → Tells core.entries told stop old new → Happens event.Serve (served_so told stop) (as_seen IsOpen old) (as_seen (status_at stop) new) core core
tells_alone told None old new core (m, is) = met (Served m reply.Null) refl (λ s t. refl) None told _ _ core core is refl
tells_alone told (Some stopped.More) old new core (begun, none, same) = plain event.Serve More _ _ core begun refl (ap (λ t. t.tenant) same) (ap (λ t. t.unread) same) refl
tells_alone told (Some stopped.Quit) old new core (m, is) = met (Served m reply.Null) refl (λ s t. refl) None told _ _ core core is refl
tells_alone told (Some (stopped.Faulted fault)) old new core is = met (Faulted fault) refl (λ s t. refl) None told _ _ core core is refl
tells_alone told (Some stopped.NoMemory) old new core (words, none, same) = inl (record { asks = (refl, words); result = refl; connection = ap (as_seen IsOpen) same; core = refl })

pub told_alone : (entries : List Entry) (reply : Option Reply) (stop : Option Stop) (old new : Talk) (core : CoreState) → entries ≡ core.entries → Tells entries reply stop old new → Happens event.Serve (served_so reply stop) (as_seen IsOpen old) (as_seen (status_at stop) new) core core
told_alone entries reply stop old new core same is = tells_alone reply stop old new core (subst (λ es. Tells es reply stop old new) same is)

-- the core was asked
pub asked_core : (entries : List Entry) (tenant : ℕ) (words : List (List ℕ)) (r : Reply) (old new : Talk) (before after : CoreState) → entries ≡ before.entries → Asks entries tenant words old new → Calls before tenant words r after
    → Happens event.Serve (answered (Some r)) (as_seen IsOpen old) (as_seen IsOpen new) before after
asked_core entries tenant words r old new before after same (m, is) called =
    met (Served m r) refl (λ s t. refl) (Some (request_with tenant words r)) (Some r) _ _ before after (subst (λ es. Meets es (Served m r) (Some (request_with tenant words r)) (Some r) (as_seen IsOpen old) (as_seen IsOpen new)) same (is r)) called

-- .. of the code's connection, which was open
pub here : (r r' : StepResult) (was is : Bool) (status : Status) (old mid new : Talk) (before after : CoreState) → r' ≡ r → was ≡ true → status_by is ≡ status → new ≡ mid → Happens event.Serve r (as_seen IsOpen old) (as_seen status mid) before after
    → Happens event.Serve r' (as_seen (status_by was) old) (as_seen (status_by is) new) before after
here r r' was is status old mid new before after same opened stays left h =
    subst (λ x. Happens event.Serve x (as_seen (status_by was) old) (as_seen (status_by is) new) before after) (sym same)
    (subst (λ s. Happens event.Serve r (as_seen s old) (as_seen (status_by is) new) before after) (sym (ap status_by opened))
    (subst (λ s. Happens event.Serve r (as_seen IsOpen old) (as_seen s new) before after) (sym stays)
    (subst (λ t. Happens event.Serve r (as_seen IsOpen old) (as_seen status t) before after) (sym left) h)))
