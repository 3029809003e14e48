-- A history goes on by what happened on one connection, or on none.
use Rattle.std.proofs.Common.{◌≡◌, ◌≢◌, ℕ, ◌<◌, ◌≤◌, inl, inr, eqb, Bool, true, false, List, length, [], ◌∷◌, ◌++◌, Option, Some, None, refl, ap, ◌∙◌, sym, subst, ⊎_elim, arith, append_assoc}
use Rattle.std.proofs.Math.Dec.{leb}
use Rattle.std.proofs.lemmas.Bool.{cases_eq, cond-true, cond-false, eq-eqb, ne_eqb, le-leb}
use Rattle.std.proofs.lemmas.Bool.Decides.{nat_tests, leb_tells}
use Rattle.std.specs.Prelude.{◌⊎◌, ◌&&◌, nat_le}
use Rattle.stow_bytes.specs.Limits.{number_limit}
use Rattle.stow_model.specs.Login.{Entry, IsTenant, quota_of}
use Rattle.stow_model.specs.Message.{Message}
use Rattle.stow_model.specs.Reply.{Reply}
use Rattle.stow_model.specs.Event.{Event, ConnectionEvent, FlusherEvent}
use Rattle.stow_model.specs.Event as event
use Rattle.stow_model.specs.Wire.{SpellsAll}
use Rattle.stow_model.specs.Store.{OwnEvent, GivenQuota, answer_with, store_after}
use Rattle.stow_model.specs.History.{Step, Void, At, Flushed, Ordered, ConnectionStep, Plain, Took, Broke, Status, Unused, IsOpen, Closed, with_own, part_of, status_of, status_after, served_as, served_after, taken_by, taken_after, stream_of, stream_after, stream_with, stream_after_event, Service, request_of, may_be_given, given_to, with_service, service_of, line_of, told_by, reply_in_line, told_at, CanLead, MayTakeNothing, CanBeVoid, MayBeVoid, Follows, IsStep, IsHistory}
use Rattle.stow_core.specs.State.{CoreState, store_of, shared_of, IsNewCore, Keeps}
use Rattle.stow_core.specs.State as in_core
use Rattle.stow_core.specs.StowState.State.{SharedState, IsSound, new_state}
use Rattle.stow_core.specs.StowState.Steps.{SharedStep, SharedRun, ToldEvent, Maintenance}
use Rattle.stow_core.specs.StowState.Steps as in_state
use Rattle.stow_core.proofs.StowState.Steps.{run_sound, step_is_there_law}
use Rattle.stow_house.specs.SharedRuns.{IsCalled, call_of, shared_steps}
use Rattle.stow_house.specs.Seen.{Seen, IsServedTenant, never_opened}
use Rattle.stow_house.specs.StepResult.{StepResult, Done, Refused, NoMemory, answer_to_own, answer_to_order, MayAnswer, IsAnswer}
use Rattle.stow_house.specs.Conversations.{Reads, CanWait, Can}
use Rattle.stow_house.specs.Connections.{moved, MovesConnection, Leads, AsksMemory, IsVoid, Happens}
use Rattle.stow_house.specs.Steps.{HouseState, StandsAt, Stands, GoesOn, FlusherBy, FlusherLeaves, IsStepOf}
use Rattle.stow_house.proofs.Here.{all_left, moves_by}
use Rattle.stow_house.proofs.Tenants.{served_tenant}

-- ---- what is unread tells what the whole stream tells

-- what is known of one connection's stream
record Read (taken : List Message) (stream unread : List ℕ) : Type 0 where
  pub front : List ℕ
  pub spelled : SpellsAll taken front
  pub whole : stream ≡ front ++ unread

may_wait : (status : Status) (stream unread : List ℕ) (taken : List Message) → Read taken stream unread → CanWait status unread → MayTakeNothing status stream taken
may_wait Unused stream unread taken r can = tt
may_wait IsOpen stream unread taken r can = (r.front, unread, r.spelled, can, r.whole)
may_wait Closed stream unread taken r can = tt

can_lead : (own : ConnectionStep) (status : Status) (tenant : Option ℕ) (stream unread new : List ℕ) (taken : List Message) → Read taken stream unread → Reads own status unread new
    → Can own (record { status = status; tenant = tenant; unread = unread }) → CanLead own status tenant stream taken
can_lead (Plain event.Open) status tenant stream unread new taken r reads can = tt
can_lead (Plain (event.Piece bytes)) status tenant stream unread new taken r reads can = tt
can_lead (Plain event.Serve) status tenant stream unread new taken r reads can = may_wait status stream unread taken r can
can_lead (Plain event.Close) status tenant stream unread new taken r reads can = tt
can_lead (Took m is_refused) status tenant stream unread new taken r reads can = (can.0, (r.front, reads.0, new, r.spelled, reads.1, r.whole ∙ ap (λ t. r.front ++ t) reads.2), can.1)
can_lead (Broke fault) status tenant stream unread new taken r reads can = (can.0, (r.front, unread, r.spelled, can.1, r.whole))

can_be_void : (e : ConnectionEvent) (status : Status) (tenant : Option ℕ) (stream unread : List ℕ) (taken : List Message) → Read taken stream unread
    → AsksMemory e (record { status = status; tenant = tenant; unread = unread }) → CanBeVoid e status stream taken
can_be_void event.Open status tenant stream unread taken r asks = asks
can_be_void (event.Piece bytes) status tenant stream unread taken r asks = asks
can_be_void event.Serve status tenant stream unread taken r asks =
    let words = asks.1 in
    (asks.0, (words.0, (r.front, words.2.0, words.1, r.spelled, words.2.1, r.whole ∙ ap (λ t. r.front ++ t) words.2.2)))
can_be_void event.Close status tenant stream unread taken r asks = asks

-- ---- a connection's stream goes on

with_piece : (status : Status) (front unread bytes : List ℕ) → stream_with status (front ++ unread) bytes ≡ front ++ stream_with status unread bytes
with_piece Unused front unread bytes = refl
with_piece IsOpen front unread bytes = append_assoc front unread bytes
with_piece Closed front unread bytes = refl

piece : (e : ConnectionEvent) (status : Status) (front unread : List ℕ) → stream_after_event e status (front ++ unread) ≡ front ++ stream_after_event e status unread
piece event.Open status front unread = refl
piece (event.Piece bytes) status front unread = with_piece status front unread bytes
piece event.Serve status front unread = refl
piece event.Close status front unread = refl

reads_on : (own : ConnectionStep) (status : Status) (taken : List Message) (front unread new : List ℕ) → SpellsAll taken front → Reads own status unread new → Read (taken_after own taken) (stream_after own status (front ++ unread)) new
reads_on (Plain e) status taken front unread new s r = record { front = front; spelled = s; whole = piece e status front unread ∙ ap (λ t. front ++ t) (sym r) }
reads_on (Took m is_refused) status taken front unread new s r = record { front = front ++ r.0; spelled = (front, r.0, s, r.1, refl); whole = ap (λ t. front ++ t) r.2 ∙ sym (append_assoc front r.0 new) }
reads_on (Broke fault) status taken front unread new s r = record { front = front; spelled = s; whole = ap (λ t. front ++ t) (sym r) }

pub follows : (entries : List Entry) (own : ConnectionStep) (old new : Seen) (part : List ConnectionStep) → StandsAt entries old part → Reads own old.status old.unread new.unread → Can own old → Follows entries own part
unfolding Follows
follows entries own old new part a reads can =
    let stream = stream_of part in
    let taken = taken_by part in
    subst (λ status. CanLead own status (served_as entries part) stream taken) a.status
    (subst (λ tenant. CanLead own old.status tenant stream taken) a.tenant
    (can_lead own old.status old.tenant stream old.unread new.unread taken (record { front = a.front; spelled = a.taken; whole = a.stream }) reads can))

void_follows : (entries : List Entry) (e : ConnectionEvent) (old : Seen) (part : List ConnectionStep) → StandsAt entries old part → AsksMemory e old → MayBeVoid e part
unfolding MayBeVoid
void_follows entries e old part a asks =
    subst (λ status. CanBeVoid e status (stream_of part) (taken_by part)) a.status
    (can_be_void e old.status old.tenant (stream_of part) old.unread (taken_by part) (record { front = a.front; spelled = a.taken; whole = a.stream }) asks)

pub stands_here : (entries : List Entry) (own : ConnectionStep) (old new : Seen) (part : List ConnectionStep) → StandsAt entries old part
    → new.status ≡ status_after own old.status → new.tenant ≡ served_after entries own old.tenant → Reads own old.status old.unread new.unread → StandsAt entries new (own ∷ part)
unfolding status_of served_as taken_by stream_of
stands_here entries own old new part a status tenant reads =
    let read = reads_on own old.status (taken_by part) a.front old.unread new.unread a.taken reads in
    record {
      status = status ∙ ap (status_after own) a.status;
      tenant = tenant ∙ ap (served_after entries own) a.tenant;
      front = read.front;
      taken = read.spelled;
      stream = (λ i. stream_after own (sym a.status i) (a.stream i)) ∙ read.whole;
    }

-- ---- a tenant

pub one_more : (tenant quota : ℕ) (service : Option Service) (line : List OwnEvent) → moved tenant service (store_after quota line) ≡ store_after quota (with_service tenant service line)
unfolding store_after
one_more tenant quota None line = refl
one_more tenant quota (Some service) line = grind (arith, nat_tests)

-- ---- the house

-- what happened at one connection is its own, and every other's part is as it was
stands_at : (entries : List Entry) (old new : HouseState) (c : ℕ) (own : ConnectionStep) (history : List Step) → Stands entries old history → StandsAt entries (new.seen c) (own ∷ part_of c history)
    → ((d : ℕ) → d ≢ c → new.seen d ≡ old.seen d) → (d : ℕ) → StandsAt entries (new.seen d) (part_of d (At c own ∷ history))
unfolding part_of
stands_at entries old new c own history s here others d =
    ⊎_elim
    (λ (e : c ≡ d). subst (λ x. StandsAt entries (new.seen x) (with_own x (At c own) (part_of x history))) e
    (subst (λ part. StandsAt entries (new.seen c) part) (sym (cond-true (eqb c c) (own ∷ part_of c history) (part_of c history) (eq-eqb c c refl))) here))
    (λ (differ : c ≢ d). subst (λ part. StandsAt entries (new.seen d) part) (sym (cond-false (eqb c d) (own ∷ part_of d history) (part_of d history) (ne_eqb c d differ)))
    (subst (λ seen. StandsAt entries seen (part_of d history)) (sym (others d (λ e. differ (sym e)))) (s.connections d)))
    (cases_eq c d)

-- what comes to a tenant's store is the next step of the shared run
on : (first : SharedState) (service service' : Option Service) (told told' : Option Reply) (steps : List ToldEvent) (old new : CoreState) → service ≡ service' → told ≡ told' → IsCalled service told old new → SharedRun first steps (shared_of old)
    → SharedRun first (call_of service' told' ++ steps) (shared_of new)
on first None service' told told' steps old new is same called run = subst (λ s. SharedRun first (call_of s told' ++ steps) (shared_of new)) is (subst (SharedRun first steps) (sym called) run)
on first (Some service) service' told told' steps old new is same called run =
    subst (λ s. SharedRun first (call_of s told' ++ steps) (shared_of new)) is (subst (λ t. SharedRun first (call_of (Some service) t ++ steps) (shared_of new)) same (shared_of old, run, called))

-- a connection's step
led : (old new : HouseState) (c : ℕ) (own : ConnectionStep) (r : StepResult) (history : List Step) → new.core.entries ≡ old.core.entries → MovesConnection own r (old.seen c) (new.seen c) old.core new.core
    → ((d : ℕ) → d ≢ c → new.seen d ≡ old.seen d) → Stands old.core.entries old history → GoesOn old.core.entries (At c own) history r new
unfolding IsHistory IsStep IsAnswer line_of service_of told_at reply_in_line shared_steps
led old new c own r history same m others s =
    let entries = old.core.entries in
    let at = s.connections c in
    let seen = old.seen c in
    let who : seen.tenant ≡ served_as entries (part_of c history) = at.tenant in
    record {
      stands = record {
        is_history = (follows entries own seen (new.seen c) (part_of c history) at m.moves.unread m.moves.can, s.is_history);
        tenants = same;
        connections = stands_at entries old new c own history s (stands_here entries own seen (new.seen c) (part_of c history) at m.moves.status m.moves.tenant m.moves.unread) others;
        stores = λ t. m.stores t ∙ (λ i. moved t (request_of own (who i)) (s.stores t i)) ∙ one_more t (quota_of entries t) (request_of own (served_as entries (part_of c history))) (line_of entries t history);
        shared = on (new_state (quota_of entries)) (request_of own seen.tenant) (request_of own (served_as entries (part_of c history))) _ _ (shared_steps entries history) old.core new.core
            (ap (request_of own) who) (λ i. told_by entries own (who i) (λ is_refused words t. (answer_with (s.stores t i) (record { words = words; is_refused = is_refused })).1)) m.shared s.shared;
      };
      answer = m.result
          ∙ (λ i. answer_to_own own (at.status i) (told_by entries own (who i) (λ is_refused words t. (answer_with (s.stores t i) (record { words = words; is_refused = is_refused })).1)));
    }

-- nothing changed
stayed : (entries : List Entry) (old new : HouseState) (step : Step) (history : List Step) → Stands entries old history → ((d : ℕ) → new.seen d ≡ old.seen d)
    → new.core.entries ≡ old.core.entries → ((t : ℕ) → store_of new.core t ≡ store_of old.core t)
    → IsStep entries step history → ((d : ℕ) → part_of d (step ∷ history) ≡ part_of d history) → ((t : ℕ) → line_of entries t (step ∷ history) ≡ line_of entries t history)
    → SharedRun (new_state (quota_of entries)) (shared_steps entries (step ∷ history)) (shared_of new.core) → Stands entries new (step ∷ history)
unfolding IsHistory
stayed entries old new step history s seen tenants stores is part line shared = record {
  is_history = (is, s.is_history);
  tenants = tenants ∙ s.tenants;
  connections = λ d. subst (λ p. StandsAt entries (new.seen d) p) (sym (part d)) (subst (λ x. StandsAt entries x (part_of d history)) (sym (seen d)) (s.connections d));
  stores = λ t. stores t ∙ s.stores t ∙ ap (store_after (quota_of entries t)) (sym (line t));
  shared = shared;
}

voided : (entries : List Entry) (old new : HouseState) (c : ℕ) (e : ConnectionEvent) (r : StepResult) (history : List Step) → IsVoid e r (old.seen c) (new.seen c) old.core new.core
    → ((d : ℕ) → d ≢ c → new.seen d ≡ old.seen d) → Stands entries old history → GoesOn entries (Void (event.On c e)) history r new
unfolding IsStep IsAnswer part_of line_of service_of shared_steps
voided entries old new c e r history v others s = record {
  stands = stayed entries old new (Void (event.On c e)) history s
      (λ d. ⊎_elim (λ (same : c ≡ d). subst (λ x. new.seen x ≡ old.seen x) same v.connection) (λ (differ : c ≢ d). others d (λ same. differ (sym same))) (cases_eq c d))
      (ap (λ x. x.entries) v.core) (λ t. ap (λ x. store_of x t) v.core) (void_follows entries e (old.seen c) (part_of c history) (s.connections c) v.asks) (λ d. refl) (λ t. refl)
      (subst (λ core. SharedRun (new_state (quota_of entries)) (shared_steps entries history) (shared_of core)) (sym v.core) s.shared);
  answer = v.result;
}

-- what happened at its own connection is a step of the house
pub at_connection : (old new : HouseState) (c : ℕ) (e : ConnectionEvent) (r : StepResult) → Happens e r (old.seen c) (new.seen c) old.core new.core
    → ((d : ℕ) → d ≢ c → new.seen d ≡ old.seen d) → ((f : ℕ) → new.flusher f ≡ old.flusher f) → IsStepOf old (event.On c e) r new
at_connection old new c e r happens others flushers =
    ⊎_elim
    (λ (v : IsVoid e r (old.seen c) (new.seen c) old.core new.core). record {
      step = Void (event.On c e);
      is_event = refl;
      goes_on = λ entries history s. voided entries old new c e r history v others s;
      flushers = flushers;
      tenants = ap (λ x. x.entries) v.core;
      leaves = all_left r old.core new.core v.core;
    })
    (λ (l : Leads e r (old.seen c) (new.seen c) old.core new.core). record {
      step = At c l.own;
      is_event = ap (event.On c) l.is_event;
      goes_on = λ entries history s.
          subst (λ es. Stands es old history → GoesOn es (At c l.own) history r new) s.tenants
          (λ own. led old new c l.own r history l.entries (l.moves (subst (λ o. IsServedTenant old.core.entries o) (sym (own.connections c).tenant) (served_tenant old.core.entries (part_of c history)))) others own) s;
      flushers = flushers;
      tenants = l.entries;
      leaves = l.leaves;
    })
    happens

-- nothing is a step of maintenance
idle : (core : CoreState) → IsSound (shared_of core) → SharedStep (shared_of core) Maintenance None (shared_of core)
unfolding in_state.moved in_state.reply_to
idle core sound = step_is_there_law (shared_of core) Maintenance sound tt

-- no store moved, and what did is a step of maintenance
pub record IsKept (before after : CoreState) : Type 0 where
  pub entries : after.entries ≡ before.entries
  pub stores : (t : ℕ) → store_of after t ≡ store_of before t
  pub way : IsSound (shared_of before) → SharedStep (shared_of before) Maintenance None (shared_of after)

pub kept_by : (before after : CoreState) → Keeps before after → IsKept before after
kept_by before after keeps = record { entries = keeps.entries; stores = keeps.stores; way = λ _. keeps.gives_way.step }

pub kept_as : (before after : CoreState) → after ≡ before → IsKept before after
kept_as before after same = subst (IsKept before) (sym same) (record { entries = refl; stores = λ t. refl; way = idle before })

-- what an event of a flusher leaves of the core is told by what it did
flusher_leaves : (e : FlusherEvent) (r : StepResult) (old new : HouseState) → FlusherBy e r old new → FlusherLeaves e r old.core new.core
flusher_leaves (event.Plan f) Refused old new is = is.0.1.core
flusher_leaves (event.Plan f) NoMemory old new is = is.0.messages
flusher_leaves (event.Plan f) _ old new is = tt
flusher_leaves (event.Merge f) Refused old new is = is.2
flusher_leaves (event.Merge f) NoMemory old new is = is.2
flusher_leaves (event.Merge f) _ old new is = tt
flusher_leaves (event.Install f) Refused old new is = is.0.1.core
flusher_leaves (event.Install f) NoMemory old new is = is.0.2.read.root
flusher_leaves (event.Install f) _ old new is = tt
flusher_leaves (event.Resize n) Refused old new is = is.0
flusher_leaves (event.Resize n) NoMemory old new is = is.0
flusher_leaves (event.Resize n) _ old new is = tt

-- an event of a flusher changes no connection and no store
pub flushed : (old new : HouseState) (e : FlusherEvent) (r : StepResult) → MayAnswer e r → ((d : ℕ) → new.seen d ≡ old.seen d)
    → IsKept old.core new.core → FlusherBy e r old new → IsStepOf old (event.By e) r new
unfolding IsStep IsAnswer part_of line_of service_of shared_steps
flushed old new e r may seen kept flushers = record {
  step = Flushed e;
  is_event = refl;
  goes_on = λ entries history s. record {
    stands = stayed entries old new (Flushed e) history s seen kept.entries kept.stores tt (λ d. refl) (λ t. refl)
        (shared_of old.core, s.shared, kept.way (run_sound (quota_of entries) (shared_steps entries history) (shared_of old.core) s.shared));
    answer = may;
  };
  flushers = flushers;
  tenants = kept.entries;
  leaves = flusher_leaves e r old new flushers;
}

-- ---- a quota

not_le : (a b : ℕ) → b < a → leb a b ≡ false
not_le a b below = ⊎_elim (λ holds. let up : a ≤ b = holds.1 in absurd (omega (arith, up, below))) (λ fails. fails.0) (leb_tells a b)

and_false : (a b : Bool) → b ≡ false → (a && b) ≡ false
and_false true b e = e
and_false false b e = refl

-- when a quota may be given
pub may_give : (entries : List Entry) (tenant quota : ℕ) → IsTenant entries tenant → quota ≤ number_limit → may_be_given entries tenant quota ≡ true
may_give entries tenant quota is within = λ i. le-leb 1 tenant is.0 i && (le-leb tenant (length entries) is.1 i && le-leb quota number_limit within i)

-- .. and when it may not
pub may_not : (entries : List Entry) (tenant quota : ℕ) → (tenant < 1) ⊎ ((length entries < tenant) ⊎ (number_limit < quota)) → may_be_given entries tenant quota ≡ false
may_not entries tenant quota (inl none) = ap (λ b. b && (nat_le tenant (length entries) && nat_le quota number_limit)) (not_le 1 tenant none)
may_not entries tenant quota (inr (inl past)) = and_false (nat_le 1 tenant) _ (ap (λ b. b && nat_le quota number_limit) (not_le tenant (length entries) past))
may_not entries tenant quota (inr (inr above)) = and_false (nat_le 1 tenant) _ (and_false (nat_le tenant (length entries)) _ (not_le quota number_limit above))

-- the quota came to the tenant's store
ordered : (old new : HouseState) (tenant quota : ℕ) (history : List Step) → may_be_given old.core.entries tenant quota ≡ true → ((d : ℕ) → new.seen d ≡ old.seen d)
    → in_core.Moves old.core tenant (record (store_of old.core tenant) { quota = quota }) new.core → Stands old.core.entries old history → GoesOn old.core.entries (Ordered tenant quota) history Done new
unfolding IsHistory IsStep IsAnswer part_of line_of service_of shared_steps
ordered old new tenant quota history may seen m s =
    let entries = old.core.entries in
    let service : Option Service = Some (given_to tenant quota) in
    let is : service ≡ service_of entries (Ordered tenant quota) history = sym (cond-true (may_be_given entries tenant quota) service None may) in
    record {
      stands = record {
        is_history = (tt, s.is_history);
        tenants = m.entries;
        connections = λ d. subst (λ x. StandsAt entries x (part_of d history)) (sym (seen d)) (s.connections d);
        stores = λ t. moves_by old.core new.core tenant (GivenQuota quota) m.own m.others t ∙ ap (moved t service) (s.stores t) ∙ one_more t (quota_of entries t) service (line_of entries t history)
            ∙ ap (λ o. store_after (quota_of entries t) (with_service t o (line_of entries t history))) is;
        shared = on (new_state (quota_of entries)) service (service_of entries (Ordered tenant quota) history) None None (shared_steps entries history) old.core new.core is refl
            (m.step (GivenQuota quota) None refl) s.shared;
      };
      answer = ap answer_to_order (sym may);
    }

-- the quota was refused
unordered : (entries : List Entry) (house : HouseState) (tenant quota : ℕ) (history : List Step) → may_be_given entries tenant quota ≡ false → Stands entries house history → GoesOn entries (Ordered tenant quota) history Refused house
unfolding IsStep IsAnswer part_of line_of service_of shared_steps
unordered entries house tenant quota history may s =
    let is : service_of entries (Ordered tenant quota) history ≡ None = cond-false (may_be_given entries tenant quota) (Some (given_to tenant quota)) None may in
    record {
      stands = stayed entries house house (Ordered tenant quota) history s (λ d. refl) refl (λ t. refl) tt (λ d. refl) (λ t. ap (λ o. with_service t o (line_of entries t history)) is)
          (subst (λ o. SharedRun (new_state (quota_of entries)) (call_of o None ++ shared_steps entries history) (shared_of house.core)) (sym is) s.shared);
      answer = ap answer_to_order (sym may);
    }

-- a tenant was given a quota
pub given : (old new : HouseState) (tenant quota : ℕ) → may_be_given old.core.entries tenant quota ≡ true → ((d : ℕ) → new.seen d ≡ old.seen d) → ((f : ℕ) → new.flusher f ≡ old.flusher f)
    → in_core.Moves old.core tenant (record (store_of old.core tenant) { quota = quota }) new.core → IsStepOf old (event.SetQuota tenant quota) Done new
given old new tenant quota may seen flushers m = record {
  step = Ordered tenant quota;
  is_event = refl;
  goes_on = λ entries history s. subst (λ es. Stands es old history → GoesOn es (Ordered tenant quota) history Done new) s.tenants (ordered old new tenant quota history may seen m) s;
  flushers = flushers;
  tenants = m.entries;
  leaves = tt;
}

-- nobody was given it
pub not_given : (house : HouseState) (tenant quota : ℕ) → may_be_given house.core.entries tenant quota ≡ false → IsStepOf house (event.SetQuota tenant quota) Refused house
not_given house tenant quota may = record {
  step = Ordered tenant quota;
  is_event = refl;
  goes_on = λ entries history s. unordered entries house tenant quota history (ap (λ es. may_be_given es tenant quota) (sym s.tenants) ∙ may) s;
  flushers = λ f. refl;
  tenants = refl;
  leaves = refl;
}

-- a new house stands at the empty history
pub stands_new : (house : HouseState) → ((c : ℕ) → house.seen c ≡ never_opened) → IsNewCore house.core → Stands house.core.entries house []
unfolding IsHistory part_of status_of served_as taken_by stream_of store_after line_of shared_steps
stands_new house none empty = record {
  is_history = tt;
  tenants = refl;
  connections = λ c. record {
    status = ap (λ s. s.status) (none c);
    tenant = ap (λ s. s.tenant) (none c);
    front = [];
    taken = refl;
    stream = ap (λ s. s.unread) (sym (none c));
  };
  stores = empty.stores;
  shared = empty.shared;
}
