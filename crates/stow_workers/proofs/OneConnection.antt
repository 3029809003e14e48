-- A connection that is served through a core has a history.
use Rattle.std.proofs.Common.{◌≡◌, ℕ, eqb, Bool, true, false, List, [], ◌∷◌, map, filter, Option, Some, None, refl, ap, ◌∙◌, sym, subst}
use Rattle.std.proofs.lemmas.Bool.{cond-true, eq-eqb}
use Rattle.std.specs.Prelude.{◌==◌, option_map, if◌then◌else◌}
use Rattle.stow_model.specs.Login.{Entry, quota_of}
use Rattle.stow_model.specs.Reply.{Reply}
use Rattle.stow_model.specs.Store.{Asked, store_after, empty_store, answer_with, with_reply, is_out_of_memory}
use Rattle.stow_model.specs.History.{At, ConnectionStep, Plain, Service, part_of, request_of, served_as, with_service, service_of, line_of, told_by, told_at, reply_in_line, Telling, telling_of, with_telling, tellings, is_tenant, answers_to, Follows, IsStep, IsHistory}
use Rattle.stow_shared.specs.StowCore.State.{CoreState, store_of, IsNewCore, Calls}
use Rattle.stow_shared.specs.StowHouse.Seen.{IsServedTenant}
use Rattle.stow_shared.specs.StowHouse.Conversations.{Exchange, step_of, reply_in, words_of, IsAsked}
use Rattle.stow_shared.specs.StowHouse.Connections.{moved}
use Rattle.stow_shared.proofs.StowHouse.Tenants.{served_tenant}
use Rattle.stow_shared.proofs.StowHouse.Here.{IsShaped, did, same_tenants}
use Rattle.stow_shared.proofs.StowHouse.Stood.{one_more}
use Rattle.stow_workers.specs.Exchanges.{Call, steps_of, AllFollow, with_call, calls_in, LeadTo, told_in}
use Rattle.stow_workers.specs.Laws.{history_of, calls_of, asked_by, IsOneHistory, OneConnection}

-- ---- one step

-- the core before the newest exchange, and what that did to it
last_call : (request : Option Service) (r : Reply) (calls : List Call) (old new : CoreState) → LeadTo Calls old (with_call request r calls) new → (mid : CoreState) × LeadTo Calls old calls mid × IsAsked Calls request r mid new
unfolding LeadTo
last_call None r calls old new led = (new, led, refl)
last_call (Some service) r calls old new led = led

-- what is told to nobody's request is in no tenant's replies
no_one : (o : Option Reply) (t c : ℕ) (told : List Telling) → answers_to t (with_telling (option_map (λ y. record { connection = c; tenant = None; reply = y }) o) told) ≡ answers_to t told
no_one None t c told = refl
no_one (Some r) t c told = refl

-- a call is its tenant's request, and its reply what that is told
one_call : (t : ℕ) (service : Service) (r : Reply) (calls : List Call) → service.event ≡ Asked (record { words = words_of service.event; is_refused = is_out_of_memory r })
    → map asked_by (calls_of t (with_call (Some service) r calls)) ≡ with_service t (Some service) (map asked_by (calls_of t calls))
one_call t service r calls is = by_test (service.tenant == t)
  where
    by_test : (b : Bool) → map asked_by (if b then (record { tenant = service.tenant; words = words_of service.event; reply = r }) ∷ calls_of t calls else calls_of t calls)
        ≡ (if b then service.event ∷ map asked_by (calls_of t calls) else map asked_by (calls_of t calls))
    by_test true = ap (λ e. e ∷ map asked_by (calls_of t calls)) (sym is)
    by_test false = refl

called : (t : ℕ) (request : Option Service) (told : Option Reply) (r : Reply) (calls : List Call) → IsShaped request told r → map asked_by (calls_of t (with_call request r calls)) ≡ with_service t request (map asked_by (calls_of t calls))
called t None told r calls shape = refl
called t (Some service) told r calls shape = one_call t service r calls shape.0

one_replied : (t tenant c : ℕ) (words : List (List ℕ)) (r : Reply) (calls : List Call) (told : List Telling) → map (λ call. call.reply) (calls_of t calls) ≡ answers_to t told
    → map (λ call. call.reply) (calls_of t ((record { tenant = tenant; words = words; reply = r }) ∷ calls)) ≡ answers_to t ((record { connection = c; tenant = Some tenant; reply = r }) ∷ told)
one_replied t tenant c words r calls told same = by_test (tenant == t)
  where
    by_test : (b : Bool) → map (λ call. call.reply) (if b then (record { tenant = tenant; words = words; reply = r }) ∷ calls_of t calls else calls_of t calls)
        ≡ map (λ (y : Telling). y.reply) (if b then (record { connection = c; tenant = Some tenant; reply = r }) ∷ filter (λ (y : Telling). is_tenant t y.tenant) told else filter (λ (y : Telling). is_tenant t y.tenant) told)
    by_test true = ap (λ replies. r ∷ replies) same
    by_test false = same

replied : (t c : ℕ) (request : Option Service) (told : Option Reply) (r : Reply) (calls : List Call) (tellings : List Telling) → IsShaped request told r → map (λ call. call.reply) (calls_of t calls) ≡ answers_to t tellings
    → map (λ call. call.reply) (calls_of t (with_call request r calls)) ≡ answers_to t (with_telling (option_map (λ y. record { connection = c; tenant = option_map (λ s. s.tenant) request; reply = y }) told) tellings)
replied t c None told r calls tellings shape same = same ∙ sym (no_one told t c tellings)
replied t c (Some service) told r calls tellings shape same =
    one_replied t service.tenant c (words_of service.event) r calls tellings same ∙ ap (λ o. answers_to t (with_telling (option_map (λ y. record { connection = c; tenant = Some service.tenant; reply = y }) o) tellings)) (sym shape.1)

-- ---- the history

part : (c : ℕ) (steps : List ConnectionStep) → part_of c (map (At c) steps) ≡ steps
unfolding part_of
part c [] = refl
part c (own ∷ earlier) = cond-true (eqb c c) _ _ (eq-eqb c c refl) ∙ ap (λ p. own ∷ p) (part c earlier)

is_history : (c : ℕ) (entries : List Entry) (steps : List ConnectionStep) → AllFollow entries steps → IsHistory entries (map (At c) steps)
unfolding AllFollow IsHistory IsStep
is_history c entries [] follow = tt
is_history c entries (own ∷ earlier) follow = (subst (Follows entries own) (sym (part c earlier)) follow.0, is_history c entries earlier follow.1)

-- what the connection's newest step is told comes first in its output
one_told : (c : ℕ) (who : Option ℕ) (o : Option Reply) (told : List Telling)
    → map (λ t. t.reply) (filter (λ t. t.connection == c) (with_telling (option_map (λ r. record { connection = c; tenant = who; reply = r }) o) told)) ≡ with_reply o (map (λ t. t.reply) (filter (λ t. t.connection == c) told))
one_told c who None told = refl
one_told c who (Some r) told = ap (λ (ts : List Telling). map (λ t. t.reply) ts) (cond-true (eqb c c) _ _ (eq-eqb c c refl))

goes : (c : ℕ) (entries : List Entry) (old : CoreState) → IsNewCore old → old.entries ≡ entries → (exchanges : List Exchange) (new : CoreState) → AllFollow entries (steps_of exchanges)
    → LeadTo Calls old (calls_in entries exchanges) new → IsOneHistory c entries exchanges new × (new.entries ≡ entries)
unfolding steps_of AllFollow calls_in told_in LeadTo line_of service_of tellings telling_of told_at reply_in_line store_after
goes c entries old is_new same [] new follow leads = (
  record {
    is_history = is_history c entries (Plain _ ∷ []) follow;
    calls = λ t. refl;
    replies = λ t. refl;
    output = refl;
    stores = λ t. ap (λ core. store_of core t) leads ∙ is_new.stores t ∙ ap (λ es. empty_store (quota_of es t)) same;
  },
  ap (λ core. core.entries) leads ∙ same,
)
goes c entries old is_new same (x ∷ xs) new follow leads =
    let h = history_of c xs in
    let who = served_as entries (steps_of xs) in
    let request = request_of (step_of x) who in
    let r = reply_in x in
    let calls = calls_in entries xs in
    let (mid, led, asked_here) = last_call request r calls old new leads in
    let ih = goes c entries old is_new same xs mid follow.1 led in
    let is_part : part_of c h ≡ steps_of xs = part c (steps_of xs) in
    let served : IsServedTenant mid.entries who = subst (λ es. IsServedTenant es who) (sym ih.1) (served_tenant entries (steps_of xs)) in
    let d = did entries x who mid new served asked_here in
    let asked : service_of entries (At c (step_of x)) h ≡ request = ap (λ p. request_of (step_of x) (served_as entries p)) is_part in
    let said : told_by entries (step_of x) who (λ is_refused words tenant. r) ≡ told_at entries c (step_of x) h =
    d.says ∙ (λ i. told_by entries (step_of x) (served_as entries (sym is_part i)) (λ is_refused words tenant. (answer_with (ih.0.stores tenant i) (record { words = words; is_refused = is_refused })).1)) in (
      record {
        is_history = is_history c entries (step_of x ∷ steps_of xs) follow;
        calls = λ t. called t request _ r calls d.shape ∙ ap (with_service t request) (ih.0.calls t) ∙ ap (λ s. with_service t s (line_of entries t h)) (sym asked);
        replies = λ t. replied t c request _ r calls (tellings entries h) d.shape (ih.0.replies t)
            ∙ (λ i. answers_to t (with_telling (option_map (λ y. record { connection = c; tenant = option_map (λ s. s.tenant) (sym asked i); reply = y }) (said i)) (tellings entries h)));
        output = ap (λ o. with_reply o (told_in entries xs)) said ∙ ap (with_reply (told_at entries c (step_of x) h)) ih.0.output
            ∙ sym (one_told c (option_map (λ s. s.tenant) (service_of entries (At c (step_of x)) h)) (told_at entries c (step_of x) h) (tellings entries h));
        stores = λ t. d.stores t ∙ ap (moved t request) (ih.0.stores t) ∙ one_more t (quota_of entries t) request (line_of entries t h) ∙ ap (λ s. store_after (quota_of entries t) (with_service t s (line_of entries t h))) (sym asked);
      },
      same_tenants request r mid new asked_here ∙ ih.1,
    )

pub one_connection_lem : OneConnection
one_connection_lem c entries old new read exchanges is_new same course = (goes c entries old is_new same exchanges new course.follow course.door).0
