-- A tenant's own run inside a history.
use Rattle.std.proofs.Common.{◌≡◌, ℕ, List, [], ◌∷◌, Bool, true, false, Option, Some, None, ◌+◌, map, filter, option_map, refl, ap, ◌∙◌, sym, arith}
use Rattle.std.specs.Prelude.{if◌then◌else◌, ◌==◌}
use Rattle.std.proofs.lemmas.Bool.{eqb-true, ne_eqb}
use Rattle.std.proofs.lemmas.Bool.Decides.{nat_tests}
use Rattle.stow_model.specs.Message.{Message}
use Rattle.stow_model.specs.Message as message
use Rattle.stow_model.specs.Reply.{Reply, encoding}
use Rattle.stow_model.specs.Command.{Kind, Login, Quit, Malformed, ForStore, kind_of}
use Rattle.stow_model.specs.Login.{Entry, quota_from, quota_of, entry_from, entry_at}
use Rattle.stow_model.specs.Store.{OwnEvent, Asked, GivenQuota, answer_with, step, with_reply, store_after, replies_after}
use Rattle.stow_model.specs.History.{Step, Void, At, Flushed, Ordered, may_be_given, given_to, ConnectionStep, Plain, Took, Broke, Service, part_of, served_as, request_as, request_of_message, request_of, service_of, with_service, line_of, kind_reply, message_reply, told_by, reply_in_line, told_at, Telling, telling_of, with_telling, tellings, is_tenant, answers_to, told_to, ToldAlone, TwoRuns, IsForAnother, OthersAddNothing}

-- what a request of the store is told
own_reply : ℕ → OwnEvent → (Bool → List (List ℕ) → ℕ → Reply) → Option Reply
own_reply tenant (Asked request) of_tenant = Some (of_tenant request.is_refused request.words tenant)
own_reply tenant (GivenQuota quota) of_tenant = None

IsStoreReply : Option Service → Option Reply → (Bool → List (List ℕ) → ℕ → Reply) → Type 0
IsStoreReply None r of_tenant = Unit {0}
IsStoreReply (Some service) r of_tenant = r ≡ own_reply service.tenant service.event of_tenant

of_kind : (entries : List Entry) (kind : Kind) (words : List (List ℕ)) (is_refused : Bool) (who : Option ℕ) (of_tenant : Bool → List (List ℕ) → ℕ → Reply) → IsStoreReply (request_as kind words is_refused who) (Some (kind_reply entries kind who (of_tenant is_refused words))) of_tenant
unfolding IsStoreReply own_reply
of_kind entries (Login name password) words is_refused who of_tenant = tt
of_kind entries Quit words is_refused who of_tenant = tt
of_kind entries Malformed words is_refused who of_tenant = tt
of_kind entries ForStore words is_refused None of_tenant = tt
of_kind entries ForStore words is_refused (Some tenant) of_tenant = refl

of_message : (entries : List Entry) (m : Message) (is_refused : Bool) (who : Option ℕ) (of_tenant : Bool → List (List ℕ) → ℕ → Reply) → IsStoreReply (request_of_message m is_refused who) (message_reply entries m who (of_tenant is_refused)) of_tenant
unfolding IsStoreReply
of_message entries (message.Words words) is_refused who of_tenant = of_kind entries (kind_of words) words is_refused who of_tenant
of_message entries message.Quoted is_refused who of_tenant = tt
of_message entries message.Blank is_refused who of_tenant = tt

of_own : (entries : List Entry) (own : ConnectionStep) (who : Option ℕ) (of_tenant : Bool → List (List ℕ) → ℕ → Reply) → IsStoreReply (request_of own who) (told_by entries own who of_tenant) of_tenant
unfolding IsStoreReply
of_own entries (Plain e) who of_tenant = tt
of_own entries (Took m is_refused) who of_tenant = of_message entries m is_refused who of_tenant
of_own entries (Broke fault) who of_tenant = tt

-- what goes to a connection, as an answer to a tenant's request if it is one
to_tenant : ℕ → Option Service → Option Reply → Option Telling
to_tenant c service r = option_map (λ x. record { connection = c; tenant = option_map (λ s. s.tenant) service; reply = x }) r

-- a request is told in its place, if it is the tenant's
told_here : (here : Bool) (quota : ℕ) (newest : OwnEvent) (line : List OwnEvent) (t : Telling) (told : List Telling) → (here ≡ true → Some t.reply ≡ (step (store_after quota line) newest).1) → map (λ x. x.reply) told ≡ replies_after quota line
    → map (λ x. x.reply) (if here then t ∷ told else told) ≡ replies_after quota (if here then newest ∷ line else line)
unfolding replies_after
told_here true quota newest line t told is e = λ i. with_reply (is refl i) (e i)
told_here false quota newest line t told is e = e

-- a quota tells nobody anything
untold : (here : Bool) (first quota : ℕ) (line : List OwnEvent) → replies_after first line ≡ replies_after first (if here then GivenQuota quota ∷ line else line)
unfolding replies_after
untold true first quota line = refl
untold false first quota line = refl

given_untold : (given : Bool) (tenant owner first quota : ℕ) (line : List OwnEvent) → replies_after first line ≡ replies_after first (with_service tenant (if given then Some (given_to owner quota) else None) line)
given_untold true tenant owner first quota line = untold (owner == tenant) first quota line
given_untold false tenant owner first quota line = refl

told_own : (entries : List Entry) (tenant c owner : ℕ) (newest : OwnEvent) (earlier : List Step) (told : List Telling) → answers_to tenant told ≡ replies_after (quota_of entries tenant) (line_of entries tenant earlier)
    → answers_to tenant (with_telling (to_tenant c (Some (record { tenant = owner; event = newest })) (own_reply owner newest (reply_in_line entries earlier))) told) ≡ replies_after (quota_of entries tenant) (if owner == tenant then newest ∷ line_of entries tenant earlier else line_of entries tenant earlier)
unfolding own_reply to_tenant reply_in_line
told_own entries tenant c owner (Asked request) earlier told e =
    let quota = quota_of entries tenant in
    let line = line_of entries tenant earlier in
    told_here (owner == tenant) quota (Asked request) line
    (record { connection = c; tenant = Some owner; reply = (answer_with (store_after (quota_of entries owner) (line_of entries owner earlier)) request).1 })
    (filter (λ t. is_tenant tenant t.tenant) told)
    (λ same. ap (λ t. Some (answer_with (store_after (quota_of entries t) (line_of entries t earlier)) request).1) (eqb-true owner tenant same)) e
told_own entries tenant c owner (GivenQuota quota) earlier told e = e ∙ untold (owner == tenant) (quota_of entries tenant) quota (line_of entries tenant earlier)

one_more_told : (entries : List Entry) (tenant c : ℕ) (service : Option Service) (r : Option Reply) (earlier : List Step) (told : List Telling) → IsStoreReply service r (reply_in_line entries earlier)
    → answers_to tenant told ≡ replies_after (quota_of entries tenant) (line_of entries tenant earlier)
    → answers_to tenant (with_telling (to_tenant c service r) told) ≡ replies_after (quota_of entries tenant) (with_service tenant service (line_of entries tenant earlier))
unfolding IsStoreReply to_tenant
one_more_told entries tenant c None None earlier told is e = e
one_more_told entries tenant c None (Some r) earlier told is e = e
one_more_told entries tenant c (Some service) r earlier told is e =
    ap (λ x. answers_to tenant (with_telling (to_tenant c (Some service) x) told)) is ∙ told_own entries tenant c service.tenant service.event earlier told e

pub told_alone_lem : ToldAlone
unfolding tellings telling_of told_at service_of line_of replies_after to_tenant
told_alone_lem entries tenant [] = refl
told_alone_lem entries tenant (Void e ∷ earlier) = told_alone_lem entries tenant earlier
told_alone_lem entries tenant (At c own ∷ earlier) =
    let who = served_as entries (part_of c earlier) in
    one_more_told entries tenant c (request_of own who) (told_by entries own who (reply_in_line entries earlier)) earlier (tellings entries earlier)
    (of_own entries own who (reply_in_line entries earlier)) (told_alone_lem entries tenant earlier)
told_alone_lem entries tenant (Flushed e ∷ earlier) = told_alone_lem entries tenant earlier
told_alone_lem entries tenant (Ordered owner quota ∷ earlier) =
    told_alone_lem entries tenant earlier ∙ given_untold (may_be_given entries owner quota) tenant owner (quota_of entries tenant) quota (line_of entries tenant earlier)

-- ---- an entry tells the quota

abbrev quota_in : Option Entry → ℕ
quota_in None = 0
quota_in (Some entry) = entry.quota

entry_or_later : (here : Bool) (entry : Entry) (entries : List Entry) (index tenant : ℕ) → quota_from index entries tenant ≡ quota_in (entry_from index entries tenant)
    → (if here then entry.quota else quota_from index entries tenant) ≡ quota_in (if here then Some entry else entry_from index entries tenant)
entry_or_later true entry entries index tenant later = refl
entry_or_later false entry entries index tenant later = later

quota_from-entry : (index : ℕ) (entries : List Entry) (tenant : ℕ) → quota_from index entries tenant ≡ quota_in (entry_from index entries tenant)
quota_from-entry index [] tenant = refl
quota_from-entry index (entry ∷ entries) tenant = entry_or_later (index == tenant) entry entries (index + 1) tenant (quota_from-entry (index + 1) entries tenant)

same_quota : (entries entries' : List Entry) (tenant tenant' : ℕ) → entry_at entries tenant ≡ entry_at entries' tenant' → quota_of entries tenant ≡ quota_of entries' tenant'
unfolding quota_of entry_at
same_quota entries entries' tenant tenant' e = quota_from-entry 1 entries tenant ∙ ap quota_in e ∙ sym (quota_from-entry 1 entries' tenant')

pub two_runs_lem : TwoRuns
two_runs_lem entries entries' tenant tenant' history history' alike =
    let quota = same_quota entries entries' tenant tenant' alike.entry in
    let told = told_alone_lem entries tenant history ∙ (λ i. replies_after (quota i) (alike.line i)) ∙ sym (told_alone_lem entries' tenant' history') in
    (told, ap (map encoding) told, λ i. store_after (quota i) (alike.line i))

-- ---- steps of others

line_same : (tenant : ℕ) (service : Option Service) (line : List OwnEvent) → IsForAnother tenant service → with_service tenant service line ≡ line
line_same tenant None line other = refl
line_same tenant (Some service) line other = grind (arith, nat_tests, other)

told_same : (tenant c : ℕ) (service : Option Service) (r : Option Reply) (told : List Telling) → IsForAnother tenant service → answers_to tenant (with_telling (to_tenant c service r) told) ≡ answers_to tenant told
unfolding to_tenant
told_same tenant c service None told other = refl
told_same tenant c None (Some r) told other = refl
told_same tenant c (Some service) (Some r) told other =
    let t : Telling = record { connection = c; tenant = Some service.tenant; reply = r } in
    let kept = filter (λ x. is_tenant tenant x.tenant) told in
    ap (λ (b : Bool). map (λ x. x.reply) (if b then t ∷ kept else kept)) (ne_eqb service.tenant tenant other)

told_as_before : (entries : List Entry) (tenant : ℕ) (newest : Step) (earlier : List Step) → IsForAnother tenant (service_of entries newest earlier) → told_to entries tenant (newest ∷ earlier) ≡ told_to entries tenant earlier
unfolding tellings telling_of service_of to_tenant
told_as_before entries tenant (Void e) earlier other = refl
told_as_before entries tenant (At c own) earlier other = told_same tenant c (request_of own (served_as entries (part_of c earlier))) (told_at entries c own earlier) (tellings entries earlier) other
told_as_before entries tenant (Flushed e) earlier other = refl
told_as_before entries tenant (Ordered owner quota) earlier other = refl

pub others_add_nothing_lem : OthersAddNothing
unfolding line_of
others_add_nothing_lem entries tenant newest earlier other =
    let line : line_of entries tenant (newest ∷ earlier) ≡ line_of entries tenant earlier = line_same tenant (service_of entries newest earlier) (line_of entries tenant earlier) other in
    (line, told_as_before entries tenant newest earlier other, ap (λ l. store_after (quota_of entries tenant) l) line)
