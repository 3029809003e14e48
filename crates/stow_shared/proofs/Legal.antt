-- Journals that lead to a core, one step on.
use Rattle.std.proofs.Common.{◌≡◌, ◌≢◌, ℕ, ◌<◌, Bool, true, false, List, [], ◌∷◌, length, None, Some, refl, ap, ◌∙◌, sym, subst, eq-eqb, ⊎_elim, inl, inr, arith}
use mathlib.Core.Bool.{false≢true}
use Rattle.std.specs.Prelude.{◌⊎◌, if◌then◌else◌, ◌==◌}
use Rattle.std.specs.List.{AllByRecursion}
use Rattle.std.proofs.lemmas.Bool.{eqb-true}
use Rattle.std.proofs.lemmas.Bool.Decides.{leb_tells}
use Rattle.stow_model.specs.Login as login
use Rattle.stow_model.specs.Login.{IsTenant, quota_of}
use Rattle.stow_model.specs.Reply.{Reply}
use Rattle.stow_model.specs.Store.{Store, OwnEvent, Asked, GivenQuota, Answer, answer, answer_with, store_after, replies_after}
use Rattle.stow_house.specs.StowCore.State.{CoreState, store_of, shared_of, IsNewCore, GivesQuota, Keeps}
use Rattle.stow_house.specs.StowState.State.{IsSound}
use Rattle.stow_house.specs.StowState.Steps.{Call, Maintenance}
use Rattle.stow_house.proofs.StowState.Steps.{step_is_there_law, stays_sound_law}
use Rattle.stow_house.specs.StowState.Steps as in_state
use Rattle.stow_house.specs.StowNode.declared.installed.Installed.{Installed}
use Rattle.stow_shared.specs.Entries.{Entry, Step, Resize, Plan, Install, call_entry, resize_entry, quota_entry, plan_entry, install_entry}
use Rattle.stow_shared.specs.Journals.{line_in, told_in, with_request, with_told, RefusesStrangers, IsLegal, with_entry}
use Rattle.stow_shared.specs.Books.{IsJournalKept, IsBook, ServesCall}

-- an index is a tenant's, or none's
pub tenant_or_not : (entries : List login.Entry) (t : ℕ) → IsTenant entries t ⊎ (¬ IsTenant entries t)
tenant_or_not entries t =
    ⊎_elim
    (λ low. ⊎_elim
    (λ high. inl (low.1, high.1))
    (λ high. inr (λ is. let above : length entries < t = high.1 in absurd (omega (arith, above, is.1))))
    (leb_tells t (length entries)))
    (λ low. inr (λ is. let below : t < 1 = low.1 in absurd (omega (arith, below, is.0))))
    (leb_tells 1 t)

-- ---- the empty journal

legal_new : (core : CoreState) → IsNewCore core → IsLegal [] core
unfolding line_in told_in store_after replies_after
legal_new core new = record {
  told = λ tenant is. refl;
  stores = λ tenant is. new.stores tenant;
  answered = tt;
}

pub book_new : (keeps : Bool) (core : CoreState) → IsNewCore core → IsBook keeps [] core
book_new keeps core new = record {
  sound = subst IsSound (sym new.shared) (stays_sound_law.of_new (quota_of core.entries));
  kept = λ is. legal_new core new;
}

-- ---- where no store moves

same_replies : (es : List Entry) (old new : List login.Entry) (tenant : ℕ) → new ≡ old → told_in tenant es ≡ replies_after (quota_of old tenant) (line_in tenant es) → told_in tenant es ≡ replies_after (quota_of new tenant) (line_in tenant es)
same_replies es old new tenant e told = told ∙ ap (λ t. replies_after (quota_of t tenant) (line_in tenant es)) (sym e)

same_stores : (es : List Entry) (old new : List login.Entry) (tenant : ℕ) (store : Store) → new ≡ old → store ≡ store_after (quota_of old tenant) (line_in tenant es) → store ≡ store_after (quota_of new tenant) (line_in tenant es)
same_stores es old new tenant store e is = is ∙ ap (λ t. store_after (quota_of t tenant) (line_in tenant es)) (sym e)

as_tenant : (old new : List login.Entry) (tenant : ℕ) → new ≡ old → IsTenant new tenant → IsTenant old tenant
as_tenant old new tenant e is = let P : List login.Entry → Type 0 = λ t. IsTenant t tenant in subst P e is

pub legal_same : (es : List Entry) (old new : CoreState) → Keeps old new → IsLegal es old → IsLegal es new
legal_same es old new same legal =
    let P : List login.Entry → Type 0 = λ t. AllByRecursion (λ entry. RefusesStrangers t entry.step) es in
    record {
      told = λ tenant is. same_replies es old.entries new.entries tenant same.entries (legal.told tenant (as_tenant old.entries new.entries tenant same.entries is));
      stores = λ tenant is. same_stores es old.entries new.entries tenant (store_of new tenant) same.entries (same.stores tenant ∙ legal.stores tenant (as_tenant old.entries new.entries tenant same.entries is));
      answered = subst P (sym same.entries) legal.answered;
    }

-- nothing is a step of maintenance
pub keeps_itself : (core : CoreState) → IsSound (shared_of core) → Keeps core core
unfolding in_state.moved in_state.reply_to
keeps_itself core sound = record {
  stores = λ t. refl;
  entries = refl;
  gives_way = record { sound = sound; step = step_is_there_law (shared_of core) Maintenance sound tt };
}

pub sound_kept : (old new : CoreState) → Keeps old new → IsSound (shared_of new)
sound_kept old new same = stays_sound_law.of_step (shared_of old) (shared_of new) Maintenance None same.gives_way.sound same.gives_way.step

pub book_same : (keeps : Bool) (es : List Entry) (old new : CoreState) → Keeps old new → IsBook keeps es old → IsBook keeps es new
book_same keeps es old new same book = record {
  sound = sound_kept old new same;
  kept = λ is. legal_same es old new same (book.kept is);
}

-- ---- what comes to no tenant's store

-- the step is in no tenant's line, and tells no tenant anything
record IsSilent (entries : List login.Entry) (step : Step) : Type 0 where
  pub line : (tenant : ℕ) (line : List OwnEvent) → with_request tenant step line ≡ line
  pub told : (tenant : ℕ) (replies : List Reply) → with_told tenant step replies ≡ replies
  pub strangers : RefusesStrangers entries step

legal_silent : (n : ℕ) (step : Step) (es : List Entry) (core : CoreState) → IsSilent core.entries step → IsLegal es core → IsLegal ((record { seat = n; step = step }) ∷ es) core
unfolding line_in told_in
legal_silent n step es core silent legal = record {
  told = λ tenant is. silent.told tenant (told_in tenant es) ∙ legal.told tenant is ∙ ap (replies_after (quota_of core.entries tenant)) (sym (silent.line tenant (line_in tenant es)));
  stores = λ tenant is. legal.stores tenant is ∙ ap (store_after (quota_of core.entries tenant)) (sym (silent.line tenant (line_in tenant es)));
  answered = (silent.strangers, legal.answered);
}

kept_silent : (keeps : Bool) (n : ℕ) (step : Step) (es : List Entry) (core : CoreState) → IsSilent core.entries step → IsJournalKept keeps es core → IsJournalKept keeps (with_entry keeps (record { seat = n; step = step }) es) core
kept_silent true n step es core silent kept is = legal_silent n step es core silent (kept is)
kept_silent false n step es core silent kept is = kept is

book_silent : (keeps : Bool) (n : ℕ) (step : Step) (es : List Entry) (core : CoreState) → IsSilent core.entries step → IsBook keeps es core → IsBook keeps (with_entry keeps (record { seat = n; step = step }) es) core
book_silent keeps n step es core silent book = record { sound = book.sound; kept = kept_silent keeps n step es core silent book.kept }

pub book_resize : (keeps : Bool) (n leaves : ℕ) (es : List Entry) (core : CoreState) → IsBook keeps es core → IsBook keeps (with_entry keeps (resize_entry n leaves) es) core
book_resize keeps n leaves es core book = book_silent keeps n (Resize leaves) es core (record { line = λ t l. refl; told = λ t r. refl; strangers = tt }) book

pub book_plan : (keeps : Bool) (n : ℕ) (has_job : Bool) (es : List Entry) (core : CoreState) → IsBook keeps es core → IsBook keeps (with_entry keeps (plan_entry n has_job) es) core
book_plan keeps n has_job es core book = book_silent keeps n (Plan has_job) es core (record { line = λ t l. refl; told = λ t r. refl; strangers = tt }) book

pub book_install : (keeps : Bool) (n : ℕ) (told : Installed) (es : List Entry) (core : CoreState) → IsBook keeps es core → IsBook keeps (with_entry keeps (install_entry n told) es) core
book_install keeps n told es core book = book_silent keeps n (Install told) es core (record { line = λ t l. refl; told = λ t r. refl; strangers = tt }) book

-- ---- a call

told_here : (here : Bool) (quota : ℕ) (told : Reply) (words : List (List ℕ)) (replies : List Reply) (line : List OwnEvent) → (here ≡ true → told ≡ (answer (store_after quota line) words).1) → replies ≡ replies_after quota line
    → (if here then told ∷ replies else replies) ≡ replies_after quota (if here then Asked (record { words = words; is_refused = false }) ∷ line else line)
unfolding replies_after answer_with
told_here true quota told words replies line is e = λ i. is refl i ∷ e i
told_here false quota told words replies line is e = e

stored_here : (here : Bool) (quota : ℕ) (store : Store) (words : List (List ℕ)) (line : List OwnEvent) → (here ≡ true → store ≡ (answer (store_after quota line) words).0) → (here ≡ false → store ≡ store_after quota line)
    → store ≡ store_after quota (if here then Asked (record { words = words; is_refused = false }) ∷ line else line)
unfolding store_after answer_with
stored_here true quota store words line is e = is refl
stored_here false quota store words line is e = e refl

differs : (t tenant : ℕ) → (t == tenant) ≡ false → tenant ≢ t
differs t tenant away e = false≢true (sym away ∙ eq-eqb t tenant (sym e))

-- a request to which nothing was refused
alone : (store next : Store) (words : List (List ℕ)) (told : Reply) → ◌≡◌ {A = Answer} (next, told) (answer_with store (record { words = words; is_refused = false })) → ◌≡◌ {A = Answer} (next, told) (answer store words)
unfolding answer_with
alone store next words told is = is

-- the caller's own answer, as its run over its line gives it
own_answer : (t : ℕ) (words : List (List ℕ)) (told : Reply) (es : List Entry) (old new : CoreState) → ServesCall old t words told new → IsLegal es old → (tenant : ℕ) → IsTenant old.entries tenant → (t == tenant) ≡ true
    → ◌≡◌ {A = Answer} (store_of new tenant, told) (answer (store_after (quota_of old.entries tenant) (line_in tenant es)) words)
own_answer t words told es old new serves legal tenant is here =
    let same : t ≡ tenant = eqb-true t tenant here in
    let P : ℕ → Type 0 = λ n. ◌≡◌ {A = Answer} (store_of new n, told) (answer (store_of old n) words) in
    let Q : ℕ → Type 0 = λ n. IsTenant old.entries n in
    subst P same (alone (store_of old t) (store_of new t) words told (serves.own (subst Q (sym same) is)).alone) ∙ ap (λ store. answer store words) (legal.stores tenant is)

legal_call_old : (n t : ℕ) (words : List (List ℕ)) (told : Reply) (es : List Entry) (old new : CoreState) → ServesCall old t words told new → IsLegal es old → (tenant : ℕ) → IsTenant old.entries tenant
    → (told_in tenant (call_entry n t words told ∷ es) ≡ replies_after (quota_of old.entries tenant) (line_in tenant (call_entry n t words told ∷ es)))
    × (store_of new tenant ≡ store_after (quota_of old.entries tenant) (line_in tenant (call_entry n t words told ∷ es)))
unfolding line_in told_in
legal_call_old n t words told es old new serves legal tenant is =
    let own = own_answer t words told es old new serves legal tenant is in (
      told_here (t == tenant) (quota_of old.entries tenant) told words (told_in tenant es) (line_in tenant es) (λ here. ap (λ (a : Answer). a.1) (own here)) (legal.told tenant is),
      stored_here (t == tenant) (quota_of old.entries tenant) (store_of new tenant) words (line_in tenant es) (λ here. ap (λ (a : Answer). a.0) (own here))
          (λ away. serves.others tenant (differs t tenant away) ∙ legal.stores tenant is),
    )

legal_call : (n t : ℕ) (words : List (List ℕ)) (told : Reply) (es : List Entry) (old new : CoreState) → ServesCall old t words told new → IsLegal es old → IsLegal (call_entry n t words told ∷ es) new
legal_call n t words told es old new serves legal =
    let P : List login.Entry → Type 0 = λ e. AllByRecursion (λ entry. RefusesStrangers e entry.step) (call_entry n t words told ∷ es) in
    let here = legal_call_old n t words told es old new serves legal in
    record {
      told = λ tenant is. same_replies (call_entry n t words told ∷ es) old.entries new.entries tenant serves.tenants (here tenant (as_tenant old.entries new.entries tenant serves.tenants is)).0;
      stores = λ tenant is. same_stores (call_entry n t words told ∷ es) old.entries new.entries tenant (store_of new tenant) serves.tenants (here tenant (as_tenant old.entries new.entries tenant serves.tenants is)).1;
      answered = subst P (sym serves.tenants) ((λ no. (serves.stranger no).told_is), legal.answered);
    }

kept_call : (keeps : Bool) (n t : ℕ) (words : List (List ℕ)) (told : Reply) (es : List Entry) (old new : CoreState) → ServesCall old t words told new → IsJournalKept keeps es old → IsJournalKept keeps (with_entry keeps (call_entry n t words told) es) new
kept_call true n t words told es old new serves kept is = legal_call n t words told es old new serves (kept is)
kept_call false n t words told es old new serves kept is = absurd (false≢true is)

pub book_call : (keeps : Bool) (n t : ℕ) (words : List (List ℕ)) (told : Reply) (es : List Entry) (old new : CoreState) → ServesCall old t words told new → IsBook keeps es old → IsBook keeps (with_entry keeps (call_entry n t words told) es) new
book_call keeps n t words told es old new serves book = record {
  sound = ⊎_elim
      (λ (is : IsTenant old.entries t). stays_sound_law.of_step (shared_of old) (shared_of new) (Call t (Asked (record { words = words; is_refused = false }))) (Some told) book.sound (serves.own is).step)
      (λ (no : ¬ IsTenant old.entries t). subst (λ c. IsSound (shared_of c)) (sym (serves.stranger no).unchanged) book.sound)
      (tenant_or_not old.entries t);
  kept = kept_call keeps n t words told es old new serves book.kept;
}

-- ---- a quota

-- what a quota leaves as it was
record Stays (old : CoreState) (t : ℕ) (new : CoreState) : Type 0 where
  pub entries : new.entries ≡ old.entries
  pub others : (other : ℕ) → t ≢ other → store_of new other ≡ store_of old other
  pub sound : IsSound (shared_of old) → IsSound (shared_of new)

stays : (old : CoreState) (t quota : ℕ) (new : CoreState) → GivesQuota old t quota new → Stays old t new
stays old t quota new gives =
    ⊎_elim
    (λ (is : IsTenant old.entries t).
    let m = gives.own is in
    record {
      entries = m.entries;
      others = λ other differ. m.others other (λ e. differ (sym e));
      sound = λ sound. stays_sound_law.of_step (shared_of old) (shared_of new) (Call t (GivenQuota quota)) None sound (m.step (GivenQuota quota) None refl);
    })
    (λ (no : ¬ IsTenant old.entries t).
    let same = gives.stranger no in
    record {
      entries = ap (λ c. c.entries) same;
      others = λ other differ. ap (λ c. store_of c other) same;
      sound = λ sound. subst (λ c. IsSound (shared_of c)) (sym same) sound;
    })
    (tenant_or_not old.entries t)

given_here : (here : Bool) (first quota : ℕ) (store : Store) (line : List OwnEvent) → (here ≡ true → store ≡ record (store_after first line) { quota = quota }) → (here ≡ false → store ≡ store_after first line)
    → store ≡ store_after first (if here then GivenQuota quota ∷ line else line)
unfolding store_after
given_here true first quota store line is e = is refl
given_here false first quota store line is e = e refl

untold_here : (here : Bool) (first quota : ℕ) (replies : List Reply) (line : List OwnEvent) → replies ≡ replies_after first line → replies ≡ replies_after first (if here then GivenQuota quota ∷ line else line)
unfolding replies_after
untold_here true first quota replies line e = e
untold_here false first quota replies line e = e

legal_quota_old : (n t quota : ℕ) (es : List Entry) (old new : CoreState) → GivesQuota old t quota new → IsLegal es old → (tenant : ℕ) → IsTenant old.entries tenant
    → (told_in tenant (quota_entry n t quota ∷ es) ≡ replies_after (quota_of old.entries tenant) (line_in tenant (quota_entry n t quota ∷ es)))
    × (store_of new tenant ≡ store_after (quota_of old.entries tenant) (line_in tenant (quota_entry n t quota ∷ es)))
unfolding line_in told_in
legal_quota_old n t quota es old new gives legal tenant is = (
  untold_here (t == tenant) (quota_of old.entries tenant) quota (told_in tenant es) (line_in tenant es) (legal.told tenant is),
  given_here (t == tenant) (quota_of old.entries tenant) quota (store_of new tenant) (line_in tenant es)
      (λ here. own_quota t quota old new gives tenant is here ∙ ap (λ (store : Store). record store { quota = quota }) (legal.stores tenant is))
      (λ away. (stays old t quota new gives).others tenant (λ same. differs t tenant away (sym same)) ∙ legal.stores tenant is),
)
  where
    own_quota : (t quota : ℕ) (old new : CoreState) → GivesQuota old t quota new → (tenant : ℕ) → IsTenant old.entries tenant → (t == tenant) ≡ true → store_of new tenant ≡ record (store_of old tenant) { quota = quota }
    own_quota t quota old new gives tenant is here =
        let same : t ≡ tenant = eqb-true t tenant here in
        let P : ℕ → Type 0 = λ x. store_of new x ≡ record (store_of old x) { quota = quota } in
        let Q : ℕ → Type 0 = λ x. IsTenant old.entries x in
        subst P same (gives.own (subst Q (sym same) is)).own

legal_quota : (n t quota : ℕ) (es : List Entry) (old new : CoreState) → GivesQuota old t quota new → IsLegal es old → IsLegal (quota_entry n t quota ∷ es) new
legal_quota n t quota es old new gives legal =
    let P : List login.Entry → Type 0 = λ e. AllByRecursion (λ entry. RefusesStrangers e entry.step) (quota_entry n t quota ∷ es) in
    let here = legal_quota_old n t quota es old new gives legal in
    let same = (stays old t quota new gives).entries in
    record {
      told = λ tenant is. same_replies (quota_entry n t quota ∷ es) old.entries new.entries tenant same (here tenant (as_tenant old.entries new.entries tenant same is)).0;
      stores = λ tenant is. same_stores (quota_entry n t quota ∷ es) old.entries new.entries tenant (store_of new tenant) same (here tenant (as_tenant old.entries new.entries tenant same is)).1;
      answered = subst P (sym same) (tt, legal.answered);
    }

kept_quota : (keeps : Bool) (n t quota : ℕ) (es : List Entry) (old new : CoreState) → GivesQuota old t quota new → IsJournalKept keeps es old → IsJournalKept keeps (with_entry keeps (quota_entry n t quota) es) new
kept_quota true n t quota es old new gives kept is = legal_quota n t quota es old new gives (kept is)
kept_quota false n t quota es old new gives kept is = absurd (false≢true is)

pub book_quota : (keeps : Bool) (n t quota : ℕ) (es : List Entry) (old new : CoreState) → GivesQuota old t quota new → IsBook keeps es old → IsBook keeps (with_entry keeps (quota_entry n t quota) es) new
book_quota keeps n t quota es old new gives book = record {
  sound = (stays old t quota new gives).sound book.sound;
  kept = kept_quota keeps n t quota es old new gives book.kept;
}
