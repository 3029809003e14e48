-- Where a journal leads: each tenant's own run over its calls. All lists are told newest first.
use Rattle.std.specs.Prelude.{◌≡◌, ℕ, false, Bool, List, [], ◌∷◌, filter, if◌then◌else◌, ◌==◌}
use Rattle.std.specs.List.{AllByRecursion}
use Rattle.stow_model.specs.declared.refusal.Refusal.TheVariants as refusal
use Rattle.stow_model.specs.Login as login
use Rattle.stow_model.specs.Login.{IsTenant, quota_of}
use Rattle.stow_model.specs.Reply.{Reply}
use Rattle.stow_model.specs.Reply as reply
use Rattle.stow_model.specs.Store.{OwnEvent, Asked, GivenQuota, store_after, replies_after}
use Rattle.stow_house.specs.StowCore.State.{CoreState, store_of}
use Rattle.stow_shared.specs.Entries.{Step, Call, Resize, Quota, Plan, Install, Entry}

-- the journal, or a seat's receipts, with an entry more where entries are kept
abbrev pub with_entry : Bool → Entry → List Entry → List Entry
with_entry keeps entry entries = if keeps then entry ∷ entries else entries

-- the entries of this seat
abbrev pub entries_by : ℕ → List Entry → List Entry
entries_by seat journal = filter (λ entry. seat == entry.seat) journal

abbrev pub with_request : ℕ → Step → List OwnEvent → List OwnEvent
with_request tenant (Call index words told) line =
    if index == tenant then Asked (record { words = words; is_refused = false }) ∷ line else line
with_request tenant (Resize leaves) line = line
with_request tenant (Quota index quota) line =
    if index == tenant then GivenQuota quota ∷ line else line
with_request tenant (Plan has_job) line = line
with_request tenant (Install told) line = line

-- the tenant's line: its calls, over all seats, to none of which memory was refused, and the quotas
-- that it was given
unfoldable pub line_in : ℕ → List Entry → List OwnEvent
line_in tenant [] = []
line_in tenant (newest ∷ earlier) = with_request tenant newest.step (line_in tenant earlier)

abbrev pub with_told : ℕ → Step → List Reply → List Reply
with_told tenant (Call index words told) replies =
    if index == tenant then told ∷ replies else replies
with_told tenant (Resize leaves) replies = replies
with_told tenant (Quota index quota) replies = replies
with_told tenant (Plan has_job) replies = replies
with_told tenant (Install told) replies = replies

-- what the tenant was told
unfoldable pub told_in : ℕ → List Entry → List Reply
told_in tenant [] = []
told_in tenant (newest ∷ earlier) = with_told tenant newest.step (told_in tenant earlier)

-- an index that is no tenant's is refused
abbrev pub RefusesStrangers : List login.Entry → Step → Type 0
RefusesStrangers tenants (Call index words told) = ¬ (IsTenant tenants index)
    → told ≡ reply.Error refusal.NotAuthenticated
RefusesStrangers tenants (Resize leaves) = Unit {0}
RefusesStrangers tenants (Quota index quota) = Unit {0}
RefusesStrangers tenants (Plan has_job) = Unit {0}
RefusesStrangers tenants (Install told) = Unit {0}

-- the journal leads from empty stores to the core: each tenant was told what its own run over its
-- line tells, and its store is the last of that run; a change of the cache's size and a flush
-- change no store
pub record IsLegal (journal : List Entry) (core : CoreState) : Type 0 where
  pub told : (tenant : ℕ) → IsTenant core.entries tenant
      → told_in tenant journal
      ≡ replies_after (quota_of core.entries tenant) (line_in tenant journal)
  pub stores : (tenant : ℕ) → IsTenant core.entries tenant
      → store_of core tenant
      ≡ store_after (quota_of core.entries tenant) (line_in tenant journal)
  pub answered : AllByRecursion (λ entry. RefusesStrangers core.entries entry.step) journal
