-- What stands under the lock, and its steps.
use Rattle.std.specs.Prelude.{◌≡◌, ◌↔◌, ℕ, Bool, true, false, List, Option, None, IfSome, is_some, ◌⊎◌}
use Rattle.stow_model.specs.declared.refusal.Refusal.TheVariants as refusal
use Rattle.stow_model.specs.Login.{IsTenant}
use Rattle.stow_model.specs.Reply.{Reply}
use Rattle.stow_model.specs.Reply as reply
use Rattle.stow_house.specs.StowMerge.declared.flush_job.FlushJob.{FlushJob}
use Rattle.stow_house.specs.StowNode.Installs.{BatchIsGone}
use Rattle.stow_house.specs.StowNode.declared.installed.Installed.{Installed}
use Rattle.stow_house.specs.StowNode.declared.installed.Installed.TheVariants as installed
use Rattle.stow_house.specs.StowCore.Flushing.{IsDrained, IsPlannedFrom, TakesResultOf}
use Rattle.stow_house.specs.StowCore.State.{CoreState, shared_of, AnswersRequest, RefusesCall, GivesQuota, Keeps, OthersStay, Resized}
use Rattle.stow_house.specs.StowState.State.{IsSound}
use Rattle.stow_shared.specs.Entries.{Entry, call_entry, resize_entry, quota_entry, plan_entry, install_entry}
use Rattle.stow_shared.specs.Journals.{with_entry, IsLegal}
use Rattle.stow_shared.specs.Seats.{SeatState, with_receipt, with_refusal}

-- the core, and the entries so far, newest first
pub record BookState : Type 0 where
  pub core : CoreState
  pub entries : List Entry

-- where entries are kept, the core is where they lead
abbrev pub IsJournalKept : Bool → List Entry → CoreState → Type 0
IsJournalKept keeps entries core = keeps ≡ true → IsLegal entries core

-- what the book's type keeps: the state that all tenants share is sound, and the journal leads to
-- it
pub record IsBook (keeps : Bool) (entries : List Entry) (core : CoreState) : Type 0 where
  pub sound : IsSound (shared_of core)
  pub kept : IsJournalKept keeps entries core

-- The words were answered in the caller's own store, as its own step says, to which nothing was
-- refused, and that is a step of the state that all share. An index that is no tenant's was
-- refused, and nothing changed. No other store moved.
pub record ServesCall (old : CoreState) (tenant : ℕ) (words : List (List ℕ)) (told : Reply)
    (new : CoreState) : Type 0 where
  pub own : IsTenant old.entries tenant
      → AnswersRequest old new tenant (record { words = words; is_refused = false }) told
  pub stranger : ¬ (IsTenant old.entries tenant) → RefusesCall old told new
  pub others : OthersStay old new tenant
  pub tenants : new.entries ≡ old.entries

-- an entry was added to a journal, and the same to a seat's receipts, where they are kept
pub record Adds (keeps : Bool) (entry : Entry) (old : List Entry) (seat : SeatState)
    (new : List Entry) (seat' : SeatState) : Type 0 where
  pub journal : new ≡ with_entry keeps entry old
  pub receipt : seat' ≡ with_receipt keeps entry seat

-- memory was refused: nothing was added and no store moved
pub record Leaves (old new : BookState) : Type 0 where
  pub core : Keeps old.core new.core
  pub journal : new.entries ≡ old.entries

-- a call that was answered, with its one entry and receipt
pub record AnswersCall (keeps : Bool) (old : BookState) (seat : SeatState) (tenant : ℕ)
    (words : List (List ℕ)) (told : Reply) (new : BookState) (seat' : SeatState) : Type 0 where
  pub core : ServesCall old.core tenant words told new.core
  pub adds : Adds keeps (call_entry seat.number tenant words told) old.entries seat new.entries
      seat'

-- a call that memory was refused to, which its seat counts; of an index that is no tenant's nothing
-- changed
pub record LacksMemory (old : BookState) (seat : SeatState) (tenant : ℕ) (told : Reply)
    (new : BookState) (seat' : SeatState) : Type 0 where
  pub says : told ≡ reply.Error refusal.OutOfMemory
  pub leaves : Leaves old new
  pub stranger : ¬ (IsTenant old.core.entries tenant) → new.core ≡ old.core
  pub counted : seat' ≡ with_refusal seat

-- the step of a call
abbrev pub CallStep : Bool → BookState → SeatState → ℕ → List (List ℕ) → Reply → BookState
    → SeatState → Type 0
CallStep keeps old seat tenant words told new seat' =
    AnswersCall keeps old seat tenant words told new seat'
    ⊎ LacksMemory old seat tenant told new seat'

-- the step of another size of the cache, with its one entry and receipt
pub record Resizes (keeps : Bool) (old : BookState) (seat : SeatState) (leaves : ℕ)
    (new : BookState) (seat' : SeatState) : Type 0 where
  pub core : Keeps old.core new.core
  pub cache : Resized leaves old.core new.core
  pub adds : Adds keeps (resize_entry seat.number leaves) old.entries seat new.entries seat'

-- the step of a quota for a tenant, with its one entry and receipt
pub record Orders (keeps : Bool) (old : BookState) (seat : SeatState) (tenant quota : ℕ)
    (new : BookState) (seat' : SeatState) : Type 0 where
  pub core : GivesQuota old.core tenant quota new.core
  pub adds : Adds keeps (quota_entry seat.number tenant quota) old.entries seat new.entries seat'

-- A flush was planned: no store moved, and there is no job just where no buffer holds a message.
pub record PlansFlush {A : Type 0} (old : CoreState) (job : Option (FlushJob A)) (new : CoreState)
    : Type 0 where
  pub keeps : Keeps old new
  pub none : job ≡ None ↔ IsDrained old
  pub planned : IfSome job (IsPlannedFrom new)

-- The result of a job came: no store moved. It is stale just where it can't be installed, and then
-- nothing changed; else its batch is gone from the buffers.
pub record InstallsFlush {A : Type 0} (old : CoreState) (job : FlushJob A) (told : Installed)
    (new : CoreState) : Type 0 where
  pub keeps : Keeps old new
  pub stale : told ≡ installed.Stale ↔ ¬ (TakesResultOf old job)
  pub unmoved : told ≡ installed.Stale → new ≡ old
  pub gone : told ≡ installed.Done → BatchIsGone job.batch.messages new.tree.root

-- the step of a flush that is planned, with its one entry and receipt
pub record Plans {A : Type 0} (keeps : Bool) (old : BookState) (seat : SeatState)
    (job : Option (FlushJob A)) (new : BookState) (seat' : SeatState) : Type 0 where
  pub core : PlansFlush old.core job new.core
  pub adds : Adds keeps (plan_entry seat.number (is_some job)) old.entries seat new.entries seat'

-- the step of a job's result, with its one entry and receipt
pub record Installs {A : Type 0} (keeps : Bool) (old : BookState) (seat : SeatState)
    (job : FlushJob A) (told : Installed) (new : BookState) (seat' : SeatState) : Type 0 where
  pub core : InstallsFlush old.core job told new.core
  pub adds : Adds keeps (install_entry seat.number told) old.entries seat new.entries seat'
