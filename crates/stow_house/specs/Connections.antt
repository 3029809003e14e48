-- What an event does on its own connection, and to the stores.
use Rattle.std.specs.Prelude.{◌≡◌, ℕ, Bool, List, Option, Some, None, if◌then◌else◌, ◌==◌, ◌⊎◌}
use Rattle.stow_model.specs.Event.{ConnectionEvent}
use Rattle.stow_model.specs.Event as event
use Rattle.stow_model.specs.Reply.{Reply}
use Rattle.stow_model.specs.Store.{Store, step, answer_with}
use Rattle.stow_model.specs.History.{ConnectionStep, event_of_own, Unused, IsOpen, Service, request_of, told_by}
use Rattle.stow_resp.specs.Next.{HasWords}
use Rattle.stow_core.specs.State.{CoreState, store_of}
use Rattle.stow_house.specs.declared.connection_event.ConnectionEvent as coded
use Rattle.stow_house.specs.declared.connection_event.ConnectionEvent.TheVariants as in_code
use Rattle.stow_house.specs.declared.connection.Connection.{Connection}
use Rattle.stow_house.specs.declared.step_result.StepResult as result
use Rattle.stow_house.specs.Seen.{Seen, seen, IsServedTenant}
use Rattle.stow_house.specs.SharedRuns.{IsCalled}
use Rattle.stow_house.specs.Conversations.{Moves}
use Rattle.stow_house.specs.StepResult.{StepResult, step_result_of, Refused, NoMemory, answer_to_own}

-- what the code's type stands for
abbrev pub meaning : coded.ConnectionEvent → ConnectionEvent
meaning (in_code.Piece bytes) = event.Piece bytes.now
meaning in_code.Serve = event.Serve
meaning in_code.Close = event.Close

-- a tenant's store after what comes to it or to another's
abbrev pub moved : ℕ → Option Service → Store → Store
moved tenant None store = store
moved tenant (Some service) store =
    if service.tenant == tenant then (step store service.event).0 else store

-- the reply that the core's stores give
abbrev pub reply_in_core : CoreState → Bool → List (List ℕ) → ℕ → Reply
reply_in_core core is_refused words tenant =
    (answer_with (store_of core tenant) (record { words = words; is_refused = is_refused })).1

-- ---- a step

-- an event that is refused, or that memory is refused to, leaves the core as it was, with its tree
-- and its cache
abbrev pub LeavesAll : StepResult → CoreState → CoreState → Type 0
LeavesAll Refused before after = after ≡ before
LeavesAll NoMemory before after = after ≡ before
LeavesAll _ before after = Unit {0}

-- a step: what it does to its connection, to each store and to the state that all share, and what
-- is answered
pub record MovesConnection (own : ConnectionStep) (r : StepResult) (old new : Seen)
    (before after : CoreState) : Type 0 where
  pub moves : Moves before.entries own old new
  pub stores : (t : ℕ) → store_of after t ≡ moved t (request_of own old.tenant) (store_of before t)
  pub shared : IsCalled (request_of own old.tenant)
      (told_by before.entries own old.tenant (reply_in_core before)) before after
  pub result : r
      ≡ answer_to_own own old.status (told_by before.entries own old.tenant (reply_in_core before))

-- a step of this event, by which the tenants stay, and the whole core where it is refused; what it
-- does, where whoever is served is a tenant
pub record Leads (e : ConnectionEvent) (r : StepResult) (old new : Seen)
    (before after : CoreState) : Type 0 where
  pub own : ConnectionStep
  pub is_event : event_of_own own ≡ e
  pub entries : after.entries ≡ before.entries
  pub leaves : LeavesAll r before after
  pub moves : IsServedTenant before.entries old.tenant → MovesConnection own r old new before after

-- ---- want of memory

-- the event asks for memory
abbrev pub AsksMemory : ConnectionEvent → Seen → Type 0
AsksMemory event.Open seen = seen.status ≡ Unused
AsksMemory (event.Piece bytes) seen = seen.status ≡ IsOpen
AsksMemory event.Serve seen = (seen.status ≡ IsOpen) × HasWords seen.unread
AsksMemory event.Close seen = ⊥

-- memory was refused, and nothing changed
pub record IsVoid (e : ConnectionEvent) (r : StepResult) (old new : Seen)
    (before after : CoreState) : Type 0 where
  pub asks : AsksMemory e old
  pub result : r ≡ NoMemory
  pub connection : new ≡ old
  pub core : after ≡ before

-- what an event did on its connection
abbrev pub Happens : ConnectionEvent → StepResult → Seen → Seen → CoreState → CoreState → Type 0
Happens e r old new before after = IsVoid e r old new before after ⊎ Leads e r old new before after

-- ---- of the code's connections

abbrev pub Happened : {A : Type 0} → ConnectionEvent → result.StepResult A → Connection A
    → Connection A → CoreState → CoreState → Type 0
Happened e r old new before after =
    Happens e (step_result_of r) (seen (Some old)) (seen (Some new)) before after
