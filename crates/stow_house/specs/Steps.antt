-- The house over its history, and one step of it.
use Rattle.std.specs.Prelude.{◌≡◌, ◌≢◌, ℕ, List, ◌∷◌, ◌++◌}
use Rattle.stow_model.specs.Login.{Entry, quota_of}
use Rattle.stow_model.specs.Event.{Event, FlusherEvent}
use Rattle.stow_model.specs.Event as event
use Rattle.stow_model.specs.Wire.{SpellsAll}
use Rattle.stow_model.specs.Store.{store_after}
use Rattle.stow_model.specs.History.{Step, ConnectionStep, event_of_step, part_of, status_of, served_as, taken_by, stream_of, line_of, IsHistory}
use Rattle.stow_core.specs.State.{CoreState, store_of, shared_of, Resized}
use Rattle.stow_house.specs.declared.house.House.{House}
use Rattle.stow_core.specs.StowState.State.{new_state}
use Rattle.stow_core.specs.StowState.Steps.{SharedRun}
use Rattle.stow_core.specs.StowTree.TreeState.{tree_messages}
use Rattle.stow_house.specs.Connections.{LeavesAll}
use Rattle.stow_house.specs.Flushers.{FlusherState, flusher_at, PlansJob, MergesJob, InstallsResult}
use Rattle.stow_house.specs.Seen.{Seen, seen_at}
use Rattle.stow_house.specs.SharedRuns.{shared_steps}
use Rattle.stow_house.specs.declared.step_result.StepResult as coded
use Rattle.stow_house.specs.StepResult.{StepResult, Done, Refused, NoMemory, step_result_of, IsAnswer}

-- what is known of each connection, what each flusher has, and what the core keeps
pub record HouseState : Type 0 where
  pub seen : ℕ → Seen
  pub flusher : ℕ → FlusherState
  pub core : CoreState

abbrev pub state_of : {A : Type 0} → House A → HouseState
state_of house = record {
  seen = λ c. seen_at house.connections c;
  flusher = λ f. flusher_at house.flushers f;
  core = house.core;
}

-- the connection is where its part of the history leaves it: the messages that were taken are the
-- first of its stream, and the unread bytes are the rest
pub record StandsAt (entries : List Entry) (seen : Seen) (part : List ConnectionStep) : Type 0 where
  pub status : seen.status ≡ status_of part
  pub tenant : seen.tenant ≡ served_as entries part
  pub front : List ℕ
  pub taken : SpellsAll (taken_by part) front
  pub stream : stream_of part ≡ front ++ seen.unread

-- The house is where the history leaves it: its tenants are these, each connection is where its
-- part of the history leaves it, and each tenant's store is the last of its own run. The history is
-- one run of the state that all tenants share, in its order, and the calls of that run are told
-- what their connections are.
pub record Stands (entries : List Entry) (house : HouseState) (history : List Step) : Type 0 where
  pub is_history : IsHistory entries history
  pub tenants : house.core.entries ≡ entries
  pub connections : (c : ℕ) → StandsAt entries (house.seen c) (part_of c history)
  pub stores : (tenant : ℕ)
      → store_of house.core tenant
      ≡ store_after (quota_of entries tenant) (line_of entries tenant history)
  pub shared : SharedRun (new_state (quota_of entries)) (shared_steps entries history)
      (shared_of house.core)

-- a history goes on by a step, which is answered so
pub record GoesOn (entries : List Entry) (step : Step) (earlier : List Step) (r : StepResult)
    (new : HouseState) : Type 0 where
  pub stands : Stands entries new (step ∷ earlier)
  pub answer : IsAnswer entries step earlier r

-- no flusher but this one has anything else
abbrev pub OtherFlushersStay : ℕ → HouseState → HouseState → Type 0
OtherFlushersStay f old new = (g : ℕ) → g ≢ f → new.flusher g ≡ old.flusher g

-- another size of the cache is one of the tree's; a size above the limit changes nothing, and want
-- of memory leaves the tree
abbrev pub CacheBy : ℕ → StepResult → CoreState → CoreState → Type 0
CacheBy n Done old new = Resized n old new
CacheBy n Refused old new = new ≡ old
CacheBy n r old new = new.tree ≡ old.tree

-- what an event that is answered so makes of its flusher, and of the tree of all rows
abbrev pub FlusherBy : FlusherEvent → StepResult → HouseState → HouseState → Type 0
FlusherBy (event.Plan f) r old new =
    PlansJob r (old.flusher f) (new.flusher f) old.core new.core × OtherFlushersStay f old new
FlusherBy (event.Merge f) r old new =
    MergesJob r (old.flusher f) (new.flusher f) × OtherFlushersStay f old new
    × (new.core ≡ old.core)
FlusherBy (event.Install f) r old new =
    InstallsResult r (old.flusher f) (new.flusher f) old.core new.core
    × OtherFlushersStay f old new
FlusherBy (event.Resize n) r old new =
    CacheBy n r old.core new.core × ((f : ℕ) → new.flusher f ≡ old.flusher f)

-- the same of every event: those of a connection and of the operator leave each flusher what it has
abbrev pub FlushersAfter : Event → StepResult → HouseState → HouseState → Type 0
FlushersAfter (event.On c e) r old new = (f : ℕ) → new.flusher f ≡ old.flusher f
FlushersAfter (event.By e) r old new = FlusherBy e r old new
FlushersAfter (event.SetQuota tenant quota) r old new = (f : ℕ) → new.flusher f ≡ old.flusher f

-- what an event of a flusher leaves of the core where memory is refused to it: a plan what all
-- messages mean, though some may stand in another buffer; a merge all; an install the root; and
-- another size of the cache the tree, with the cache
abbrev pub VoidLeaves : FlusherEvent → CoreState → CoreState → Type 0
VoidLeaves (event.Plan f) old new = tree_messages new.tree ≡ tree_messages old.tree
VoidLeaves (event.Merge f) old new = new ≡ old
VoidLeaves (event.Install f) old new = new.tree.root ≡ old.tree.root
VoidLeaves (event.Resize n) old new = new.tree ≡ old.tree

-- .. and where it is answered so: refused, it leaves all
abbrev pub FlusherLeaves : FlusherEvent → StepResult → CoreState → CoreState → Type 0
FlusherLeaves e Refused old new = new ≡ old
FlusherLeaves e NoMemory old new = VoidLeaves e old new
FlusherLeaves e _ old new = Unit {0}

-- what an event that is refused, or that memory is refused to, leaves of the core: one of a
-- connection and a quota leave all
abbrev pub LeavesCore : Event → StepResult → CoreState → CoreState → Type 0
LeavesCore (event.On c e) r old new = LeavesAll r old new
LeavesCore (event.By e) r old new = FlusherLeaves e r old new
LeavesCore (event.SetQuota tenant quota) r old new = LeavesAll r old new

-- an event is one step, by which every history of the house goes on, and the tenants stay; where it
-- is refused, or memory is refused to it, this is left of the core
pub record IsStepOf (old : HouseState) (e : Event) (r : StepResult)
    (new : HouseState) : Type 0 where
  pub step : Step
  pub is_event : event_of_step step ≡ e
  pub goes_on : (entries : List Entry) (history : List Step) → Stands entries old history
      → GoesOn entries step history r new
  pub flushers : FlushersAfter e r old new
  pub tenants : new.core.entries ≡ old.core.entries
  pub leaves : LeavesCore e r old.core new.core

abbrev pub Steps : {A : Type 0} → House A → Event → coded.StepResult A → House A → Type 0
Steps old e result new = IsStepOf (state_of old) e (step_result_of result) (state_of new)
