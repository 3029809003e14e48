-- The steps of the shared state.
use Rattle.std.specs.Prelude.{◌≡◌, ◌≢◌, ◌⊎◌, ℕ, suc, List, [], ◌∷◌, Option, Some, None, if◌then◌else◌, ◌==◌}
use Rattle.std.specs.Ordering.{nat_cmp}
use Rattle.std.specs.FinMap.{FinMap}
use Rattle.std.specs.FinMap as map
use Rattle.std.specs.Option.{unwrap_or}
use Rattle.stow_model.specs.Reply.{Reply}
use Rattle.stow_model.specs.Store.{Store, Rows, OwnEvent, step, store_after, replies_after, with_reply}
use Rattle.stow_tree_model.specs.TreeMessage.{TreeMessage}
use Rattle.stow_tree_model.specs.Messages.{Messages, with_all}
use Rattle.stow_tree_model.specs.Agreement.{Agree}
use Rattle.stow_state.specs.Rows.{IsIndex}
use Rattle.stow_state.specs.Changes.{changes, AreWritten}
use Rattle.stow_state.specs.State.{TenantState, SharedState, copies, view, pins_in, lasts_in, IdsBelow, IsSound, new_state}

-- what comes to the shared state
pub data SharedEvent : Type 0 where
  -- what comes to one tenant's store
  Call : ℕ → OwnEvent → SharedEvent
  -- nothing comes to any store: messages move down the tree, or its shape changes
  Maintenance : SharedEvent

-- the caller's index is one
abbrev pub HasIndex : SharedEvent → Type 0
HasIndex (Call tenant event) = IsIndex tenant
HasIndex Maintenance = Unit {0}

-- the event is not a call of the tenant
abbrev pub IsElsewhere : ℕ → SharedEvent → Type 0
IsElsewhere other (Call tenant event) = other ≢ tenant
IsElsewhere other Maintenance = Unit {0}

-- the number at which each of these snapshots shows the rows: a new one, those of the last write
abbrev pub numbers_of : TenantState → List ℕ → FinMap nat_cmp ℕ
numbers_of own [] = map.empty
numbers_of own (id ∷ ids) =
    map.insert (numbers_of own ids) id (unwrap_or (map.get own.snapshots id) own.last)

-- what a tenant has beside its messages, once its store is this
abbrev pub moved_tenant : TenantState → Store → TenantState
moved_tenant own store =
    record {
      last = store.last;
      snapshots = numbers_of own (map.keys store.snapshots);
      next = store.next;
      quota = store.quota;
      commands = store.commands;
      refusals = store.refusals;
    }

-- what each tenant has, with one changed
abbrev pub with_tenant : (ℕ → TenantState) → ℕ → TenantState → ℕ → TenantState
with_tenant tenants tenant own other = if other == tenant then own else tenants other

-- the state once a tenant's store is this: a message with the tenant's next number for each key
-- whose row changes, and what the tenant has beside its messages
abbrev pub after_call : SharedState → ℕ → Store → SharedState
after_call state tenant store =
    record {
      messages = with_all state.messages
          (changes tenant (suc (lasts_in state tenant)) (view state tenant).rows store.rows);
      tenants = with_tenant state.tenants tenant (moved_tenant (state.tenants tenant) store);
    }

-- the state after an event: a tenant's own step gives its next store
unfoldable pub moved : SharedState → SharedEvent → SharedState
moved state (Call tenant event) = after_call state tenant (step (view state tenant) event).0
moved state Maintenance = state

-- what is told of an event: the reply of the tenant's own step
unfoldable pub reply_to : SharedState → SharedEvent → Option Reply
reply_to state (Call tenant event) = (step (view state tenant) event).1
reply_to state Maintenance = None

-- An event is one step: the state moves, and its messages may then give way to others that mean the
-- same at the snapshots' numbers and from each tenant's last write on.
pub record SharedStep (old : SharedState) (event : SharedEvent) (told : Option Reply)
    (new : SharedState) : Type 0 where
  pub has_index : HasIndex event
  pub reply_is : told ≡ reply_to old event
  pub tenants_are : new.tenants ≡ (moved old event).tenants
  pub messages_agree : Agree (moved old event).messages new.messages (pins_in (moved old event))
      (lasts_in (moved old event))

-- an event, and what was told
abbrev pub ToldEvent : Type 0
ToldEvent = SharedEvent × Option Reply

-- a run: steps, told newest first
abbrev pub SharedRun : SharedState → List ToldEvent → SharedState → Type 0
SharedRun first [] last = last ≡ first
SharedRun first (newest ∷ earlier) last =
    (mid : SharedState) × SharedRun first earlier mid × SharedStep mid newest.0 newest.1 last

abbrev pub line_with : ℕ → SharedEvent → List OwnEvent → List OwnEvent
line_with tenant (Call caller event) line = if caller == tenant then event ∷ line else line
line_with tenant Maintenance line = line

-- what comes to the tenant's store in a run, newest first
abbrev pub line_of : ℕ → List ToldEvent → List OwnEvent
line_of tenant [] = []
line_of tenant (newest ∷ earlier) = line_with tenant newest.0 (line_of tenant earlier)

abbrev pub replies_with : ℕ → SharedEvent → Option Reply → List Reply → List Reply
replies_with tenant (Call caller event) told replies =
    if caller == tenant then with_reply told replies else replies
replies_with tenant Maintenance told replies = replies

-- what the tenant is told in a run, newest first
abbrev pub replies_of : ℕ → List ToldEvent → List Reply
replies_of tenant [] = []
replies_of tenant (newest ∷ earlier) =
    replies_with tenant newest.0 newest.1 (replies_of tenant earlier)

-- ---- what a tenant's own step writes

-- neither row nor number changes
abbrev pub KeepsRows : Store → Store → Type 0
KeepsRows before after = (after.last ≡ before.last) × (after.rows ≡ before.rows)

-- rows change, and those that are there have the next number
abbrev pub WritesRows : Store → Store → Type 0
WritesRows before after = (after.last ≡ suc before.last)
    × AreWritten (suc before.last) before.rows after.rows

-- no snapshot comes or goes
abbrev pub KeepsSnapshots : Store → Store → Type 0
KeepsSnapshots before after = after.snapshots ≡ before.snapshots

-- a snapshot goes, stays, or is new and shows these rows
abbrev pub SnapshotMoves : Rows → Option Rows → Option Rows → Type 0
SnapshotMoves rows before after = (after ≡ None)
    ⊎ ((after ≡ before) ⊎ ((before ≡ None) × (after ≡ Some rows)))

-- snapshots go, or come and show the present rows, while no row changes
pub record MovesSnapshots (before after : Store) : Type 0 where
  pub rows : KeepsRows before after
  pub each : (id : ℕ)
      → SnapshotMoves before.rows (map.get before.snapshots id) (map.get after.snapshots id)

-- one write at most, or snapshots that come or go; an id is used once
pub record WritesOnce (before after : Store) : Type 0 where
  pub rows_move : KeepsRows before after ⊎ WritesRows before after
  pub snapshots_move : KeepsSnapshots before after ⊎ MovesSnapshots before after
  pub ids_below : IdsBelow after.next after.snapshots

-- ---- the laws

-- a tenant's own step writes once at most
abbrev pub OwnStepWrites : Type 0
OwnStepWrites = (store : Store) (event : OwnEvent) → IdsBelow store.next store.snapshots
    → WritesOnce store (step store event).0

-- a call is the caller's own step
abbrev pub CallIsOwnStep : Type 0
CallIsOwnStep =
    (old new : SharedState) (tenant : ℕ) (event : OwnEvent) (told : Option Reply) → IsSound old
    → SharedStep old (Call tenant event) told new
    → ◌≡◌ {A = Store × Option Reply} (view new tenant, told) (step (view old tenant) event)

-- a step leaves every other tenant's store
abbrev pub OtherViewsStay : Type 0
OtherViewsStay =
    (old new : SharedState) (event : SharedEvent) (told : Option Reply) (other : ℕ) → IsIndex other
    → IsElsewhere other event → SharedStep old event told new → view new other ≡ view old other

-- a new state is sound, and so is what a step leads to from a sound one
pub record StaysSound : Type 0 where
  pub of_new : (quotas : ℕ → ℕ) → IsSound (new_state quotas)
  pub of_step : (old new : SharedState) (event : SharedEvent) (told : Option Reply) → IsSound old
      → SharedStep old event told new → IsSound new

-- each event can be a step
abbrev pub StepIsThere : Type 0
StepIsThere = (state : SharedState) (event : SharedEvent) → IsSound state → HasIndex event
    → SharedStep state event (reply_to state event) (moved state event)

-- in a run from a new state each tenant's store and what it is told are those of its own run, alone
abbrev pub RunsAlone : Type 0
RunsAlone =
    (quotas : ℕ → ℕ) (steps : List ToldEvent) (last : SharedState) (tenant : ℕ) → IsIndex tenant
    → SharedRun (new_state quotas) steps last
    → (view last tenant ≡ store_after (quotas tenant) (line_of tenant steps))
    × (replies_of tenant steps ≡ replies_after (quotas tenant) (line_of tenant steps))

-- two runs, in which a tenant has the same quota and the same comes to its store, leave it the same
-- and tell it the same, whatever its indexes are and whatever else the runs hold
abbrev pub TwoSharedRuns : Type 0
TwoSharedRuns =
    (quotas quotas' : ℕ → ℕ) (steps steps' : List ToldEvent) (last last' : SharedState)
    (tenant tenant' : ℕ) → IsIndex tenant → IsIndex tenant' → quotas tenant ≡ quotas' tenant'
    → line_of tenant steps ≡ line_of tenant' steps' → SharedRun (new_state quotas) steps last
    → SharedRun (new_state quotas') steps' last'
    → (view last tenant ≡ view last' tenant')
    × (replies_of tenant steps ≡ replies_of tenant' steps')

-- A call is a step where the messages were added that the tenant's own step asks for, in whatever
-- list, and what it has beside them moved. A set that agrees with the one before is a step of
-- maintenance.
pub record StepsByParts : Type 0 where
  pub of_call : (old new : SharedState) (tenant : ℕ) (event : OwnEvent) (ms : List TreeMessage)
      → IsSound old → IsIndex tenant
      → with_all old.messages ms
      ≡ with_all old.messages (changes tenant (suc (lasts_in old tenant))
      (view old tenant).rows (step (view old tenant) event).0.rows)
      → new.messages ≡ with_all old.messages ms
      → new.tenants ≡ with_tenant old.tenants tenant
      (moved_tenant (old.tenants tenant) (step (view old tenant) event).0)
      → SharedStep old (Call tenant event) (step (view old tenant) event).1 new
  pub of_maintenance : (old new : SharedState) → new.tenants ≡ old.tenants
      → Agree old.messages new.messages (pins_in old) (lasts_in old)
      → SharedStep old Maintenance None new

-- The numbers of snapshots after one was taken are those before, and the last write's for the new
-- id; after one was dropped, those before without it.
pub record NumbersMove : Type 0 where
  pub of_take : (m : Messages) (tenant : ℕ) (own : TenantState) (rows : Rows)
      → IdsBelow own.next own.snapshots
      → numbers_of own (map.keys
      (map.insert (copies m tenant (map.entries own.snapshots)) own.next rows))
      ≡ map.insert own.snapshots own.next own.last
  pub of_drop : (m : Messages) (tenant id : ℕ) (own : TenantState)
      → numbers_of own (map.keys
      (map.remove (copies m tenant (map.entries own.snapshots)) id))
      ≡ map.remove own.snapshots id

-- The tenant's store becomes this one, which one write or its snapshots lead to, and messages may
-- then give way.
pub record LeadsTo (old : SharedState) (tenant : ℕ) (store : Store) (new : SharedState)
    : Type 0 where
  pub has_index : IsIndex tenant
  pub writes_once : WritesOnce (view old tenant) store
  pub tenants_are : new.tenants ≡ (after_call old tenant store).tenants
  pub messages_agree : Agree (after_call old tenant store).messages new.messages
      (pins_in (after_call old tenant store)) (lasts_in (after_call old tenant store))

-- the tenant has the store, no other store moves, and whatever event leads to the store is this
-- step
pub record LeadsAlone (old : SharedState) (tenant : ℕ) (store : Store)
    (new : SharedState) : Type 0 where
  pub sound : IsSound new
  pub own : view new tenant ≡ store
  pub others : (other : ℕ) → IsIndex other → other ≢ tenant → view new other ≡ view old other
  pub step : (event : OwnEvent) (told : Option Reply)
      → ◌≡◌ {A = Store × Option Reply} (step (view old tenant) event) (store, told)
      → SharedStep old (Call tenant event) told new

-- what leads a tenant's store to another does so alone, and the messages of its change do lead
-- there
pub record StoresLead : Type 0 where
  pub alone : (old new : SharedState) (tenant : ℕ) (store : Store) → IsSound old
      → LeadsTo old tenant store new → LeadsAlone old tenant store new
  pub exactly : (old new : SharedState) (tenant : ℕ) (store : Store) → IsSound old
      → IsIndex tenant → WritesOnce (view old tenant) store
      → new.tenants ≡ (after_call old tenant store).tenants
      → new.messages ≡ (after_call old tenant store).messages → LeadsTo old tenant store new

-- messages may give way before a call too: that and the call together are the call's step
abbrev pub StepsAfterMaintenance : Type 0
StepsAfterMaintenance =
    (old mid new : SharedState) (tenant : ℕ) (event : OwnEvent) (told : Option Reply) → IsSound old
    → SharedStep old Maintenance None mid → SharedStep mid (Call tenant event) told new
    → SharedStep old (Call tenant event) told new
