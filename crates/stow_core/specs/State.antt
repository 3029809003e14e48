-- What the core keeps for all tenants together, and one tenant's store in it.
use Rattle.std.specs.Prelude.{◌≡◌, ◌≢◌, ℕ, ℤ, pos, ◌<◌, length, Bool, false, IfSome, List, Option, Some, None}
use Rattle.std.specs.FinMap as map
use Rattle.std.specs.List.{flat_map}
use Rattle.stow_core.specs.Tenancies.{TenancyState, own_state, tenancy_at, versions_of, is_among}
use Rattle.stow_core.specs.Memory.{NeedsNoMemory}
use Rattle.stow_core.specs.declared.interval.Interval.{Interval}
use Rattle.stow_ledger.specs.Accounts.{IsAccountOf}
use Rattle.stow_dropping.specs.StowLeafCache.Cache.{cache_resized}
use Rattle.stow_dropping.specs.StowMerge.Pins.{room_in}
use Rattle.stow_dropping.specs.StowMerge.Pins as held
use Rattle.stow_dropping.specs.StowMerge.declared.pins.Pins.{Pins}
use Rattle.stow_model.specs.Item.{Item}
use Rattle.stow_model.specs.declared.refusal.Refusal.TheVariants as refusal
use Rattle.stow_model.specs.Reply.{Reply}
use Rattle.stow_model.specs.Reply as reply
use Rattle.stow_model.specs.Login.{Entry, IsTenant, quota_of}
use Rattle.stow_model.specs.Store.{Store, Rows, Version, Answer, Request, OwnEvent, Asked, row_items, rows_within, snapshot_rows, empty_store, answer_with}
use Rattle.stow_model.specs.Store.{step as own_step}
use Rattle.stow_core.specs.declared.rows_at.RowsAt.{RowsAt}
use Rattle.stow_core.specs.declared.snapshot.Snapshot.{Snapshot}
use Rattle.stow_ledger.specs.StowState.Rows.{rows_at}
use Rattle.stow_ledger.specs.StowState.State.{SharedState, IsSound, pins_in, store_in, new_state}
use Rattle.stow_ledger.specs.StowState.Steps.{SharedStep, Call, Maintenance}
use Rattle.stow_dropping.specs.StowTree.Shapes.{AreInRange}
use Rattle.stow_dropping.specs.StowTree.TreeState.{TreeState, tree_messages}
use Rattle.stow_tree_model.specs.Messages.{Messages}

-- the tenants, what each of them has beside its messages, and the tree of all tenants' rows
pub record CoreState : Type 0 where
  pub entries : List Entry
  pub tenancies : List TenancyState
  -- the tenant for whose next pin there is room, if not 0
  pub pin_room : ℕ
  pub tree : TreeState

-- the state of all tenants, in one set of messages
unfoldable pub shared_of : CoreState → SharedState
shared_of core =
    record {
      messages = tree_messages core.tree;
      tenants = λ tenant. own_state (tenancy_at tenant core.tenancies);
    }

-- a tenant's store in these messages; who is no tenant has an empty one, and no quota
abbrev pub store_at : Messages → ℕ → Option TenancyState → Store
store_at messages tenant None = empty_store 0
store_at messages tenant (Some own) = store_in messages tenant (own_state (Some own))

-- the tenant's own store
unfoldable pub store_of : CoreState → ℕ → Store
store_of core tenant =
    store_at (tree_messages core.tree) tenant (tenancy_at tenant core.tenancies)

-- a tenant's rows at a number
abbrev pub rows_in : CoreState → RowsAt → Rows
rows_in core rows = rows_at (tree_messages core.tree) rows.tenant rows.number

-- the tenant's snapshot of this id is live, and shows the rows at the number
abbrev pub IsNumberOf : CoreState → ℕ → ℕ → ℕ → Type 0
IsNumberOf core tenant id number = IfSome (tenancy_at tenant core.tenancies)
    (λ own. map.get (versions_of own).snapshots id ≡ Some number)

-- the live snapshot that the tenant names by the id
pub record IsLive (core : CoreState) (tenant : ℕ) (id : ℤ) (snapshot : Snapshot) : Type 0 where
  pub id_is : id ≡ pos snapshot.id
  pub tenant_is : snapshot.rows.tenant ≡ tenant
  pub number : IsNumberOf core tenant snapshot.id snapshot.rows.number
  pub rows : snapshot_rows (store_of core tenant) id ≡ Some (rows_in core snapshot.rows)

-- it, or none where none is live
abbrev pub IsSnapshotOf : CoreState → ℕ → ℤ → Option Snapshot → Type 0
IsSnapshotOf core tenant id None = snapshot_rows (store_of core tenant) id ≡ None
IsSnapshotOf core tenant id (Some snapshot) = IsLive core tenant id snapshot

-- What the core's type keeps: each tenant has its part, there are few, the shared state is sound,
-- each account is that of its store, the pins are the numbers of live snapshots, and the tree's
-- sizes are within their limits.
pub record IsCore {A : Type 0} (core : CoreState) (pins : Pins A) : Type 0 where
  pub each : length core.tenancies ≡ length core.entries
  pub few : length core.tenancies < 65536
  pub sound : IsSound (shared_of core)
  pub accounts : (tenant : ℕ) → IfSome (tenancy_at tenant core.tenancies)
      (λ own. IsAccountOf (store_of core tenant) own.account)
  pub pins_are : (tenant n : ℕ) → is_among n (held.pins_in pins tenant)
      ≡ is_among n (pins_in (shared_of core) tenant)
  pub pin_room : core.pin_room ≢ 0 → 0 < room_in pins core.pin_room
  pub sizes : AreInRange core.tree.root.shape

-- nothing has come to any tenant's store, and each has its entry's quota
pub record IsNewCore (core : CoreState) : Type 0 where
  pub stores : (tenant : ℕ) → store_of core tenant ≡ empty_store (quota_of core.entries tenant)
  pub shared : shared_of core ≡ new_state (quota_of core.entries)

-- nothing came to any store: messages may have given way to others that mean the same
pub record GivesWay (old new : CoreState) : Type 0 where
  pub sound : IsSound (shared_of old)
  pub step : SharedStep (shared_of old) Maintenance None (shared_of new)

-- no store moved, and the tenants are the same
pub record Keeps (old new : CoreState) : Type 0 where
  pub stores : (tenant : ℕ) → store_of new tenant ≡ store_of old tenant
  pub entries : new.entries ≡ old.entries
  pub gives_way : GivesWay old new

-- what comes to the tenant and leads its store to this one is a step of the shared state
abbrev pub StepsTo : CoreState → ℕ → Store → CoreState → Type 0
StepsTo old tenant store new = (event : OwnEvent) (told : Option Reply)
    → ◌≡◌ {A = Store × Option Reply} (own_step (store_of old tenant) event) (store, told)
    → SharedStep (shared_of old) (Call tenant event) told (shared_of new)

-- the tenant's row of its own key, if there is one
abbrev pub row_at : CoreState → ℕ → List ℕ → Option Version
row_at core tenant key = map.get (store_of core tenant).rows key

-- no store but the tenant's moved
abbrev pub OthersStay : CoreState → CoreState → ℕ → Type 0
OthersStay old new tenant = (other : ℕ) → other ≢ tenant → store_of new other ≡ store_of old other

-- the tenant's store became this one, and nothing else moved
pub record Moves (old : CoreState) (tenant : ℕ) (store : Store) (new : CoreState) : Type 0 where
  pub own : store_of new tenant ≡ store
  pub others : OthersStay old new tenant
  pub entries : new.entries ≡ old.entries
  pub step : StepsTo old tenant store new

-- the operator gave the tenant a quota; where the number is no tenant's, nothing changed
pub record GivesQuota (old : CoreState) (tenant quota : ℕ) (new : CoreState) : Type 0 where
  pub own : IsTenant old.entries tenant
      → Moves old tenant (record (store_of old tenant) { quota = quota }) new
  pub stranger : ¬ (IsTenant old.entries tenant) → new ≡ old

-- the request was answered in the tenant's store, as it would be if the tenant had it alone; and
-- that is a step of the state that all share
pub record AnswersRequest (old new : CoreState) (tenant : ℕ) (request : Request)
    (told : Reply) : Type 0 where
  pub alone : ◌≡◌ {A = Answer} (store_of new tenant, told)
      (answer_with (store_of old tenant) request)
  pub step : SharedStep (shared_of old) (Call tenant (Asked request)) (Some told) (shared_of new)

-- the words were answered, with memory or without
abbrev pub Answers : CoreState → CoreState → ℕ → List (List ℕ) → Reply → Type 0
Answers old new tenant words told =
    (is_refused : Bool)
    × AnswersRequest old new tenant (record { words = words; is_refused = is_refused }) told

-- who is no tenant is refused, and nothing changes
pub record RefusesCall (old : CoreState) (told : Reply) (new : CoreState) : Type 0 where
  pub told_is : told ≡ reply.Error refusal.NotAuthenticated
  pub unchanged : new ≡ old

-- the words were answered as with memory
abbrev pub AnswersWithMemory : CoreState → CoreState → ℕ → List (List ℕ) → Reply → Type 0
AnswersWithMemory old new tenant words told =
    AnswersRequest old new tenant (record { words = words; is_refused = false }) told

-- a call: a tenant's words are answered in its own store, or as memory was refused, which words
-- that need none never are; a number that is no tenant's is refused; no other store moves
pub record Calls (old : CoreState) (tenant : ℕ) (words : List (List ℕ)) (told : Reply)
    (new : CoreState) : Type 0 where
  pub own : IsTenant old.entries tenant → Answers old new tenant words told
  pub needless : IsTenant old.entries tenant → NeedsNoMemory words
      → AnswersWithMemory old new tenant words told
  pub stranger : ¬ (IsTenant old.entries tenant) → RefusesCall old told new
  pub others : OthersStay old new tenant
  pub entries : new.entries ≡ old.entries

-- at most so many leaves are held, the last used ones, and nothing else changed
abbrev pub Resized : ℕ → CoreState → CoreState → Type 0
Resized leaves old new =
    new ≡ record old { tree = record old.tree { cache = cache_resized leaves old.tree.cache } }

-- what is told of the first rows of an interval
abbrev pub told_rows : Rows → Interval → ℕ → List Item
told_rows rows interval count =
    flat_map row_items (rows_within interval.from.now interval.to.now count rows)
