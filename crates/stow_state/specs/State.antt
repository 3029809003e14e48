-- The state of all tenants, in one set of messages, and one tenant's own store in it.
use Rattle.std.specs.Prelude.{◌≡◌, ℕ, ◌≤◌, List, [], ◌∷◌, None}
use Rattle.std.specs.Ordering.{nat_cmp}
use Rattle.std.specs.FinMap.{FinMap}
use Rattle.std.specs.FinMap as map
use Rattle.stow_model.specs.Store.{Rows, Store}
use Rattle.stow_tree_model.specs.Keys.{tenant_of}
use Rattle.stow_tree_model.specs.Operations.{NoneAbove}
use Rattle.stow_tree_model.specs.Messages.{Messages, ops_of}
use Rattle.stow_tree_model.specs.Agreement.{TenantPins, TenantBounds, PinsBelow}
use Rattle.stow_state.specs.Rows.{rows_at}

-- what one tenant has beside its messages
pub record TenantState : Type 0 where
  -- the number of the last write
  pub last : ℕ
  -- each live snapshot's id, with the number at which it shows the rows
  pub snapshots : FinMap nat_cmp ℕ
  -- the next snapshot's id
  pub next : ℕ
  -- the most that may be charged
  pub quota : ℕ
  pub commands : ℕ
  pub refusals : ℕ

-- one set of messages for all tenants, and what each has beside it
pub record SharedState : Type 0 where
  pub messages : Messages
  pub tenants : ℕ → TenantState

-- each snapshot's id, with the rows that the messages show at its number
abbrev pub copies : Messages → ℕ → List (ℕ × ℕ) → FinMap nat_cmp Rows
copies messages tenant [] = map.empty
copies messages tenant (snapshot ∷ later) =
    map.insert (copies messages tenant later) snapshot.0 (rows_at messages tenant snapshot.1)

-- one tenant's own store in a set of messages
abbrev pub store_in : Messages → ℕ → TenantState → Store
store_in messages tenant own =
    record {
      rows = rows_at messages tenant own.last;
      last = own.last;
      snapshots = copies messages tenant (map.entries own.snapshots);
      next = own.next;
      quota = own.quota;
      commands = own.commands;
      refusals = own.refusals;
    }

-- one tenant's own store
unfoldable pub view : SharedState → ℕ → Store
view state tenant = store_in state.messages tenant (state.tenants tenant)

-- the numbers of each tenant's snapshots
abbrev pub pins_in : SharedState → TenantPins
pins_in state tenant = map.values (state.tenants tenant).snapshots

-- the number of each tenant's last write
abbrev pub lasts_in : SharedState → TenantBounds
lasts_in state tenant = (state.tenants tenant).last

-- no snapshot has this id or a later one
abbrev pub IdsBelow : {X : Type 0} → ℕ → FinMap nat_cmp X → Type 0
IdsBelow next snapshots = (id : ℕ) → next ≤ id → map.get snapshots id ≡ None

-- no message and no snapshot of a tenant is above its last write, and its next snapshot's id is new
pub record IsSound (state : SharedState) : Type 0 where
  pub messages_below : (key : List ℕ)
      → NoneAbove (lasts_in state (tenant_of key)) (ops_of state.messages key)
  pub pins_below : PinsBelow (pins_in state) (lasts_in state)
  pub ids_below : (tenant : ℕ)
      → IdsBelow (state.tenants tenant).next (state.tenants tenant).snapshots

-- nothing but a quota
abbrev pub new_tenant : ℕ → TenantState
new_tenant quota =
    record { last = 0; snapshots = map.empty; next = 1; quota = quota; commands = 0; refusals = 0 }

-- no message, and for each tenant nothing but its quota
abbrev pub new_state : (ℕ → ℕ) → SharedState
new_state quotas = record { messages = map.empty; tenants = λ tenant. new_tenant (quotas tenant) }
