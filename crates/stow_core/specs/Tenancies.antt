-- What one tenant has beside its messages: its versions and its account.
use Rattle.std.specs.Prelude.{ℕ, zero, suc, ◌==◌, Bool, not, List, [], filter, Option, Some, None, slice_get, if◌then◌else◌}
use Rattle.std.specs.FinMap as map
use Rattle.stow_core.specs.declared.tenancy.Tenancy.{Tenancy}
use Rattle.stow_ledger.specs.Accounts.{AccountState, new_account}
use Rattle.stow_ledger.specs.declared.charge.Charge.{Charge}
use Rattle.stow_model.specs.Login.{Entry}
use Rattle.stow_model.specs.Store.{one_more}
use Rattle.stow_ledger.specs.StowState.State.{TenantState, new_tenant}
pub use Rattle.stow_versions.specs.VersionsState.{is_among}
use Rattle.stow_versions.specs.VersionsState.{VersionsState}

pub record TenancyState : Type 0 where
  -- the number of the last write
  pub last : ℕ
  -- each live snapshot's id with the number at which it shows the rows, by rising ids
  pub snapshots : List (ℕ × ℕ)
  -- the next snapshot's id
  pub next : ℕ
  -- how many more snapshots need no memory
  pub room : ℕ
  pub account : AccountState

abbrev pub tenancy_with : VersionsState → AccountState → TenancyState
tenancy_with versions account =
    record {
      last = versions.last;
      snapshots = map.entries versions.snapshots;
      next = versions.next;
      room = versions.room;
      account = account;
    }

abbrev pub tenancy_of : {A : Type 0} → Tenancy A → TenancyState
tenancy_of tenancy = tenancy_with tenancy.versions tenancy.account

abbrev pub versions_of : TenancyState → VersionsState
versions_of own =
    record {
      last = own.last;
      snapshots = map.from_sorted own.snapshots;
      next = own.next;
      room = own.room;
    }

-- a tenant of this entry for which nothing was written or counted yet
abbrev pub new_tenancy : Entry → TenancyState
new_tenancy entry =
    record { last = 0; snapshots = []; next = 1; room = 0; account = new_account entry.quota }

-- the number, unless that is so
abbrev pub unless : Bool → ℕ → Option ℕ
unless is n = if is then None else Some n

-- all but this number, if it is one
abbrev pub without : Option ℕ → List ℕ → List ℕ
without None numbers = numbers
without (Some n) numbers = filter (λ m. not (m == n)) numbers

-- one more request was counted
abbrev pub counted_account : AccountState → AccountState
counted_account a = record a { commands = one_more a.commands }

-- one more request was counted, and one more refusal of a write
abbrev pub refused_account : AccountState → AccountState
refused_account a = record (counted_account a) { refusals = one_more a.refusals }

-- one more request was counted, which led to this charge
abbrev pub charged_account : Charge → AccountState → AccountState
charged_account c a = record (counted_account a) { charge = c.charge; rows = c.rows }

-- what a tenant has beside its messages, as the shared state says it; who is no tenant has nothing
abbrev pub own_state : Option TenancyState → TenantState
own_state None = new_tenant 0
own_state (Some own) =
    record {
      last = own.last;
      snapshots = map.from_sorted own.snapshots;
      next = own.next;
      quota = own.account.quota;
      commands = own.account.commands;
      refusals = own.account.refusals;
    }

-- a tenant's, whose index counts from 1
abbrev pub tenancy_at : ℕ → List TenancyState → Option TenancyState
tenancy_at zero tenancies = None
tenancy_at (suc place) tenancies = slice_get tenancies place
