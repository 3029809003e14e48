-- A tenant's account, kept as that of its store.
use Rattle.std.specs.Prelude.{◌≡◌, ℕ, None}
use Rattle.std.specs.FinMap as map
use Rattle.stow_state.specs.StowModel.Store.{Store, empty_store, usage}
use Rattle.stow_versions.specs.VersionsState.{VersionsState}
use Rattle.stow_ledger.specs.declared.charge.Charge.{Charge}
use Rattle.stow_ledger.specs.Accounts.{AccountState, new_account, IsAccountOf, present_charge, usage_of}
use Rattle.stow_ledger.specs.Shown.{charge_of}

-- a new account is that of a store with nothing but a quota
abbrev pub NewAccountIsEmpty : Type 0
NewAccountIsEmpty = (quota : ℕ) → IsAccountOf (empty_store quota) (new_account quota)

-- a change begins with the store's charge
abbrev pub PresentIsCharged : Type 0
PresentIsCharged = (store : Store) (account : AccountState) → IsAccountOf store account
    → present_charge account ≡ charge_of store

-- the counts and the quota are the same
pub record SameCounts (before after : Store) : Type 0 where
  pub quota : after.quota ≡ before.quota
  pub commands : after.commands ≡ before.commands
  pub refusals : after.refusals ≡ before.refusals

-- an account that takes over the charge of the store after a change is the account of that
abbrev pub CommitIsCharged : Type 0
CommitIsCharged =
    (before after : Store) (account : AccountState) (outcome : Charge) → IsAccountOf before account
    → SameCounts before after → outcome ≡ charge_of after
    → IsAccountOf after (record account { charge = outcome.charge; rows = outcome.rows })

abbrev pub with_snapshot : Store → ℕ → Store
with_snapshot store id =
    record store { snapshots = map.insert store.snapshots id store.rows }

-- a new snapshot costs nothing
abbrev pub TakeIsFree : Type 0
TakeIsFree = (store : Store) (id : ℕ) → map.get store.snapshots id ≡ None
    → charge_of (with_snapshot store id) ≡ charge_of store

-- what an account reports is the store's usage
abbrev pub ReportIsUsage : Type 0
ReportIsUsage =
    (store : Store) (account : AccountState) (versions : VersionsState) → IsAccountOf store account
    → versions.last ≡ store.last → map.len versions.snapshots ≡ map.len store.snapshots
    → usage_of account versions ≡ usage store
