-- What a tenant's account says.
use Rattle.std.specs.Prelude.{◌≡◌, ℕ, Bool, List, [], ◌∷◌, nat_le, ◌||◌}
use Rattle.std.specs.FinMap as map
use Rattle.stow_state.specs.StowModel.Store.{Store, charge}
use Rattle.stow_state.specs.StowModel.declared.usage.Usage.{Usage}
use Rattle.stow_versions.specs.VersionsState.{VersionsState}
use Rattle.stow_ledger.specs.Charges.{charge_after_write, charge_after_drop}
use Rattle.stow_ledger.specs.declared.charge.Charge.{Charge}
use Rattle.stow_ledger.specs.declared.row_change.RowChange.{RowChange}
use Rattle.stow_ledger.specs.declared.shown_row.ShownRow.{ShownRow}

pub record AccountState : Type 0 where
  -- the most that may be charged
  pub quota : ℕ
  pub charge : ℕ
  pub rows : ℕ
  pub commands : ℕ
  pub refusals : ℕ

-- nothing but a quota
abbrev pub new_account : ℕ → AccountState
new_account quota = record { quota = quota; charge = 0; rows = 0; commands = 0; refusals = 0 }

-- the account is that of the store
pub record IsAccountOf (store : Store) (account : AccountState) : Type 0 where
  pub quota : account.quota ≡ store.quota
  pub charged : account.charge ≡ charge store
  pub rows : account.rows ≡ map.len store.rows
  pub commands : account.commands ≡ store.commands
  pub refusals : account.refusals ≡ store.refusals

-- ---- what an account gives

-- one change, under pins
pub data ChargeStep : Type 0 where
  Write : RowChange → List ℕ → ChargeStep
  Drop : List ShownRow → List ℕ → ChargeStep

abbrev pub charge_after : Charge → ChargeStep → Charge
charge_after so_far (Write change pins) = charge_after_write so_far change pins
charge_after so_far (Drop rows pins) = charge_after_drop so_far rows pins

-- after changes, told newest first
abbrev pub charge_after_all : Charge → List ChargeStep → Charge
charge_after_all so_far [] = so_far
charge_after_all so_far (newest ∷ earlier) = charge_after (charge_after_all so_far earlier) newest

abbrev pub present_charge : AccountState → Charge
present_charge account = record { charge = account.charge; rows = account.rows }

-- changes lead to the charge from the account's own, as that is now
abbrev pub IsGivenBy : AccountState → Charge → Type 0
IsGivenBy account c =
    (steps : List ChargeStep) × (c ≡ charge_after_all (present_charge account) steps)

-- not both above the quota and above the charge before
abbrev pub is_allowed : AccountState → Charge → Bool
is_allowed account outcome =
    nat_le outcome.charge account.quota || nat_le outcome.charge account.charge

-- ---- what it reports

abbrev pub usage_of : AccountState → VersionsState → Usage
usage_of account versions =
    record {
      rows = account.rows;
      charge = account.charge;
      quota = account.quota;
      writes = versions.last;
      commands = account.commands;
      refusals = account.refusals;
      snapshots = map.len versions.snapshots;
    }
