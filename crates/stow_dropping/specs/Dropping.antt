-- What a drop leaves charged.
use Rattle.std.specs.Prelude.{◌≡◌, ℕ, ◌≤◌, List, Some}
use Rattle.std.specs.FinMap as map
use Rattle.stow_ledger.specs.StowModel.Store.{Store}
use Rattle.stow_tree_model.specs.Keys.{packed}
use Rattle.stow_tree_model.specs.Messages.{Messages, ops_of}
use Rattle.stow_tree_model.specs.Operations.{NoneAbove}
use Rattle.stow_ledger.specs.StowState.Rows.{rows_at}
use Rattle.stow_ledger.specs.Accounts.{AccountState, IsAccountOf}
use Rattle.stow_ledger.specs.Histories.{ShowsHistory, SameNumbers}
use Rattle.stow_ledger.specs.Shown.{charge_of, without_snapshot}
use Rattle.stow_ledger.specs.declared.charge.Charge.{Charge}

-- whatever store of the tenant the messages show, whose account this is: the charge is that of the
-- store without the snapshot that shows the rows at the number, where these pins are left
abbrev pub IsChargeWithout : Messages → ℕ → ℕ → AccountState → List ℕ → Charge → Type 0
IsChargeWithout messages tenant number account pins left =
    (store : Store) (id : ℕ) (numbers : List ℕ) → IsAccountOf store account
    → ((key : List ℕ) → NoneAbove store.last (ops_of messages (packed tenant key)))
    → map.get store.snapshots id ≡ Some (rows_at messages tenant number)
    → number ≤ store.last
    → ShowsHistory (rows_at messages tenant) (without_snapshot store id) numbers
    → SameNumbers pins numbers
    → left ≡ charge_of (without_snapshot store id)
