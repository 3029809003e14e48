-- Drops that free nothing.
use Rattle.std.specs.Prelude.{◌≡◌, ◌≢◌, ℕ, Some, IsTrue}
use Rattle.std.specs.FinMap as map
use Rattle.std.specs.List.{AllByRecursion}
use Rattle.stow_ledger.specs.StowModel.Store.{Rows, Store, shown_by}
use Rattle.stow_ledger.specs.Shown.{is_in, charge_of, without_snapshot}

-- each version that the rows show, the store shows too
abbrev pub AreShown : Rows → Store → Type 0
AreShown rows store =
    AllByRecursion (λ shown. IsTrue (is_in shown (shown_by store))) (map.entries rows)

-- a dropped snapshot frees nothing where each version that it shows is shown still
abbrev pub DropIsFree : Type 0
DropIsFree = (store : Store) (id : ℕ) (copy : Rows) → map.get store.snapshots id ≡ Some copy
    → AreShown copy (without_snapshot store id)
    → charge_of (without_snapshot store id) ≡ charge_of store

-- .. as where another live snapshot shows the same rows
abbrev pub SecondDropIsFree : Type 0
SecondDropIsFree = (store : Store) (id other : ℕ) (copy : Rows) → other ≢ id
    → map.get store.snapshots id ≡ Some copy → map.get store.snapshots other ≡ Some copy
    → charge_of (without_snapshot store id) ≡ charge_of store

-- .. and where the present rows are the same
abbrev pub PresentDropIsFree : Type 0
PresentDropIsFree = (store : Store) (id : ℕ) → map.get store.snapshots id ≡ Some store.rows
    → charge_of (without_snapshot store id) ≡ charge_of store
