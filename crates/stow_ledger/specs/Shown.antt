-- A tenant's charge, by what its rows and its copies show.
use Rattle.std.specs.Prelude.{◌≡◌, ℕ, ◌+◌, Bool, List, ◌++◌, length, sum_by, Option, Some, None, IfSome, IsTrue, IsFalse, ◌||◌, [], ◌∷◌}
use Rattle.std.specs.List.{list_any, flat_map, AllZip}
use Rattle.std.specs.FinMap as map
use Rattle.stow_state.specs.StowModel.Store.{Version, Rows, Store, Shown, cost, is_same_version, distinct, shown_by, charge, rows_without}
use Rattle.stow_ledger.specs.Charges.{is_pinned, is_shown, charge_after_write, charge_after_drop}
use Rattle.stow_ledger.specs.declared.charge.Charge.{Charge}
use Rattle.stow_ledger.specs.declared.row_change.RowChange.{RowChange}
use Rattle.stow_ledger.specs.declared.shown_row.ShownRow.{ShownRow}
use Rattle.stow_ledger.specs.declared.sized_version.SizedVersion.{SizedVersion}

-- the version is one of these
abbrev pub is_in : Shown → List Shown → Bool
is_in shown versions = list_any (is_same_version shown) versions

-- what is charged where some versions are shown, in whatever lists and however often
abbrev pub cost_of_all : List Shown → ℕ
cost_of_all versions = sum_by cost (distinct versions)

-- no version stands there twice
abbrev pub IsOnceEach : List Shown → Type 0
IsOnceEach versions = distinct versions ≡ versions

-- two lists show the same but for some freed versions, each once: what they cost differs by those
abbrev pub CostByMembers : Type 0
CostByMembers = (before after freed : List Shown) → IsOnceEach freed
    → ((v : Shown) → is_in v before ≡ (is_in v after || is_in v freed))
    → ((v : Shown) → IsTrue (is_in v freed) → IsFalse (is_in v after))
    → cost_of_all before ≡ cost_of_all after + sum_by cost freed

-- ---- a write

-- what a store is charged, and how many rows it has
abbrev pub charge_of : Store → Charge
charge_of store = record { charge = charge store; rows = map.len store.rows }

-- a store whose row of the key is this, or none
abbrev pub rows_with : Rows → List ℕ → Option Version → Rows
rows_with rows key None = map.remove rows key
rows_with rows key (Some version) = map.insert rows key version

abbrev pub with_row : Store → List ℕ → Option Version → Store
with_row store key after = record store { rows = rows_with store.rows key after }

abbrev pub sized : Version → SizedVersion
sized version = record { number = version.number; length = length version.value }

abbrev pub sized_option : Option Version → Option SizedVersion
sized_option None = None
sized_option (Some version) = Some (sized version)

abbrev pub length_option : Option Version → Option ℕ
length_option None = None
length_option (Some version) = Some (length version.value)

-- the change as the account is told it
abbrev pub change_of : Store → List ℕ → Option Version → RowChange
change_of store key after =
    record {
      key = length key;
      before = sized_option (map.get store.rows key);
      after = length_option after;
    }

-- all that a live snapshot shows
abbrev pub copied : Store → List Shown
copied store = flat_map map.entries (map.values store.snapshots)

-- the pins tell whether a snapshot shows the key's present version
abbrev pub PinsTell : Store → List ℕ → List ℕ → Type 0
PinsTell store key pins = IfSome (map.get store.rows key)
    (λ version. is_in (key, version) (copied store) ≡ is_pinned pins version.number)

-- nothing shows the new version yet
abbrev pub IsNewRow : Store → List ℕ → Option Version → Type 0
IsNewRow store key after =
    IfSome after (λ version. IsFalse (is_in (key, version) (shown_by store)))

-- a write's charge is that of the store after it
abbrev pub WriteIsCharged : Type 0
WriteIsCharged = (store : Store) (key : List ℕ) (after : Option Version) (pins : List ℕ)
    → IsNewRow store key after → PinsTell store key pins
    → charge_of (with_row store key after)
    ≡ charge_after_write (charge_of store) (change_of store key after) pins

-- ---- a drop

abbrev pub without_snapshot : Store → ℕ → Store
without_snapshot store id = record store { snapshots = map.remove store.snapshots id }

-- the account is told of the version, and its pins tell whether it is shown still
pub record IsToldOf (after : Store) (pins : List ℕ) (shown : Shown) (row : ShownRow) : Type 0 where
  pub key : row.key ≡ length shown.0
  pub version : row.version ≡ sized shown.1
  pub still : is_shown pins row ≡ is_in shown (shown_by after)

-- a drop's charge is that of the store after it
abbrev pub DropIsCharged : Type 0
DropIsCharged = (store : Store) (id : ℕ) (copy : Rows) (rows : List ShownRow) (pins : List ℕ)
    → map.get store.snapshots id ≡ Some copy
    → AllZip (IsToldOf (without_snapshot store id) pins) (map.entries copy) rows
    → charge_of (without_snapshot store id) ≡ charge_after_drop (charge_of store) rows pins

-- in parts it is the same
abbrev pub DropInParts : Type 0
DropInParts = (so_far : Charge) (first later : List ShownRow) (pins : List ℕ)
    → charge_after_drop (charge_after_drop so_far first pins) later pins
    ≡ charge_after_drop so_far (first ++ later) pins

-- a charge after some keys lose their rows, one after another
abbrev pub charge_after_removals : Charge → Store → List (List ℕ) → List ℕ → Charge
charge_after_removals so_far store [] pins = so_far
charge_after_removals so_far store (key ∷ keys) pins =
    charge_after_removals (charge_after_write so_far (change_of store key None) pins)
    (with_row store key None) keys pins

-- rows that are removed one after another are charged as one write
abbrev pub RemovalsAreCharged : Type 0
RemovalsAreCharged = (store : Store) (keys : List (List ℕ)) (pins : List ℕ)
    → ((key : List ℕ) → PinsTell store key pins)
    → charge_of (record store { rows = rows_without keys store.rows })
    ≡ charge_after_removals (charge_of store) store keys pins
