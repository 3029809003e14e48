-- What pins tell, where rows are those of a history by numbers.
use Rattle.std.specs.Prelude.{◌≡◌, ℕ, ◌+◌, ◌*◌, ◌<◌, ◌≤◌, ◌↔◌, List, map as list_map, Contains, Option, Some, None, IfSome}
use Rattle.std.specs.List.{AllByRecursion}
use Rattle.std.specs.FinMap as map
use Rattle.stow_state.specs.StowModel.Store.{Version, Rows, Store, shown_by, charge}
use Rattle.stow_state.specs.StowTreeModel.Messages.{Messages}
use Rattle.stow_state.specs.Rows.{rows_at}
use Rattle.stow_ledger.specs.Charges.{shown_until}
use Rattle.stow_ledger.specs.Shown.{is_in, PinsTell, IsNewRow}

-- the rows at each number
abbrev pub History : Type 0
History = ℕ → Rows

-- a version is shown from its own number on, until another takes its place
pub record IsVersionHistory (at : History) : Type 0 where
  pub made_before : (n : ℕ) (key : List ℕ)
      → IfSome (map.get (at n) key) (λ version. version.number ≤ n)
  pub stands_since : (m n : ℕ) (key : List ℕ) (version : Version)
      → map.get (at n) key ≡ Some version → version.number ≤ m → m ≤ n
      → map.get (at m) key ≡ Some version

-- the store's rows are those of its last write, and its copies those at the snapshots' numbers,
-- none above that
pub record ShowsHistory (at : History) (store : Store) (numbers : List ℕ) : Type 0 where
  pub rows : store.rows ≡ at store.last
  pub copies : map.values store.snapshots ≡ list_map at numbers
  pub below : AllByRecursion (λ number. number ≤ store.last) numbers

-- the same numbers, in whatever order and however often
abbrev pub SameNumbers : List ℕ → List ℕ → Type 0
SameNumbers pins numbers = (n : ℕ) → Contains pins n ↔ Contains numbers n

-- a snapshot shows the present version of a key just where a pin is at or above its number
abbrev pub PinsTellOfWrites : Type 0
PinsTellOfWrites =
    (at : History) (store : Store) (numbers pins : List ℕ) (key : List ℕ) → IsVersionHistory at
    → ShowsHistory at store numbers → SameNumbers pins numbers → PinsTell store key pins

-- a version of the next number isn't shown yet
abbrev pub NextIsNew : Type 0
NextIsNew =
    (at : History) (store : Store) (numbers : List ℕ) (key value : List ℕ) → IsVersionHistory at
    → ShowsHistory at store numbers
    → IsNewRow store key (Some (record { number = store.last + 1; value = value }))

-- the key's next number: until then the version is the key's, and from then on it isn't
abbrev pub IsNextNumber : History → ℕ → List ℕ → Version → Option ℕ → Type 0
IsNextNumber at last key version None = map.get (at last) key ≡ Some version
IsNextNumber at last key version (Some next) =
    (next ≤ last) × ((n : ℕ) → version.number ≤ n → n ≤ last
    → (map.get (at n) key ≡ Some version) ↔ (n < next))

-- the present or a snapshot shows a version just where its next number and the pins say so
abbrev pub PinsTellOfDrops : Type 0
PinsTellOfDrops =
    (at : History) (store : Store) (numbers pins : List ℕ) (key : List ℕ) (version : Version)
    (next : Option ℕ) → IsVersionHistory at → ShowsHistory at store numbers
    → SameNumbers pins numbers → version.number ≤ store.last
    → IsNextNumber at store.last key version next
    → shown_until pins version.number next ≡ is_in (key, version) (shown_by store)

-- each row is charged 16 bytes at least
abbrev pub RowsAreCharged : Type 0
RowsAreCharged = (store : Store) → 16 * map.len store.rows ≤ charge store

-- a tenant's rows at the numbers of one set of messages are such a history
abbrev pub RowsAreHistory : Type 0
RowsAreHistory = (messages : Messages) (tenant : ℕ) → IsVersionHistory (rows_at messages tenant)
