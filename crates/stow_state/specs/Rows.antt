-- One tenant's rows in the messages of all.
use Rattle.std.specs.Prelude.{◌≡◌, ◌≢◌, ◌⊎◌, ℕ, ◌<◌, ◌≤◌, ◌^◌, Bool, List, [], ◌∷◌, Option, Some, None, Contains, filter, if◌then◌else◌}
use Rattle.std.specs.Prelude.{map as list_map}
use Rattle.std.specs.FinMap as map
use Rattle.std.specs.FinMap.{find}
use Rattle.std.specs.List.Sorted.{IsStrictlySortedBy}
use Rattle.stow_model.specs.StowBytes.Bytes.{bytes_cmp}
use Rattle.stow_model.specs.Store.{Rows, Version, Shown, is_within}
use Rattle.stow_tree_model.specs.Keys.{packed, own_key}
use Rattle.stow_tree_model.specs.Operations.{NumberedValue}
use Rattle.stow_tree_model.specs.TreeMessage.{TreeMessage}
use Rattle.stow_tree_model.specs.Order.{VersionPlace}
use Rattle.stow_tree_model.specs.Messages.{Messages, value, with_all, IsCall}
use Rattle.stow_tree_model.specs.Merged.{same_key}
use Rattle.stow_tree_model.specs.Agreement.{TenantPins, TenantBounds, Agree}

-- a tenant's index is stored in four bytes
abbrev pub IsIndex : ℕ → Type 0
IsIndex tenant = tenant < 2 ^ 32

-- a key among those of all is the tenant's
abbrev pub is_of : ℕ → List ℕ → Bool
is_of tenant key = same_key (packed tenant (own_key key)) key

-- what a key has by the messages, as a version of the store
abbrev pub version_of : Option NumberedValue → Option Version
version_of None = None
version_of (Some v) = Some (record { number = v.number; value = v.value })

-- the rows in which the key has this version, or no row
abbrev pub with_row : List ℕ → Option Version → Rows → Rows
with_row key None rows = map.remove rows key
with_row key (Some version) rows = map.insert rows key version

-- what the tenant's keys among these places have at the number, each under its own key
abbrev pub rows_among : Messages → ℕ → ℕ → List VersionPlace → Rows
rows_among messages tenant n [] = map.empty
rows_among messages tenant n (place ∷ places) =
    if is_of tenant place.0 then with_row (own_key place.0) (version_of (value messages place.0 n))
    (rows_among messages tenant n places) else rows_among messages tenant n places

-- a tenant's rows at a number
unfoldable pub rows_at : Messages → ℕ → ℕ → Rows
rows_at messages tenant n = rows_among messages tenant n (map.keys messages)

-- each row's key is above those before it
abbrev pub RowsRise : List Shown → Type 0
RowsRise rows = IsStrictlySortedBy bytes_cmp (list_map (λ row. row.0) rows)

-- ---- the laws

-- a tenant's rows are what its keys have
abbrev pub RowsByValue : Type 0
RowsByValue = (messages : Messages) (tenant n : ℕ) (key : List ℕ)
    → map.get (rows_at messages tenant n) key ≡ version_of (value messages (packed tenant key) n)

-- a call's messages leave the rows of others
abbrev pub OtherRowsStay : Type 0
OtherRowsStay = (m : Messages) (tenant number : ℕ) (ms : List TreeMessage) (other n : ℕ)
    → IsCall tenant number ms → IsIndex other → other ≢ tenant
    → rows_at (with_all m ms) other n ≡ rows_at m other n

-- sets that agree show a tenant the same rows at its pins, and from its bound on
abbrev pub AgreeingRows : Type 0
AgreeingRows = (l m : Messages) (pins : TenantPins) (bound : TenantBounds) (tenant n : ℕ)
    → IsIndex tenant → Agree l m pins bound → (Contains (pins tenant) n ⊎ (bound tenant ≤ n))
    → rows_at l tenant n ≡ rows_at m tenant n

-- a list that rises, with what each of the tenant's keys in the interval has, is the rows of the
-- interval in order
abbrev pub IntervalInOrder : Type 0
IntervalInOrder =
    (m : Messages) (tenant n : ℕ) (from to : List ℕ) (rows : List Shown) → RowsRise rows
    → ((key : List ℕ) → find bytes_cmp key rows
    ≡ (if is_within from to key then version_of (value m (packed tenant key) n) else None))
    → filter (λ row. is_within from to row.0) (map.entries (rows_at m tenant n)) ≡ rows
