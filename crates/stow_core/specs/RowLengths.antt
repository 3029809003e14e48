-- The lengths of rows' values that the core keeps.
use Rattle.std.specs.Prelude.{◌≡◌, ℕ, ◌≤◌, List, length, set, All, Option, Some, None, IfSome, IsSomeAnd}
use Rattle.std.specs.FinMap as map
use Rattle.stow_core.specs.declared.length_entry.LengthEntry.{LengthEntry}
use Rattle.stow_core.specs.State.{CoreState, store_of, IsCore}
use Rattle.stow_dropping.specs.StowMerge.declared.pins.Pins.{Pins}
use Rattle.stow_ledger.specs.Shown.{sized_option}
use Rattle.stow_model.specs.Store.{Rows, Store, Version}
use Rattle.stow_dropping.specs.StowRead.declared.newest.Newest.{Newest}
use Rattle.stow_dropping.specs.StowRead.declared.newest.Newest.TheVariants as newest

-- a length of a tenant's write came, if one was told, in the place of another
abbrev pub IsKeptIn : List LengthEntry → ℕ → ℕ → Option ℕ → List LengthEntry → Type 0
IsKeptIn old tenant number None new = new ≡ old
IsKeptIn old tenant number (Some length) new = (place : ℕ)
    × (new ≡ set old place (record { tenant = tenant; length = length; number = number }))

-- what is told of a row is so
abbrev pub IsToldOfRow : Option Version → Newest → Type 0
IsToldOfRow row newest.Missing = row ≡ None
IsToldOfRow row (newest.Whole head) =
    sized_option row ≡ Some (record { number = head.number; length = head.length })
IsToldOfRow row (newest.Extended number) = IsSomeAnd row (λ version. version.number ≡ number)

-- each row of the number has a value of this length
abbrev pub HaveLength : Rows → ℕ → ℕ → Type 0
HaveLength rows number bytes = (key : List ℕ) → IfSome (map.get rows key)
    (λ version. version.number ≡ number → length version.value ≡ bytes)

-- the length is that of each row that the store has of the number, and none will come
pub record IsLengthIn (store : Store) (number bytes : ℕ) : Type 0 where
  pub is_past : number ≤ store.last
  pub is_length : HaveLength store.rows number bytes

-- each length is that of its tenant's rows of the number
abbrev pub AreLengths : CoreState → List LengthEntry → Type 0
AreLengths core lengths =
    All (λ entry. IsLengthIn (store_of core entry.tenant) entry.number entry.length) lengths

-- all that the core's type keeps
abbrev pub IsKept : {A : Type 0} → CoreState → Pins A → List LengthEntry → Type 0
IsKept core pins lengths = IsCore core pins × AreLengths core lengths
