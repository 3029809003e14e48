-- What is told of rows without their bytes.
use Rattle.std.proofs.Common.{◌≡◌, ℕ, List, length, Option, Some, None, option_map, is_some, true, refl, ap, sym, subst}
use Rattle.std.specs.Prelude.{Contains, IfSome, IsSomeAnd}
use Rattle.std.specs.FinMap as finite
use Rattle.stow_core.specs.declared.length_entry.LengthEntry.{LengthEntry}
use Rattle.stow_core.specs.RowLengths.{AreLengths, IsToldOfRow}
use Rattle.stow_core.specs.State.{CoreState, row_at}
use Rattle.stow_core.proofs.RowLengths.{entry_length}
use Rattle.stow_ledger.specs.Shown.{sized_option}
use Rattle.stow_ledger.specs.declared.sized_version.SizedVersion.{SizedVersion}
use Rattle.stow_model.specs.Store.{Version}
use Rattle.stow_dropping.specs.StowRead.Glance.{IsToldOf}
use Rattle.stow_dropping.specs.StowRead.declared.newest.Newest.{Newest}
use Rattle.stow_dropping.specs.StowRead.declared.newest.Newest.TheVariants as newest
use Rattle.stow_dropping.specs.StowRead.declared.value_head.ValueHead.{ValueHead}
use Rattle.stow_ledger.specs.StowState.Rows.{rows_at, version_of}
use Rattle.stow_ledger.proofs.StowState.Rows.{rows_by_value_law}
use Rattle.stow_tree_model.specs.Keys.{packed}
use Rattle.stow_tree_model.specs.Messages.{Messages, value}
use Rattle.stow_tree_model.specs.Operations.{NumberedValue}

sized_head : ValueHead → SizedVersion
sized_head head = record { number = head.number; length = head.length }

told_version : (v : Option NumberedValue) (told : Newest) → IsToldOf v told → IsToldOfRow (version_of v) told
unfolding sized_head
told_version v newest.Missing is = ap version_of is
told_version None (newest.Whole head) is = cc
told_version (Some v) (newest.Whole head) is = ap (option_map sized_head) is
told_version None (newest.Extended number) is = is
told_version (Some v) (newest.Extended number) is = is

-- what a glance at the tree tells of a key it tells of the key's row
pub told_row : (m : Messages) (t n : ℕ) (key packed_key : List ℕ) (told : Newest) → packed_key ≡ packed t key → IsToldOf (value m packed_key n) told → IsToldOfRow (finite.get (rows_at m t n) key) told
told_row m t n key packed_key told same is =
    subst (λ row. IsToldOfRow row told) (sym (rows_by_value_law m t n key)) (told_version (value m (packed t key) n) told (subst (λ k. IsToldOf (value m k n) told) same is))

-- a row of a number whose length is held
pub held_length : (core : CoreState) (lengths : List LengthEntry) (t number bytes : ℕ) (key : List ℕ) → AreLengths core lengths → Contains lengths (record { tenant = t; length = bytes; number = number }) → IsSomeAnd (row_at core t key) (λ v. v.number ≡ number) → Some (record { number = number; length = bytes }) ≡ sized_option (row_at core t key)
held_length core lengths t number bytes key are there told = one (row_at core t key) told ((entry_length core lengths (record { tenant = t; length = bytes; number = number }) are there).is_length key) where
  one : (row : Option Version) → IsSomeAnd row (λ v. v.number ≡ number) → IfSome row (λ v. v.number ≡ number → length v.value ≡ bytes) → Some (record { number = number; length = bytes }) ≡ sized_option row
  one None told is = absurd told
  one (Some v) told is = λ i. Some (record { number = sym told i; length = sym (is told) i })

-- where something is told of a row there is one
pub whole_there : (row : Option Version) (head : ValueHead) → IsToldOfRow row (newest.Whole head) → is_some row ≡ true
whole_there None head is = cc
whole_there (Some v) head is = refl

pub extended_there : (row : Option Version) (number : ℕ) → IsToldOfRow row (newest.Extended number) → is_some row ≡ true
extended_there None number is = absurd is
extended_there (Some v) number is = refl
