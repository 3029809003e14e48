-- The first keys of an interval that have a value, with what is told of it.
use Rattle.std.specs.Prelude.{◌≡◌, ◌⊎◌, ℕ, ◌<◌, ◌≤◌, List, length, map, Bool, true, ◌&&◌, Contains, Option, Some, None, IsSome}
use Rattle.std.specs.Ordering.{is_lt}
use Rattle.std.specs.List.{AllByRecursion}
use Rattle.std.specs.List.Sorted.{IsStrictlySortedBy}
use Rattle.stow_bytes.specs.Bytes.{bytes_cmp}
use Rattle.stow_tree_model.specs.Operations.{NumberedValue, Operations, NoneAbove, latest}
use Rattle.stow_read.specs.NextKey.{is_from}
use Rattle.stow_read.specs.declared.row_head.RowHead.{RowHead}
use Rattle.stow_read.specs.declared.value_head.ValueHead.{ValueHead}

-- ---- which keys

-- the key stands from the start on, or after it, and below the upper end
abbrev pub is_inside : List ℕ → Bool → List ℕ → List ℕ → Bool
is_inside start after to key = is_from start after key && is_lt (bytes_cmp key to)

-- all these keys are below this one
abbrev pub AreBelow : List (List ℕ) → List ℕ → Type 0
AreBelow keys key = AllByRecursion (λ k. is_lt (bytes_cmp k key) ≡ true) keys

-- the first `count` keys of the interval that have a value at the number, in order
pub record AreFirst (ops : List ℕ → Operations) (start : List ℕ) (after : Bool) (to : List ℕ)
    (at count : ℕ) (keys : List (List ℕ)) : Type 0 where
  pub rise : IsStrictlySortedBy bytes_cmp keys
  pub inside : AllByRecursion (λ key. is_inside start after to key ≡ true) keys
  pub there : AllByRecursion (λ key. IsSome (latest (ops key) at)) keys
  pub few : length keys ≤ count
  pub all : (key : List ℕ) → is_inside start after to key ≡ true → IsSome (latest (ops key) at)
      → Contains keys key ⊎ ((length keys ≡ count) × AreBelow keys key)

-- ---- what is told of a key

-- the least number above this one that has an operation
pub record IsLeastAbove (ops : Operations) (at number : ℕ) : Type 0 where
  pub above : at < number
  pub there : IsSome (ops number)
  pub none : (n : ℕ) → at < n → n < number → ops n ≡ None

-- the next number that has an operation, or none
abbrev pub IsNumberAfter : Operations → ℕ → Option ℕ → Type 0
IsNumberAfter ops at None = NoneAbove at ops
IsNumberAfter ops at (Some number) = IsLeastAbove ops at number

-- what is told of a value: its number, and how many bytes it has
abbrev pub head_of : NumberedValue → ValueHead
head_of v = record { number = v.number; length = length v.value }

-- what is told of a key, by the operations on it, is so
pub record IsHead {A : Type 0} (ops : Operations) (at : ℕ) (row : RowHead A) : Type 0 where
  pub value : NumberedValue
  pub has : latest ops at ≡ Some value
  pub number : row.number ≡ value.number
  pub size : row.length ≡ length value.value
  pub next : IsNumberAfter ops at row.next

-- nothing is told of a key that has no value
abbrev pub IsHeadOf : {A : Type 0} → List ℕ → Operations → ℕ → Option (RowHead A) → Type 0
IsHeadOf key ops at None = latest ops at ≡ None
IsHeadOf key ops at (Some row) = (row.key ≡ key) × IsHead ops at row

-- ---- the walk

abbrev pub head_keys : {A : Type 0} → List (RowHead A) → List (List ℕ)
head_keys rows = map (λ row. row.key) rows

-- the first `count` keys of the interval that have a value at the number, in order, with what is
-- told of each
pub record IsWalk {A : Type 0} (ops : List ℕ → Operations) (start : List ℕ) (after : Bool)
    (to : List ℕ) (at count : ℕ) (rows : List (RowHead A)) : Type 0 where
  pub keys : AreFirst ops start after to at count (head_keys rows)
  pub told : AllByRecursion (λ row. IsHead (ops row.key) at row) rows
