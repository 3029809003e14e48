-- The first keys of an interval that have a value.
use Rattle.std.specs.Prelude.{◌≡◌, ◌⊎◌, ℕ, ◌≤◌, List, length, map, true, Contains, Some, IsSome}
use Rattle.std.specs.Ordering.{is_lt}
use Rattle.std.specs.List.{AllByRecursion}
use Rattle.std.specs.List.Sorted.{IsStrictlySortedBy}
use Rattle.stow_bytes.specs.Bytes.{bytes_cmp}
use Rattle.stow_node.specs.StowLeaf.Intervals.{spans}
use Rattle.stow_tree_model.specs.Operations.{Operations, latest, value_in}
use Rattle.stow_read.specs.Found.{found_value}
use Rattle.stow_read.specs.declared.row.Row as coded

-- a key with its value
abbrev pub KeyValue : Type 0
KeyValue = List ℕ × List ℕ

abbrev pub key_value : {A : Type 0} → coded.Row A → KeyValue
key_value row = (row.key.bytes.now, (found_value row.value).value)

-- all these rows are of keys below this one
abbrev pub AreUnder : List KeyValue → List ℕ → Type 0
AreUnder rows key = AllByRecursion (λ row. is_lt (bytes_cmp row.0 key) ≡ true) rows

-- the first `count` keys of the interval that have a value at the number, in order, with it
pub record IsRange (ops : List ℕ → Operations) (from to : List ℕ) (at count : ℕ)
    (rows : List KeyValue) : Type 0 where
  pub rise : IsStrictlySortedBy bytes_cmp (map (λ row. row.0) rows)
  pub inside : AllByRecursion (λ row. spans from to row.0 ≡ true) rows
  pub values : AllByRecursion (λ row. value_in (latest (ops row.0) at) ≡ Some row.1) rows
  pub few : length rows ≤ count
  pub all : (key : List ℕ) → spans from to key ≡ true → IsSome (latest (ops key) at)
      → Contains (map (λ row. row.0) rows) key ⊎ ((length rows ≡ count) × AreUnder rows key)
