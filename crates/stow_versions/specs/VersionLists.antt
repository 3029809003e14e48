-- The lists in which one tenant's versions stand.
use Rattle.std.specs.Prelude.{◌≡◌, ℕ, ◌+◌, ◌-◌, ◌<◌, ◌≤◌, ◌==◌, List, length, All, IsTrue, vec_len}
use Rattle.std.specs.List.{zip, list_any, AllPairs}
use Rattle.std.specs.List.Sorted.{IsStrictlyIncreasing}
use Rattle.std.specs.Ordering.{nat_cmp}
use Rattle.std.specs.FinMap.{FinMap, is_sorted}
use Rattle.std.specs.FinMap as map
use Rattle.std.specs.Vec.{vec_capacity}
use Rattle.std.specs.declared.vec.Vec.{Vec}
use Rattle.stow_bytes.specs.Limits.{number_limit, snapshot_limit}

-- each id with its number
abbrev pub snapshots_of : List ℕ → List ℕ → FinMap nat_cmp ℕ
snapshots_of ids numbers = map.from_sorted (zip ids numbers)

-- how many more items need no memory
abbrev pub room_of : {A : Type 0} → Vec ℕ A → ℕ
room_of v = vec_capacity v - vec_len v

-- what the pins are: the numbers, each once, rising
pub record ArePins (pins numbers : List ℕ) : Type 0 where
  pub rise : IsStrictlyIncreasing pins
  pub same_members : (n : ℕ) → list_any (λ p. p == n) pins ≡ list_any (λ m. m == n) numbers

-- what the type keeps of its lists
pub record AreVersionLists (last next : ℕ) (ids numbers pins : List ℕ) : Type 0 where
  pub each : length numbers ≡ length ids
  pub few : length ids ≤ snapshot_limit
  pub ids_rise : IsTrue (is_sorted nat_cmp (zip ids numbers))
  pub ids_below : All (λ id. id < next) ids
  pub ids_within : next ≤ number_limit + 1
  pub numbers_rise : AllPairs (λ earlier later. earlier ≤ later) numbers
  pub numbers_below : All (λ number. number ≤ last) numbers
  pub numbers_within : last ≤ number_limit
  pub pins_are : ArePins pins numbers
