-- The next key of an interval that has messages.
use Rattle.std.specs.Prelude.{◌≡◌, ℕ, ◌<◌, drop, List, Bool, true, false, not, Option, Some, None, IsSome}
use Rattle.std.specs.Ordering.{is_lt}
use Rattle.stow_bytes.specs.Bytes.{bytes_cmp}
use Rattle.stow_node.specs.StowLeaf.Intervals.{top_key}
use Rattle.stow_node.specs.Parts.{Part, low_or}
use Rattle.stow_tree_model.specs.Operations.{Operations}

-- the key stands after the lower end, or is the lower end where that counts
abbrev pub is_from : List ℕ → Bool → List ℕ → Bool
is_from start true key = is_lt (bytes_cmp start key)
is_from start false key = not (is_lt (bytes_cmp key start))

-- the number that messages and rows of the keys from the start on are above
abbrev pub passed_number : Bool → ℕ
passed_number true = 18446744073709551615
passed_number false = 0

-- no key in the interval has an operation
abbrev pub HaveNone : (List ℕ → Operations) → List ℕ → Bool → List ℕ → Type 0
HaveNone ops start after to = (key : List ℕ) → is_from start after key ≡ true
    → is_lt (bytes_cmp key to) ≡ true → (n : ℕ) → ops key n ≡ None

-- the key is the lowest of the interval that has an operation
pub record IsLowest (ops : List ℕ → Operations) (start : List ℕ) (after : Bool)
    (to key : List ℕ) : Type 0 where
  pub from : is_from start after key ≡ true
  pub below : is_lt (bytes_cmp key to) ≡ true
  pub number : ℕ
  pub there : IsSome (ops key number)
  pub none : HaveNone ops start after key

abbrev pub IsNextKey : (List ℕ → Operations) → List ℕ → Bool → List ℕ → Option (List ℕ) → Type 0
IsNextKey ops start after to None = HaveNone ops start after to
IsNextKey ops start after to (Some key) = IsLowest ops start after to key

-- ---- the search below a node

-- where the keys of the part at the place begin, or the row's end
abbrev pub fence_at : List Part → ℕ → List ℕ
fence_at ps i = low_or top_key (drop i ps)

-- what a part is searched from: the start in the first one, and its fence in each other
pub record IsFromPart (ps : List Part) (start : List ℕ) (after : Bool) (first i : ℕ)
    (key : List ℕ) (own : Bool) : Type 0 where
  pub first_is : i ≡ first → (key ≡ start) × (own ≡ after)
  pub later_is : first < i → (key ≡ fence_at ps i) × (own ≡ false)

-- where the search below a node ends: at its own next key, or where the interval does
abbrev pub IsSearchEnd : List ℕ → Option (List ℕ) → List ℕ → Type 0
IsSearchEnd to None end = end ≡ to
IsSearchEnd to (Some key) end = end ≡ key
