-- Where a merged leaf is cut into pages: between keys, each of which has a size.
use Rattle.std.specs.Prelude.{◌≡◌, ◌⊎◌, ℕ, ◌+◌, ◌<◌, ◌≤◌, List, [], ◌∷◌, take, drop, sum}

-- the bytes of the keys from one of them to before another
abbrev pub size_between : List ℕ → ℕ → ℕ → ℕ
size_between sizes from to = sum (drop from (take to sizes))

-- a page has a key at least, and one alone where it is above the room
pub record IsPage (sizes : List ℕ) (room from to : ℕ) : Type 0 where
  pub is_filled : from < to
  pub fits : (size_between sizes from to ≤ room) ⊎ (to ≡ from + 1)

-- pages from one key to before another, each beginning where the one before ends
abbrev pub ArePages : List ℕ → ℕ → ℕ → List ℕ → ℕ → Type 0
ArePages sizes room from [] to = from ≡ to
ArePages sizes room from (next ∷ ends) to = IsPage sizes room from next
    × ArePages sizes room next ends to
