-- Bytes that are read as numbers.
use Rattle.std.specs.Prelude.{◌≡◌, ℕ, ◌<◌, ◌≤◌, List, length, take, slice_index}

-- each number is below 256
abbrev pub AreBytes : List ℕ → Type 0
AreBytes bytes = (i : ℕ) → slice_index bytes i < 256

-- so many bytes at the front of both are the same
pub record AreAlike (n : ℕ) (us vs : List ℕ) : Type 0 where
  pub within : (n ≤ length us) × (n ≤ length vs)
  pub same : take n us ≡ take n vs
