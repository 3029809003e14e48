-- A value that may be missing.
use Rattle.std.specs.Prelude.{ℕ, ◌≡◌, ◌≤◌, List, length, Option, Some, None}
use Rattle.std.specs.Borrow.{Bor}
use Rattle.stow_bytes.specs.Limits.{value_limit}

-- the bytes that are lent
abbrev pub bytes_at : Option (Bor (List ℕ)) → Option (List ℕ)
bytes_at None = None
bytes_at (Some value) = Some value.now

-- a missing value, or one within the limit
pub record IsValue (value : Option (List ℕ)) : Type 0 where
  pub is_short : (bytes : List ℕ) → value ≡ Some bytes → length bytes ≤ value_limit
