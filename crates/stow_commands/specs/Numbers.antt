-- Numbers by their digits.
use Rattle.std.specs.Prelude.{◌≡◌, ℕ, ◌<◌, ◌^◌, Option, Some, None, List}
use Rattle.std.specs.Fmt.{decimal}

-- the number of up to 19 digits whose decimal text this is, or that it is none's
abbrev pub IsMagnitude : List ℕ → Option ℕ → Type 0
IsMagnitude text (Some n) = (n < 10 ^ 19) × (decimal n ≡ text)
IsMagnitude text None = (n : ℕ) → n < 10 ^ 19 → decimal n ≡ text → ⊥
