-- When a call of a reader or a writer counts as failed.
use Rattle.std.specs.Prelude.{◌≡◌, ℕ, ◌<◌, List, length, Result, Ok, Err, ◌⊎◌}
use Rattle.stow_bytes.specs.Limits.{number_limit}

-- the number of failures grew, or stands at its limit
abbrev pub HasFailed : ℕ → ℕ → Type 0
HasFailed old new = (old < new) ⊎ (new ≡ number_limit)

-- a call has failed where it answers so, and nowhere else
abbrev pub CountsFailure : {T E : Type 0} → Result T E → ℕ → ℕ → Type 0
CountsFailure (Ok value) old new = new ≡ old
CountsFailure (Err e) old new = HasFailed old new

-- a write has failed where it answers so, and where it takes none of some bytes
abbrev pub CountsWrite : {E : Type 0} → Result ℕ E → List ℕ → ℕ → ℕ → Type 0
CountsWrite (Ok n) bytes old new = (0 < n → new ≡ old)
    × (n ≡ 0 → 0 < length bytes → HasFailed old new)
CountsWrite (Err e) bytes old new = HasFailed old new
