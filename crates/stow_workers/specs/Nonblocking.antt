-- Reads and writes that don't wait.
use Rattle.std.specs.Prelude.{◌≡◌, ℕ, ◌<◌, ◌≤◌, List, length, take, Option, Some, None, Result, Ok, Err}
use Rattle.std.specs.Io.KnownBytes.{Appends, Consumes, Keeps, IsAtEnd}
use Rattle.stow_workers.specs.Failures.{HasFailed}

-- no more than there is room for
abbrev pub TryReadsAtMost : {E : Type 0} → Result (Option ℕ) E → List ℕ → Type 0
TryReadsAtMost (Ok (Some n)) room = n ≤ length room
TryReadsAtMost (Ok None) room = Unit {0}
TryReadsAtMost (Err e) room = Unit {0}

-- the bytes that were read are gone, none only at the end or where there is no room; where it would
-- wait, or fails, none is
abbrev pub TryReadConsumes : {E : Type 0} → Option (List ℕ) → Option (List ℕ) → Result (Option ℕ) E
    → List ℕ → Type 0
TryReadConsumes old new (Ok (Some n)) room =
    Consumes old new (take n room) × (n ≡ 0 → 0 < length room → IsAtEnd new)
TryReadConsumes old new (Ok None) room = Keeps old new
TryReadConsumes old new (Err e) room = Keeps old new

-- no more than were given
abbrev pub TryWritesAtMost : {E : Type 0} → Result (Option ℕ) E → List ℕ → Type 0
TryWritesAtMost (Ok (Some n)) bytes = n ≤ length bytes
TryWritesAtMost (Ok None) bytes = Unit {0}
TryWritesAtMost (Err e) bytes = Unit {0}

-- so many of the bytes were written; where it would wait, or fails, none was
abbrev pub TryWriteAppends : {E : Type 0} → Option (List ℕ) → Option (List ℕ) → Result (Option ℕ) E
    → List ℕ → Type 0
TryWriteAppends old new (Ok (Some n)) bytes = Appends old new (take n bytes)
TryWriteAppends old new (Ok None) bytes = Keeps old new
TryWriteAppends old new (Err e) bytes = Keeps old new

-- a write has failed where it answers so, and where it takes none of some bytes
abbrev pub CountsTryWrite : {E : Type 0} → Result (Option ℕ) E → List ℕ → ℕ → ℕ → Type 0
CountsTryWrite (Ok (Some n)) bytes old new = (0 < n → new ≡ old)
    × (n ≡ 0 → 0 < length bytes → HasFailed old new)
CountsTryWrite (Ok None) bytes old new = new ≡ old
CountsTryWrite (Err e) bytes old new = HasFailed old new
