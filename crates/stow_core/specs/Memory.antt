-- Requests whose answers need no memory.
use Rattle.std.specs.Prelude.{◌≡◌, ℕ, List}
use Rattle.stow_model.specs.Command.{Reading, Understood, Refused, Ping, reading}

-- words that are refused by themselves, and a PING without a text
abbrev pub NeedsNone : Reading → Type 0
NeedsNone (Refused refusal) = Unit {0}
NeedsNone (Understood command) = command ≡ Ping

-- the answer to the words needs no memory, whatever the tenant's store is
abbrev pub NeedsNoMemory : List (List ℕ) → Type 0
NeedsNoMemory words = NeedsNone (reading words)
