-- What the plain reader finds.
use Rattle.std.specs.Prelude.{◌≡◌, ℕ, List, ◌++◌}
use Rattle.stow_model.specs.Message.{message_of}
use Rattle.stow_model.specs.Wire.{Spells, IsBegun, IsFaulty}
use Rattle.stow_model.specs.declared.message_at.MessageAt.{MessageAt}
use Rattle.stow_model.specs.declared.message_at.MessageAt.TheVariants as found
use Rattle.stow_model.specs.declared.stream_rest.StreamRest.{StreamRest}
use Rattle.stow_model.specs.declared.stream_rest.StreamRest.TheVariants as rest

-- what is at the front of the bytes
abbrev pub IsMessageAt : {A : Type 0} → List ℕ → MessageAt A → Type 0
IsMessageAt bytes (found.Message m after) = (spelling : List ℕ) × Spells (message_of m) spelling
    × (bytes ≡ spelling ++ after.now)
IsMessageAt bytes found.More = IsBegun bytes
IsMessageAt bytes (found.Faulty fault) = IsFaulty bytes fault

-- what the bytes after the last whole message are
abbrev pub IsRest : List ℕ → StreamRest → Type 0
IsRest bytes rest.Waits = IsBegun bytes
IsRest bytes (rest.Faulty fault) = IsFaulty bytes fault
