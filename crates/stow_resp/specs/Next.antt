-- What comes next on a stream.
use Rattle.std.specs.Prelude.{◌≡◌, ℕ, List, ◌++◌}
use Rattle.stow_model.specs.Message.{Message, Words, Quoted, Blank}
use Rattle.stow_model.specs.Wire.{Spells, IsBegun, IsFaulty}
use Rattle.stow_resp.specs.declared.next.Next.{Next}
use Rattle.stow_resp.specs.declared.next.Next.TheVariants as next

-- a spelling of the message is taken off the front
abbrev pub IsTaken : Message → List ℕ → List ℕ → Type 0
IsTaken message old new = (spelling : List ℕ) × Spells message spelling × (old ≡ spelling ++ new)

-- the words of a message stand at the front
abbrev pub HasWords : List ℕ → Type 0
HasWords bytes = (words : List (List ℕ)) × (rest : List ℕ) × IsTaken (Words words) bytes rest

-- what is next in the unread bytes, and what stays unread
abbrev pub IsNext : {A : Type 0} → Next A → List ℕ → List ℕ → Type 0
IsNext (next.Message words) old new = IsTaken (Words words) old new
IsNext next.Quoted old new = IsTaken Quoted old new
IsNext next.Blank old new = IsTaken Blank old new
IsNext next.More old new = IsBegun old × (new ≡ old)
IsNext (next.Fault fault) old new = IsFaulty old fault × (new ≡ old)
IsNext next.NoMemory old new = HasWords old × (new ≡ old)
