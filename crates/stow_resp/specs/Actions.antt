-- What is done with an input, one thing after another.
use Rattle.std.specs.Prelude.{◌≡◌, ℕ, List, [], ◌∷◌, ◌++◌, ◌⊎◌}
use Rattle.stow_model.specs.Message.{Message}
use Rattle.stow_model.specs.Wire.{IsBegun, IsFaulty}
use Rattle.stow_model.specs.declared.stream_fault.StreamFault.{StreamFault}
use Rattle.stow_resp.specs.Next.{IsTaken}

-- a piece is fed, or a message is given
pub data Action : Type 0 where
  Fed : List ℕ → Action
  Given : Message → Action

-- the actions, told newest first, lead from an empty input to these unread bytes
abbrev pub ActionsLeadTo : List Action → List ℕ → Type 0
ActionsLeadTo [] unread = unread ≡ []
ActionsLeadTo (Fed piece ∷ earlier) unread = (before : List ℕ) × ActionsLeadTo earlier before
    × (unread ≡ before ++ piece)
ActionsLeadTo (Given message ∷ earlier) unread = (before : List ℕ) × ActionsLeadTo earlier before
    × IsTaken message before unread

-- all bytes that were fed
abbrev pub fed : List Action → List ℕ
fed [] = []
fed (Fed piece ∷ earlier) = fed earlier ++ piece
fed (Given message ∷ earlier) = fed earlier

-- all messages that were given, newest first
abbrev pub given : List Action → List Message
given [] = []
given (Fed piece ∷ earlier) = given earlier
given (Given message ∷ earlier) = message ∷ given earlier

-- no message is next: more is waited for, or there is a fault
abbrev pub IsAtRest : List ℕ → Type 0
IsAtRest unread = IsBegun unread ⊎ ((fault : StreamFault) × IsFaulty unread fault)

-- the same bytes give the same messages and leave the same bytes, in whatever pieces they come
abbrev pub CutsDoNotMatter : Type 0
CutsDoNotMatter = (a b : List Action) (unread unread' : List ℕ) → ActionsLeadTo a unread
    → ActionsLeadTo b unread' → fed a ≡ fed b → IsAtRest unread → IsAtRest unread'
    → (given a ≡ given b) × (unread ≡ unread')
