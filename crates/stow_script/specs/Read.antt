-- What is read in a script's text.
use Rattle.std.specs.Prelude.{◌≡◌, ◌≢◌, ℕ, List, ◌∷◌, ◌++◌, Option, Some, None, Result, Ok, Err}
use Rattle.std.specs.Borrow.{Bor}
use Rattle.std.specs.List.{All}
use Rattle.stow_login.specs.Entries.{index_named}
use Rattle.stow_commands.specs.StowModel.Login.{Entry}
use Rattle.stow_commands.specs.StowModel.Event.{Event, event_of}
use Rattle.stow_commands.specs.StowModel.declared.event.Event as coded
use Rattle.stow_script.specs.declared.text.TextFault.{TextFault}
use Rattle.stow_script.specs.declared.text.TextFault.TheVariants.{Malformed, Memory}
use Rattle.stow_script.specs.Text.{StandsFor}
use Rattle.stow_script.specs.declared.script_line.ScriptLine as script_line
use Rattle.stow_script.specs.Script.{AsksFor, IsArgument, IsBad, IsName, IsNumberText, IsSkipped, line_of, word_of}

-- a front of the text is one of the byte, and the rest comes after it
abbrev pub HasFront : (List ℕ → ℕ → Type 0) → List ℕ → ℕ → List ℕ → Type 0
HasFront Is text byte rest = (front : List ℕ) × (text ≡ front ++ rest) × Is front byte

abbrev pub HasNoFront : (List ℕ → ℕ → Type 0) → List ℕ → Type 0
HasNoFront Is text = (byte : ℕ) (rest : List ℕ) → ¬ HasFront Is text byte rest

-- the byte of a front of the text, and what comes after it; none where no front is one
abbrev pub IsFront : (List ℕ → ℕ → Type 0) → List ℕ → Option (ℕ × Bor (List ℕ)) → Type 0
IsFront Is text (Some found) = HasFront Is text found.0 found.1.now
IsFront Is text None = HasNoFront Is text

-- no fault but want of memory, unless this holds
abbrev pub IsFault : Type 0 → TextFault → Type 0
IsFault malformed (Malformed at) = malformed
IsFault malformed Memory = Unit {0}

-- the text stands for no bytes
abbrev pub StandsForNone : List ℕ → Type 0
StandsForNone text = (bytes : List ℕ) → ¬ StandsFor text bytes

-- the number within these limits that the text is
abbrev pub IsNoNumberText : ℕ → ℕ → List ℕ → Type 0
IsNoNumberText low high text = (n : ℕ) → ¬ IsNumberText low high text n

abbrev pub IsNumberRead : ℕ → ℕ → List ℕ → Result ℕ TextFault → Type 0
IsNumberRead low high text (Ok n) = IsNumberText low high text n
IsNumberRead low high text (Err (Malformed at)) = IsNoNumberText low high text
IsNumberRead low high text (Err Memory) = ⊥

-- what stands before the first byte of this value, and what comes after it, if there is one
abbrev pub IsCut : ℕ → List ℕ → List ℕ → Option (Bor (List ℕ)) → Type 0
IsCut at bytes first (Some rest) = (bytes ≡ first ++ at ∷ rest.now) × All (λ b. b ≢ at) first
IsCut at bytes first None = (bytes ≡ first) × All (λ b. b ≢ at) first

-- the index of the name
abbrev pub IsIndexRead : List Entry → List ℕ → Result ℕ TextFault → Type 0
IsIndexRead entries text (Ok tenant) = index_named entries text ≡ Some tenant
IsIndexRead entries text (Err (Malformed at)) = index_named entries text ≡ None
IsIndexRead entries text (Err Memory) = ⊥

-- the text is the name of no tenant
abbrev pub IsNoName : List Entry → List ℕ → Type 0
IsNoName entries text = (tenant : ℕ) → ¬ IsName entries text tenant

-- the tenant of the name that the text is
abbrev pub IsNameRead : List Entry → List ℕ → Result ℕ TextFault → Type 0
IsNameRead entries text (Ok tenant) = IsName entries text tenant
IsNameRead entries text (Err (Malformed at)) = IsNoName entries text
IsNameRead entries text (Err Memory) = ⊥

-- the event of a word and what stands behind it
abbrev pub IsEventOf : List Entry → List ℕ → List ℕ → Event → Type 0
IsEventOf entries word rest e = (word ≡ word_of e) × IsArgument entries rest e

abbrev pub IsNoEvent : List Entry → List ℕ → List ℕ → Type 0
IsNoEvent entries word rest = (e : Event) → ¬ IsEventOf entries word rest e

abbrev pub IsEventRead : {A : Type 0} → List Entry → List ℕ → List ℕ
    → Result (coded.Event A) TextFault → Type 0
IsEventRead entries word rest (Ok e) = IsEventOf entries word rest (event_of e)
IsEventRead entries word rest (Err fault) = IsFault (IsNoEvent entries word rest) fault

-- what a line asks for, nothing for one that is skipped
abbrev pub IsLineRead : {A : Type 0} → List Entry → List ℕ
    → Result (Option (script_line.ScriptLine A)) TextFault → Type 0
IsLineRead entries line (Ok (Some asked)) = AsksFor entries line (line_of asked)
IsLineRead entries line (Ok None) = IsSkipped line
IsLineRead entries line (Err fault) = IsFault (IsBad entries line) fault
