-- What stands at the front of some bytes where a number, an element of an array, or an inline line
-- is to stand.
use Rattle.std.specs.Prelude.{◌≡◌, ◌≢◌, ℕ, ◌<◌, ◌≤◌, false, Option, Some, None, List, [], ◌∷◌, ◌++◌, length, take, ◌⊎◌}
use Rattle.std.specs.Borrow.{Bor}
use Rattle.std.specs.List.{AllByRecursion}
use Rattle.std.specs.Fmt.{decimal}
use Rattle.stow_model.specs.declared.stream_fault.StreamFault.{StreamFault}
use Rattle.stow_model.specs.declared.stream_fault.StreamFault.TheVariants.{InvalidArrayLength, ExpectedBulk, InvalidBulkLength, BulkNotEnded, InlineTooLong}
use Rattle.stow_model.specs.Message.{Words}
use Rattle.stow_model.specs.Wire.{bulk_line, bulk, FitsBulk, IsInLine, begins_array, IsLine, words_of_text, text_of_line, message_of_text, IsFaulty}
use Rattle.stow_model.specs.declared.bulk_at.BulkAt.{BulkAt}
use Rattle.stow_model.specs.declared.bulk_at.BulkAt.TheVariants as element
use Rattle.stow_model.specs.declared.inline_at.InlineAt.{InlineAt}
use Rattle.stow_model.specs.declared.inline_at.InlineAt.TheVariants as inline
use Rattle.stow_model.specs.declared.number_at.NumberAt.{NumberAt}
use Rattle.stow_model.specs.declared.number_at.NumberAt.TheVariants as number

-- a number within a limit, and its line's end
abbrev pub ends : ℕ → List ℕ
ends n = decimal n ++ 13 ∷ 10 ∷ []

-- the bytes begin such a number, and aren't all of it
abbrev pub IsBegunNumber : ℕ → List ℕ → Type 0
IsBegunNumber limit bytes = (n : ℕ) × (next : ℕ) × (more : List ℕ) × (n ≤ limit)
    × (bytes ++ next ∷ more ≡ ends n)

-- no such number begins with the bytes, nor do the bytes begin with one
abbrev pub IsNoNumber : ℕ → List ℕ → Type 0
IsNoNumber limit bytes = (n : ℕ) (more y : List ℕ) → n ≤ limit → bytes ++ more ≡ ends n ++ y → ⊥

-- up to a byte they begin a number, and with it they don't
pub record IsStuckNumber (limit : ℕ) (bytes : List ℕ) : Type 0 where
  pub front : List ℕ
  pub byte : ℕ
  pub more : List ℕ
  pub at : bytes ≡ front ++ byte ∷ more
  pub in_line : AllByRecursion (λ b. b ≢ 10) front
  pub begun : IsBegunNumber limit front
  pub stuck : IsNoNumber limit (front ++ byte ∷ [])

abbrev pub IsNumberAt : ℕ → List ℕ → NumberAt → Type 0
IsNumberAt limit bytes (number.Number n rest) = (n ≤ limit) × (bytes ≡ ends n ++ rest.now)
IsNumberAt limit bytes number.More = IsBegunNumber limit bytes
IsNumberAt limit bytes number.Stuck = IsStuckNumber limit bytes

-- the digits of a number within the limit, or none yet
unfoldable pub IsSoFar : ℕ → List ℕ → ℕ → Type 0
IsSoFar limit front value = ((front ≡ []) × (value ≡ 0))
    ⊎ ((front ≡ decimal value) × (value ≤ limit))

-- ---- words

abbrev pub IsBegunBulk : List ℕ → Type 0
IsBegunBulk bytes = (word : List ℕ) × (next : ℕ) × (more : List ℕ) × FitsBulk word
    × (bytes ++ next ∷ more ≡ bulk word)

abbrev pub IsNoBulk : List ℕ → Type 0
IsNoBulk bytes = (word more y : List ℕ) → FitsBulk word → bytes ++ more ≡ bulk word ++ y → ⊥

-- where the byte after the front of an element stands
abbrev pub IsBulkPlace : List ℕ → StreamFault → Type 0
IsBulkPlace front InvalidArrayLength = ⊥
IsBulkPlace front InlineTooLong = ⊥
IsBulkPlace front ExpectedBulk = front ≡ []
IsBulkPlace front InvalidBulkLength = IsInLine 36 front
IsBulkPlace front BulkNotEnded = (word : List ℕ) × FitsBulk word
    × ((front ≡ bulk_line (length word) ++ word)
    ⊎ (front ≡ bulk_line (length word) ++ (word ++ 13 ∷ [])))

pub record IsStuckBulk (bytes : List ℕ) (fault : StreamFault) : Type 0 where
  pub front : List ℕ
  pub byte : ℕ
  pub more : List ℕ
  pub at : bytes ≡ front ++ byte ∷ more
  pub begun : IsBegunBulk front
  pub stuck : IsNoBulk (front ++ byte ∷ [])
  pub place : IsBulkPlace front fault

abbrev pub IsBulkAt : List ℕ → BulkAt → Type 0
IsBulkAt bytes (element.Bulk word rest) = FitsBulk word.now × (bytes ≡ bulk word.now ++ rest.now)
IsBulkAt bytes element.More = IsBegunBulk bytes
IsBulkAt bytes (element.Stuck fault) = IsStuckBulk bytes fault

-- ---- inline lines

-- no array begins with the bytes, and the first of them are a line so far
abbrev pub IsLooked : ℕ → List ℕ → Type 0
IsLooked looked bytes = (begins_array bytes ≡ false) × (looked ≤ length bytes)
    × IsLine (take looked bytes)

abbrev pub IsInlineAt : List ℕ → InlineAt → Type 0
IsInlineAt bytes (inline.Line line rest) = IsLine line.now × (bytes ≡ line.now ++ 10 ∷ rest.now)
IsInlineAt bytes inline.More = IsLine bytes
IsInlineAt bytes inline.TooLong = IsFaulty bytes InlineTooLong

-- the first word of a text, and a rest that has the others
abbrev pub IsNextWord : List ℕ → Option (Bor (List ℕ) × Bor (List ℕ)) → Type 0
IsNextWord text None = words_of_text text ≡ []
IsNextWord text (Some (word, rest)) = (words_of_text text ≡ word.now ∷ words_of_text rest.now)
    × (length rest.now < length text)

-- the line asks for words
abbrev pub AsksForWords : List ℕ → Type 0
AsksForWords line = (words : List (List ℕ)) × (message_of_text (text_of_line line) ≡ Words words)
