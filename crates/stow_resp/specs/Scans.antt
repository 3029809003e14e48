-- What the parts of the reader find at the front of some bytes.
use Rattle.std.specs.Prelude.{◌≡◌, ℕ, ◌<◌, ◌≤◌, false, List, [], ◌++◌, length, take, drop, ⊤}
use Rattle.std.specs.List.{AllByRecursion}
use Rattle.stow_model.specs.StowBytes.Limits.{words_limit}
use Rattle.stow_model.specs.Message.{Blank, Words}
use Rattle.stow_model.specs.Spans.{words_at, AreInside}
use Rattle.stow_model.specs.Wire.{array_line, bulks, FitsBulk, begins_array, Spells, IsBegun, IsFaulty}
use Rattle.stow_model.specs.Parts.{IsLooked}
use Rattle.stow_model.specs.declared.stream_fault.StreamFault.TheVariants.{InvalidArrayLength}
use Rattle.stow_resp.specs.declared.known.Known.{Known}
use Rattle.stow_resp.specs.declared.known.Known.TheVariants as known
use Rattle.stow_resp.specs.declared.line.LineAt.{LineAt}
use Rattle.stow_resp.specs.declared.line.LineAt.TheVariants as line
use Rattle.stow_resp.specs.declared.progress.Progress.{Progress}
use Rattle.stow_resp.specs.declared.progress.Scan.{Scan}
use Rattle.stow_resp.specs.declared.progress.Scan.TheVariants as scan
use Rattle.stow_resp.specs.Next.{IsTaken}

-- the first line of an array, and what comes after it
abbrev pub IsLineAt : List ℕ → LineAt → Type 0
IsLineAt bytes (line.Array count rest) = (0 < count) × (count ≤ words_limit)
    × (bytes ≡ array_line count ++ rest.now)
IsLineAt bytes (line.Blank rest) = (spelling : List ℕ) × Spells Blank spelling
    × (bytes ≡ spelling ++ rest.now)
IsLineAt bytes line.Inline = (0 < length bytes) × (begins_array bytes ≡ false)
IsLineAt bytes line.More = IsBegun bytes
IsLineAt bytes line.Stuck = IsFaulty bytes InvalidArrayLength

-- an array's line and so many whole elements stand at the front of the bytes, and take so many of
-- them; the first of the words stand at the spans
pub record IsProgress {A : Type 0} (p : Progress A) (bytes : List ℕ) : Type 0 where
  pub words : List (List ℕ)
  pub rest : List ℕ
  pub some : 0 < p.count
  pub few : p.count ≤ words_limit
  pub among : p.found ≤ p.count
  pub number : length words ≡ p.found
  pub fits : AllByRecursion FitsBulk words
  pub at : bytes ≡ array_line p.count ++ (bulks words ++ rest)
  pub line_len : p.line ≡ length (array_line p.count)
  pub scanned_len : p.scanned ≡ length (array_line p.count ++ bulks words)
  pub kept : length p.spans.items ≤ p.found
  pub inside : AreInside (array_line p.count ++ bulks words) p.spans.items
  pub spanned : words_at (array_line p.count ++ bulks words) p.spans.items
      ≡ take (length p.spans.items) words

-- no element was looked for
pub record IsStart {A : Type 0} (count line : ℕ) (p : Progress A) : Type 0 where
  pub same_count : p.count ≡ count
  pub same_line : p.line ≡ line
  pub none_found : p.found ≡ 0
  pub only_line : p.scanned ≡ line
  pub none_kept : p.spans.items ≡ []

-- all elements were found, and the spans of all words are kept
abbrev pub HasAllSpans : {A : Type 0} → Progress A → Type 0
HasAllSpans p = (p.found ≡ p.count) × (length p.spans.items ≡ p.count)

-- the array is a message that stands at the front, and a block has its words at the spans
abbrev pub IsFilled : {A : Type 0} → Progress A → List ℕ → List ℕ → Type 0
IsFilled p bytes block = AreInside block p.spans.items
    × IsTaken (Words (words_at block p.spans.items)) bytes (drop p.scanned bytes)

-- there are bytes with which no array begins, and the first of them are a line so far
abbrev pub IsLineBegun : ℕ → List ℕ → Type 0
IsLineBegun looked bytes = (0 < length bytes) × IsLooked looked bytes

-- what is known of the front of the bytes
abbrev pub IsKnown : {A : Type 0} → Known A → List ℕ → Type 0
IsKnown known.Nothing bytes = ⊤
IsKnown (known.Array p) bytes = IsProgress p bytes
IsKnown (known.Line looked) bytes = IsLineBegun looked bytes

-- why a scan went no further
abbrev pub IsScanned : {A : Type 0} → List ℕ → Progress A → Scan → Type 0
IsScanned bytes p scan.Whole = p.found ≡ p.count
IsScanned bytes p scan.More = IsBegun bytes
IsScanned bytes p (scan.Stuck fault) = IsFaulty bytes fault
