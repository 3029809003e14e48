-- A script: lines that ask for events, for the shape of the tree, or for what a tenant uses. This
-- product's own grammar, over the tenants of the service.
use Rattle.std.specs.Prelude.{◌≡◌, ◌≢◌, ℕ, ◌+◌, ◌≤◌, ◌==◌, List, [], ◌∷◌, ◌++◌, Some, length, codes, ◌⊎◌}
use Rattle.std.specs.List.{All, slice_split}
use Rattle.std.specs.Fmt.{decimal}
use Rattle.stow_commands.specs.StowBytes.Limits.{cache_limit, number_limit}
use Rattle.stow_login.specs.Entries.{index_named}
use Rattle.stow_commands.specs.StowModel.Login.{Entry}
use Rattle.stow_commands.specs.StowModel.Event.{Event, event_of, On, By, SetQuota, Open, Piece, Serve, Close, Plan, Merge, Install, Resize}
use Rattle.stow_script.specs.declared.script_line.ScriptLine as coded
use Rattle.stow_script.specs.declared.script_line.ScriptLine.TheVariants as in_code
use Rattle.stow_script.specs.Text.{StandsFor}

-- what a line asks for
pub data Line : Type 0 where
  -- an event of the house
  Asks : Event → Line
  -- how large the tree is
  Shape : Line
  -- what the tenant of this index uses
  Usage : ℕ → Line

-- what the code's type stands for, whatever allocator it has its memory from
abbrev pub line_of : {A : Type 0} → coded.ScriptLine A → Line
line_of (in_code.Event e) = Asks (event_of e)
line_of in_code.Shape = Shape
line_of (in_code.Usage tenant) = Usage tenant

-- the word that begins an event's line
abbrev pub word_of : Event → List ℕ
word_of (On c Open) = codes "open"
word_of (On c (Piece bytes)) = codes "piece"
word_of (On c Serve) = codes "serve"
word_of (On c Close) = codes "close"
word_of (By (Plan f)) = codes "plan"
word_of (By (Merge f)) = codes "merge"
word_of (By (Install f)) = codes "install"
word_of (By (Resize n)) = codes "resize"
word_of (SetQuota tenant quota) = codes "quota"

-- the number within these limits whose decimal text this is: no sign, no leading zero
abbrev pub IsNumberText : ℕ → ℕ → List ℕ → ℕ → Type 0
IsNumberText low high text n = (low ≤ n) × (n ≤ high) × (text ≡ decimal n)

abbrev pub IsConnection : List ℕ → ℕ → Type 0
IsConnection text c = IsNumberText 1 65535 text c

abbrev pub IsFlusher : List ℕ → ℕ → Type 0
IsFlusher text f = IsNumberText 1 64 text f

-- fields are separated by a space, and have none
abbrev pub IsField : List ℕ → Type 0
IsField text = All (λ b. b ≢ 32) text

-- the name of a tenant, by its index
abbrev pub IsName : List Entry → List ℕ → ℕ → Type 0
IsName entries text tenant = IsField text × (index_named entries text ≡ Some tenant)

-- what stands behind the word and a space
abbrev pub IsArgument : List Entry → List ℕ → Event → Type 0
IsArgument entries text (On c Open) = IsConnection text c
IsArgument entries text (On c (Piece bytes)) = (number : List ℕ) × (rest : List ℕ)
    × (text ≡ number ++ 32 ∷ rest) × IsConnection number c × StandsFor rest bytes
IsArgument entries text (On c Serve) = IsConnection text c
IsArgument entries text (On c Close) = IsConnection text c
IsArgument entries text (By (Plan f)) = IsFlusher text f
IsArgument entries text (By (Merge f)) = IsFlusher text f
IsArgument entries text (By (Install f)) = IsFlusher text f
IsArgument entries text (By (Resize n)) = IsNumberText 0 cache_limit text n
IsArgument entries text (SetQuota tenant quota) = (name : List ℕ) × (number : List ℕ)
    × (text ≡ name ++ 32 ∷ number) × IsName entries name tenant
    × IsNumberText 0 number_limit number quota

-- the line asks for the event
abbrev pub AsksForEvent : List Entry → List ℕ → Event → Type 0
AsksForEvent entries line e = (text : List ℕ) × (line ≡ word_of e ++ 32 ∷ text)
    × IsArgument entries text e

-- the line asks for this
abbrev pub AsksFor : List Entry → List ℕ → Line → Type 0
AsksFor entries line (Asks e) = AsksForEvent entries line e
AsksFor entries line Shape = line ≡ codes "shape"
AsksFor entries line (Usage tenant) = (name : List ℕ) × (line ≡ codes "usage" ++ 32 ∷ name)
    × IsName entries name tenant

-- an empty line, or a comment, which begins with `#`
abbrev pub IsSkipped : List ℕ → Type 0
IsSkipped [] = Unit {0}
IsSkipped (first ∷ rest) = first ≡ 35

-- neither
abbrev pub IsBad : List Entry → List ℕ → Type 0
IsBad entries line = ¬ IsSkipped line × ((asked : Line) → ¬ AsksFor entries line asked)

-- the lines of a script; behind the last LF there is one that is empty, or the last one, which
-- lacks its LF
abbrev pub lines_of : List ℕ → List (List ℕ)
lines_of text = slice_split (λ b. b == 10) text

-- these lines ask for this, in order
abbrev pub AskFor : List Entry → List (List ℕ) → List Line → Type 0
AskFor entries [] asked = asked ≡ []
AskFor entries (line ∷ lines) asked = (IsSkipped line × AskFor entries lines asked)
    ⊎ ((first : Line) × (later : List Line) × (asked ≡ first ∷ later)
    × AsksFor entries line first × AskFor entries lines later)

-- the first bad line, by its number, counted from 1
pub record IsFirstBad (entries : List Entry) (lines : List (List ℕ)) (number : ℕ) : Type 0 where
  pub front : List (List ℕ)
  pub line : List ℕ
  pub back : List (List ℕ)
  pub at : lines ≡ front ++ line ∷ back
  pub number_is : number ≡ length front + 1
  pub bad : IsBad entries line
  pub asked : List Line
  pub good : AskFor entries front asked
