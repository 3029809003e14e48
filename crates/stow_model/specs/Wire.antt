-- How requests are spelled in the bytes of a stream (RESP protocol specification, "Sending commands
-- to a Redis server"): by cases on what is spelled.
use Rattle.std.specs.Prelude.{◌≡◌, ◌≢◌, ℕ, ◌<◌, ◌≤◌, Bool, false, if◌then◌else◌, ◌==◌, ◌||◌, nat_lt, List, [], ◌∷◌, ◌++◌, length, reverse, filter, ◌⊎◌, codes}
use Rattle.std.specs.List.{AllByRecursion, list_any, slice_split}
use Rattle.std.specs.Fmt.{decimal}
use Rattle.stow_bytes.specs.Limits.{words_limit, line_limit, value_limit}
use Rattle.stow_model.specs.Message.{Message, Words, Quoted, Blank}
use Rattle.stow_model.specs.declared.stream_fault.StreamFault.{StreamFault}
use Rattle.stow_model.specs.declared.stream_fault.StreamFault.TheVariants.{InvalidArrayLength, ExpectedBulk, InvalidBulkLength, BulkNotEnded, InlineTooLong}

-- ---- spellings

-- a line with a count or a length: what it counts, the number in decimal, CR, LF
abbrev pub number_line : ℕ → ℕ → List ℕ
number_line sign n = sign ∷ decimal n ++ 13 ∷ 10 ∷ []

-- `*n`, and `$n`
abbrev pub array_line : ℕ → List ℕ
array_line n = number_line 42 n

abbrev pub bulk_line : ℕ → List ℕ
bulk_line n = number_line 36 n

-- a word: its length, its bytes, CR, LF
abbrev pub bulk : List ℕ → List ℕ
bulk word = bulk_line (length word) ++ (word ++ 13 ∷ 10 ∷ [])

abbrev pub bulks : List (List ℕ) → List ℕ
bulks [] = []
bulks (word ∷ words) = bulk word ++ bulks words

abbrev pub FitsBulk : List ℕ → Type 0
FitsBulk word = length word ≤ value_limit

-- the other line of an array of no words, beside `*0`
abbrev pub null_line : List ℕ
null_line = codes "*-1\r\n"

-- a message in array form
abbrev pub IsArray : Message → List ℕ → Type 0
IsArray (Words words) bytes = (0 < length words) × (length words ≤ words_limit)
    × AllByRecursion FitsBulk words × (bytes ≡ array_line (length words) ++ bulks words)
IsArray Quoted bytes = ⊥
IsArray Blank bytes = (bytes ≡ array_line 0) ⊎ (bytes ≡ null_line)

-- ---- inline requests (RESP protocol specification, "Inline commands"), without quoting

-- a space or a tab
abbrev pub is_space : ℕ → Bool
is_space b = (b == 32) || (b == 9)

-- a quotation mark, double or single
abbrev pub is_quote : ℕ → Bool
is_quote b = (b == 34) || (b == 39)

-- the words of a text: what stands between its spaces and tabs, where that isn't empty
abbrev pub words_of_text : List ℕ → List (List ℕ)
words_of_text text = filter (λ part. nat_lt 0 (length part)) (slice_split is_space text)

-- the message of words, of which there may be none
abbrev pub message_of_words : List (List ℕ) → Message
message_of_words [] = Blank
message_of_words (word ∷ words) = Words (word ∷ words)

-- what a line's text asks for
abbrev pub message_of_text : List ℕ → Message
message_of_text text =
    if list_any is_quote text then Quoted else message_of_words (words_of_text text)

-- the text of a line: all of it but one CR at its end
abbrev pub text_of_line : List ℕ → List ℕ
text_of_line [] = []
text_of_line (b ∷ []) = if b == 13 then [] else b ∷ []
text_of_line (b ∷ next ∷ line) = b ∷ text_of_line (next ∷ line)

-- the first byte is `*`
abbrev pub begins_array : List ℕ → Bool
begins_array [] = false
begins_array (b ∷ _) = b == 42

-- an inline request's line, before its LF
abbrev pub IsLine : List ℕ → Type 0
IsLine line = AllByRecursion (λ b. b ≢ 10) line × (length line ≤ line_limit)
    × (begins_array line ≡ false)

-- a message in inline form
abbrev pub IsInline : Message → List ℕ → Type 0
IsInline m bytes = (line : List ℕ) × IsLine line × (bytes ≡ line ++ 10 ∷ [])
    × (m ≡ message_of_text (text_of_line line))

-- ---- all requests

-- the bytes spell the message
unfoldable pub Spells : Message → List ℕ → Type 0
Spells m bytes = IsArray m bytes ⊎ IsInline m bytes

-- the bytes spell the messages, told newest first, one after another
abbrev pub SpellsAll : List Message → List ℕ → Type 0
SpellsAll [] bytes = bytes ≡ []
SpellsAll (newest ∷ earlier) bytes = (front : List ℕ) × (last : List ℕ) × SpellsAll earlier front
    × Spells newest last × (bytes ≡ front ++ last)

-- ---- streams

-- no front of the bytes spells a message
abbrev pub HasNoMessage : List ℕ → Type 0
HasNoMessage bytes = (m : Message) (spelling more : List ℕ) → Spells m spelling
    → bytes ≡ spelling ++ more → ⊥

-- the bytes begin a spelling, and aren't all of it
abbrev pub IsBegun : List ℕ → Type 0
IsBegun bytes = (m : Message) × (next : ℕ) × (more : List ℕ) × Spells m (bytes ++ next ∷ more)

-- the stream is these messages, oldest first, and then a rest that begins with none
abbrev pub Splits : List ℕ → List Message → List ℕ → Type 0
Splits stream [] rest = (stream ≡ rest) × HasNoMessage rest
Splits stream (first ∷ later) rest = (spelling : List ℕ) × (after : List ℕ) × Spells first spelling
    × (stream ≡ spelling ++ after) × Splits after later rest

-- ---- faults

-- some bytes of a line that has no LF yet
abbrev pub IsInLine : ℕ → List ℕ → Type 0
IsInLine sign bytes = (part : List ℕ) × AllByRecursion (λ b. b ≢ 10) part × (bytes ≡ sign ∷ part)

-- the line of an array, fewer whole elements than it says, and then the rest
abbrev pub IsInArray : List ℕ → List ℕ → Type 0
IsInArray bytes rest = (n : ℕ) × (n ≤ words_limit) × (words : List (List ℕ)) × (length words < n)
    × AllByRecursion FitsBulk words × (bytes ≡ array_line n ++ (bulks words ++ rest))

-- where the byte after these bytes stands, if they begin a spelling, and what is wrong if it can't
-- follow
unfoldable pub IsPlace : List ℕ → StreamFault → Type 0
-- in the array's line
IsPlace bytes InvalidArrayLength = IsInLine 42 bytes
-- first of an element
IsPlace bytes ExpectedBulk = IsInArray bytes []
-- in an element's line
IsPlace bytes InvalidBulkLength = (part : List ℕ) × IsInLine 36 part × IsInArray bytes part
-- one of the two bytes after an element's own
IsPlace bytes BulkNotEnded = (word : List ℕ) × FitsBulk word
    × (IsInArray bytes (bulk_line (length word) ++ word)
    ⊎ IsInArray bytes (bulk_line (length word) ++ (word ++ 13 ∷ [])))
-- in an inline request's line, which is as long as it may be
IsPlace bytes InlineTooLong = IsLine bytes × (length bytes ≡ line_limit)

-- the bytes can become no message: up to a byte they begin one, and with that byte they don't
pub record IsFaulty (bytes : List ℕ) (fault : StreamFault) : Type 0 where
  pub none : HasNoMessage bytes
  pub front : List ℕ
  pub byte : ℕ
  pub more : List ℕ
  pub at : bytes ≡ front ++ byte ∷ more
  pub begun : IsBegun front
  pub stuck : IsBegun (front ++ byte ∷ []) → ⊥
  pub place : IsPlace front fault

-- ---- laws

-- no spelling begins another
abbrev pub SpelledOnce : Type 0
SpelledOnce = (m m' : Message) (a b x y : List ℕ) → Spells m a → Spells m' b → a ++ x ≡ b ++ y
    → (m ≡ m') × (a ≡ b)

-- a stream has one split
abbrev pub SplitsOnce : Type 0
SplitsOnce = (stream : List ℕ) (messages messages' : List Message) (rest rest' : List ℕ)
    → Splits stream messages rest → Splits stream messages' rest'
    → (messages ≡ messages') × (rest ≡ rest')

-- the messages that were taken are the first of the split
abbrev pub TakenAreFirst : Type 0
TakenAreFirst = (taken messages : List Message) (front more rest : List ℕ) → SpellsAll taken front
    → Splits (front ++ more) messages rest
    → (later : List Message) × Splits more later rest × (messages ≡ reverse taken ++ later)

-- a fault stays, whatever comes
abbrev pub FaultStays : Type 0
FaultStays = (bytes more : List ℕ) (fault : StreamFault) → IsFaulty bytes fault
    → IsFaulty (bytes ++ more) fault

-- there is one fault
abbrev pub FaultOnce : Type 0
FaultOnce = (bytes : List ℕ) (fault fault' : StreamFault) → IsFaulty bytes fault
    → IsFaulty bytes fault' → fault ≡ fault'

-- what is faulty is never waited for
abbrev pub FaultyNotBegun : Type 0
FaultyNotBegun = (bytes : List ℕ) (fault : StreamFault) → IsFaulty bytes fault → IsBegun bytes → ⊥
