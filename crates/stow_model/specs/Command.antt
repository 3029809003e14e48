-- What the words of a request say.
use Rattle.std.specs.Prelude.{ℕ, ℤ, pos, negsuc, Bool, List, [], ◌∷◌, length, map, Option, Some, None, if◌then◌else◌, nat_lt, codes}
use Rattle.std.specs.List.{list_any}
use Rattle.std.specs.Str.{bytes_eq}
use Rattle.std.specs.Char.{to_ascii_lowercase}
use Rattle.stow_bytes.specs.Limits.{deleted_limit, key_limit}
use Rattle.stow_model.specs.NumberText.{number_of, count_of}
use Rattle.stow_model.specs.declared.refusal.Refusal.{Refusal}
use Rattle.stow_model.specs.declared.refusal.Refusal.TheVariants as refusal

-- when a SET writes
pub data Condition : Type 0 where
  Always : Condition
  -- only where the key is missing (NX)
  IfMissing : Condition
  -- only where the key is there (XX)
  IfThere : Condition

-- a change of one row, which its present value alone decides
pub data Update : Type 0 where
  Set : List ℕ → Condition → Update
  Append : List ℕ → Update
  -- INCR, DECR, INCRBY
  Add : ℤ → Update

pub data Command : Type 0 where
  -- PING
  Ping : Command
  -- ECHO text, PING text
  Echo : List ℕ → Command
  Get : List ℕ → Command
  -- MGET
  GetMany : List (List ℕ) → Command
  Exists : List (List ℕ) → Command
  -- STRLEN
  Length : List ℕ → Command
  -- the lower end, the upper end, and how many rows at most
  Range : List ℕ → List ℕ → ℕ → Command
  Del : List (List ℕ) → Command
  -- SNAPSHOT TAKE, LIST, DROP id
  TakeSnapshot : Command
  ListSnapshots : Command
  DropSnapshot : ℤ → Command
  -- SNAPSHOT GET id key, SNAPSHOT RANGE id from to count: as GET and RANGE, in the snapshot
  GetInSnapshot : ℤ → List ℕ → Command
  RangeInSnapshot : ℤ → List ℕ → List ℕ → ℕ → Command
  -- USAGE
  ReportUsage : Command
  -- SET, APPEND, INCR, DECR, INCRBY of a key
  Change : List ℕ → Update → Command

-- what words say: a command, or the first refusal that applies
pub data Reading : Type 0 where
  Understood : Command → Reading
  Refused : Refusal → Reading

-- a name, without regard to ASCII case; the second is in lower case
abbrev pub is_named : List ℕ → List ℕ → Bool
is_named word name = bytes_eq (map to_ascii_lowercase word) name

abbrev pub is_long_key : List ℕ → Bool
is_long_key key = nat_lt key_limit (length key)

-- a command, unless one of its keys is too long
abbrev pub with_keys : List (List ℕ) → Command → Reading
with_keys keys command =
    if list_any is_long_key keys then Refused refusal.KeyTooLong else Understood command

-- ---- by the arguments

-- none
abbrev pub of_nothing : Command → List (List ℕ) → Reading
of_nothing command [] = Understood command
of_nothing command (_ ∷ _) = Refused refusal.WrongArgumentCount

-- a text, of any length
abbrev pub of_text : (List ℕ → Command) → List (List ℕ) → Reading
of_text command [] = Refused refusal.WrongArgumentCount
of_text command (text ∷ []) = Understood (command text)
of_text command (_ ∷ _ ∷ _) = Refused refusal.WrongArgumentCount

abbrev pub of_key : (List ℕ → Command) → List (List ℕ) → Reading
of_key command [] = Refused refusal.WrongArgumentCount
of_key command (key ∷ []) = with_keys (key ∷ []) (command key)
of_key command (_ ∷ _ ∷ _) = Refused refusal.WrongArgumentCount

-- one key or more
abbrev pub of_keys : (List (List ℕ) → Command) → List (List ℕ) → Reading
of_keys command [] = Refused refusal.WrongArgumentCount
of_keys command (key ∷ keys) = with_keys (key ∷ keys) (command (key ∷ keys))

abbrev pub reading_ping : List (List ℕ) → Reading
reading_ping [] = Understood Ping
reading_ping (text ∷ texts) = of_text Echo (text ∷ texts)

-- the third argument of a SET
abbrev pub condition_named : List ℕ → Option Condition
condition_named option =
    if is_named option (codes "nx") then Some IfMissing
    else if is_named option (codes "xx") then Some IfThere else None

abbrev pub reading_set_if : List ℕ → List ℕ → Option Condition → Reading
reading_set_if key value None = Refused refusal.SyntaxError
reading_set_if key value (Some condition) = with_keys (key ∷ []) (Change key (Set value condition))

abbrev pub reading_set : List (List ℕ) → Reading
reading_set [] = Refused refusal.WrongArgumentCount
reading_set (_ ∷ []) = Refused refusal.WrongArgumentCount
reading_set (key ∷ value ∷ []) = with_keys (key ∷ []) (Change key (Set value Always))
reading_set (key ∷ value ∷ option ∷ []) = reading_set_if key value (condition_named option)
reading_set (_ ∷ _ ∷ _ ∷ _ ∷ _) = Refused refusal.WrongArgumentCount

abbrev pub reading_append : List (List ℕ) → Reading
reading_append [] = Refused refusal.WrongArgumentCount
reading_append (_ ∷ []) = Refused refusal.WrongArgumentCount
reading_append (key ∷ suffix ∷ []) = with_keys (key ∷ []) (Change key (Append suffix))
reading_append (_ ∷ _ ∷ _ ∷ _) = Refused refusal.WrongArgumentCount

abbrev pub reading_add_number : List ℕ → Option ℤ → Reading
reading_add_number key None = Refused refusal.NotAnInteger
reading_add_number key (Some amount) = with_keys (key ∷ []) (Change key (Add amount))

-- INCRBY
abbrev pub reading_add : List (List ℕ) → Reading
reading_add [] = Refused refusal.WrongArgumentCount
reading_add (_ ∷ []) = Refused refusal.WrongArgumentCount
reading_add (key ∷ amount ∷ []) = reading_add_number key (number_of amount)
reading_add (_ ∷ _ ∷ _ ∷ _) = Refused refusal.WrongArgumentCount

abbrev pub reading_range_count : List ℕ → List ℕ → Option ℕ → Reading
reading_range_count from to None = Refused refusal.NotAnInteger
reading_range_count from to (Some count) = with_keys (from ∷ to ∷ []) (Range from to count)

abbrev pub reading_range : List (List ℕ) → Reading
reading_range [] = Refused refusal.WrongArgumentCount
reading_range (_ ∷ []) = Refused refusal.WrongArgumentCount
reading_range (_ ∷ _ ∷ []) = Refused refusal.WrongArgumentCount
reading_range (from ∷ to ∷ count ∷ []) = reading_range_count from to (count_of (number_of count))
reading_range (_ ∷ _ ∷ _ ∷ _ ∷ _) = Refused refusal.WrongArgumentCount

abbrev pub reading_del : List (List ℕ) → Reading
reading_del [] = Refused refusal.WrongArgumentCount
reading_del (key ∷ keys) =
    if nat_lt deleted_limit (length (key ∷ keys)) then Refused refusal.TooManyKeys
    else with_keys (key ∷ keys) (Del (key ∷ keys))

-- SNAPSHOT DROP
abbrev pub reading_drop_id : Option ℤ → Reading
reading_drop_id None = Refused refusal.NotAnInteger
reading_drop_id (Some id) = Understood (DropSnapshot id)

abbrev pub reading_drop : List (List ℕ) → Reading
reading_drop [] = Refused refusal.WrongArgumentCount
reading_drop (id ∷ []) = reading_drop_id (number_of id)
reading_drop (_ ∷ _ ∷ _) = Refused refusal.WrongArgumentCount

-- SNAPSHOT GET
abbrev pub reading_get_in_id : List ℕ → Option ℤ → Reading
reading_get_in_id key None = Refused refusal.NotAnInteger
reading_get_in_id key (Some id) = with_keys (key ∷ []) (GetInSnapshot id key)

abbrev pub reading_get_in : List (List ℕ) → Reading
reading_get_in [] = Refused refusal.WrongArgumentCount
reading_get_in (_ ∷ []) = Refused refusal.WrongArgumentCount
reading_get_in (id ∷ key ∷ []) = reading_get_in_id key (number_of id)
reading_get_in (_ ∷ _ ∷ _ ∷ _) = Refused refusal.WrongArgumentCount

-- SNAPSHOT RANGE
abbrev pub reading_range_in_numbers : List ℕ → List ℕ → Option ℤ → Option ℕ → Reading
reading_range_in_numbers from to None count = Refused refusal.NotAnInteger
reading_range_in_numbers from to (Some id) None = Refused refusal.NotAnInteger
reading_range_in_numbers from to (Some id) (Some count) =
    with_keys (from ∷ to ∷ []) (RangeInSnapshot id from to count)

abbrev pub reading_range_in : List (List ℕ) → Reading
reading_range_in [] = Refused refusal.WrongArgumentCount
reading_range_in (_ ∷ []) = Refused refusal.WrongArgumentCount
reading_range_in (_ ∷ _ ∷ []) = Refused refusal.WrongArgumentCount
reading_range_in (_ ∷ _ ∷ _ ∷ []) = Refused refusal.WrongArgumentCount
reading_range_in (id ∷ from ∷ to ∷ count ∷ []) =
    reading_range_in_numbers from to (number_of id) (count_of (number_of count))
reading_range_in (_ ∷ _ ∷ _ ∷ _ ∷ _ ∷ _) = Refused refusal.WrongArgumentCount

-- ---- by the name

-- a name, and what the arguments after it say
abbrev pub CommandEntry : Type 0
CommandEntry = List ℕ × (List (List ℕ) → Reading)

-- what the entry of the name says of the arguments, or this refusal of an unknown name
abbrev pub reading_among : List CommandEntry → Refusal → List ℕ → List (List ℕ) → Reading
reading_among [] unknown name arguments = Refused unknown
reading_among (entry ∷ entries) unknown name arguments =
    if is_named name entry.0 then entry.1 arguments
    else reading_among entries unknown name arguments

-- the commands on snapshots, by the word after SNAPSHOT
abbrev pub snapshot_commands : List CommandEntry
snapshot_commands =
    (codes "take", of_nothing TakeSnapshot)
    ∷ (codes "list", of_nothing ListSnapshots)
    ∷ (codes "drop", reading_drop)
    ∷ (codes "get", reading_get_in)
    ∷ (codes "range", reading_range_in)
    ∷ []

abbrev pub reading_snapshot : List (List ℕ) → Reading
reading_snapshot [] = Refused refusal.WrongArgumentCount
reading_snapshot (name ∷ arguments) =
    reading_among snapshot_commands refusal.SyntaxError name arguments

-- the commands of a store, each with its name in lower case
abbrev pub commands : List CommandEntry
commands =
    (codes "ping", reading_ping)
    ∷ (codes "echo", of_text Echo)
    ∷ (codes "get", of_key Get)
    ∷ (codes "mget", of_keys GetMany)
    ∷ (codes "exists", of_keys Exists)
    ∷ (codes "strlen", of_key Length)
    ∷ (codes "range", reading_range)
    ∷ (codes "set", reading_set)
    ∷ (codes "append", reading_append)
    ∷ (codes "incr", of_key (λ key. Change key (Add (pos 1))))
    ∷ (codes "decr", of_key (λ key. Change key (Add (negsuc 0))))
    ∷ (codes "incrby", reading_add)
    ∷ (codes "del", reading_del)
    ∷ (codes "snapshot", reading_snapshot)
    ∷ (codes "usage", of_nothing ReportUsage)
    ∷ []

-- the command that the words are, or the first refusal that applies: the name, the number of
-- arguments, options, numbers among the arguments, then the length of each key
unfoldable pub reading : List (List ℕ) → Reading
reading [] = Refused refusal.UnknownCommand
reading (name ∷ arguments) = reading_among commands refusal.UnknownCommand name arguments

-- ---- what is the connection's own

-- what words are to a connection
pub data Kind : Type 0 where
  -- a login, with its name and password
  Login : List ℕ → List ℕ → Kind
  Quit : Kind
  -- a login or a quit with another number of words
  Malformed : Kind
  -- a request to the tenant's store
  ForStore : Kind

abbrev pub login_kind : List (List ℕ) → Kind
login_kind [] = Malformed
login_kind (_ ∷ []) = Malformed
login_kind (name ∷ password ∷ []) = Login name password
login_kind (_ ∷ _ ∷ _ ∷ _) = Malformed

abbrev pub quit_kind : List (List ℕ) → Kind
quit_kind [] = Quit
quit_kind (_ ∷ _) = Malformed

unfoldable pub kind_of : List (List ℕ) → Kind
kind_of [] = ForStore
kind_of (name ∷ arguments) =
    if is_named name (codes "auth") then login_kind arguments
    else if is_named name (codes "quit") then quit_kind arguments
    else ForStore
