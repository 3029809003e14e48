-- Messages of writes, and the rows that they lead to.
use Rattle.std.specs.Prelude.{◌≡◌, ℕ, ◌≤◌, List, [], ◌∷◌, map, length, Option, IsSomeAnd, Result, Ok, Err}
use Rattle.std.specs.Fmt.{signed_decimal}
use Rattle.std.specs.FinMap as finite
use Rattle.std.specs.Option.{option_map}
use Rattle.std.specs.List.{AllByRecursion}
use Rattle.stow_core.specs.declared.given.Given.{Given}
use Rattle.stow_core.specs.declared.given.Given.TheVariants as given
use Rattle.stow_core.specs.declared.row_answer.RowAnswer.{RowAnswer}
use Rattle.stow_core.specs.declared.row_answer.RowAnswer.TheVariants as answer
use Rattle.stow_dropping.specs.StowMessage.Packed.{IsMessage}
use Rattle.stow_bytes.specs.Limits.{value_limit}
use Rattle.stow_ledger.specs.Shown.{sized_option}
use Rattle.stow_ledger.specs.declared.sized_version.SizedVersion.{SizedVersion}
use Rattle.stow_model.specs.Reply.{reply_of}
use Rattle.stow_model.specs.declared.refusal.Refusal.{Refusal}
use Rattle.stow_model.specs.Store.{Rows, Version, value_in}
use Rattle.stow_model.specs.Store as meant
use Rattle.stow_tree_model.specs.Operations.{outcome, bytes_or_none, numbered}
use Rattle.stow_dropping.specs.StowRead.declared.found.Found.{Found}
use Rattle.stow_dropping.specs.StowRead.Found.{found_value}
use Rattle.stow_ledger.specs.StowState.Rows.{version_of, with_row}
use Rattle.stow_tree_model.specs.Op.{Op, Put, Gone, Append}
use Rattle.stow_tree_model.specs.TreeMessage.{TreeMessage}

-- what a write does to the value of each of its keys
abbrev pub given_op : Given → Op
given_op (given.Value value) = Put value.now
given_op (given.Number number) = Put (signed_decimal number)
given_op (given.Suffix suffix) = Append suffix.now
given_op given.Gone = Gone

-- the operation makes no value that is too long of this one
abbrev pub StaysShort : Op → Option (List ℕ) → Type 0
StaysShort op before = length (bytes_or_none (outcome op before)) ≤ value_limit

-- the length of the value that a key has after the operation, by the version that stood there
abbrev pub IsLengthAfter : Op → Option SizedVersion → Option ℕ → Type 0
IsLengthAfter op before after = (row : Option Version) → before ≡ sized_option row
    → StaysShort op (value_in row) → after ≡ option_map length (outcome op (value_in row))

-- the message that does this to the value of the key, which is one among the keys of all
abbrev pub write_of : ℕ → Op → List ℕ → TreeMessage
write_of number op key = record { key = key; number = number; op = op }

-- one for each key
abbrev pub writes_of : ℕ → Op → List (List ℕ) → List TreeMessage
writes_of number op keys = map (write_of number op) keys

abbrev pub AreMessages : List TreeMessage → Type 0
AreMessages messages = AllByRecursion IsMessage messages

-- the row that the operation makes of a row, by the write with the number
abbrev pub row_given : ℕ → Op → Option Version → Option Version
row_given number op row = version_of (numbered number (outcome op (value_in row)))

-- the rows once each of the keys got the operation, by the write with the number
abbrev pub rows_given : ℕ → Op → List (List ℕ) → Rows → Rows
rows_given number op [] rows = rows
rows_given number op (key ∷ keys) rows =
    rows_given number op keys (with_row key (row_given number op (finite.get rows key)) rows)

-- what was found, as a version of the tenant's store
abbrev pub row_of : {A : Type 0} → Option (Found A) → Option Version
row_of found = version_of (option_map found_value found)

-- what a change leads to by the row's present value was found
abbrev pub IsRowAnswer : {A : Type 0} → Result (RowAnswer A) Refusal → Option (List ℕ)
    → meant.Outcome → Type 0
IsRowAnswer (Ok (answer.Written made reply)) present o =
    IsSomeAnd (outcome (given_op made) present) (λ value. o ≡ meant.Written value (reply_of reply))
IsRowAnswer (Ok (answer.Unchanged reply)) present o = o ≡ meant.Unchanged (reply_of reply)
IsRowAnswer (Err refusal) present o = o ≡ meant.Failed refusal
