-- The messages of a call: one for each key whose row it changes.
use Rattle.std.specs.Prelude.{◌≡◌, ◌⊎◌, ℕ, suc, ◌<◌, Bool, true, false, not, List, [], ◌∷◌, ◌++◌, filter, map, Option, Some, None, IfSome, IsSome, if◌then◌else◌, ◌==◌, ◌&&◌}
use Rattle.std.specs.FinMap as finite
use Rattle.std.specs.List.{AllByRecursion}
use Rattle.std.specs.Str.{bytes_eq}
use Rattle.stow_model.specs.Store.{Rows, Version, rows_without}
use Rattle.stow_tree_model.specs.Keys.{packed, own_key}
use Rattle.stow_tree_model.specs.Op.{Op, Put, Gone}
use Rattle.stow_tree_model.specs.TreeMessage.{TreeMessage}
use Rattle.stow_tree_model.specs.Operations.{NoneAbove}
use Rattle.stow_tree_model.specs.Messages.{Messages, ops_of, ops_in, with_all}
use Rattle.stow_state.specs.Rows.{rows_at}

abbrev pub is_same_row : Option Version → Option Version → Bool
is_same_row None None = true
is_same_row None (Some b) = false
is_same_row (Some a) None = false
is_same_row (Some a) (Some b) = (a.number == b.number) && bytes_eq a.value b.value

-- the keys that either has, each once
abbrev pub keys_of_both : Rows → Rows → List (List ℕ)
keys_of_both before after =
    finite.keys before ++ filter (λ key. not (finite.contains_key before key)) (finite.keys after)

-- the keys whose rows are others afterwards
abbrev pub changed_keys : Rows → Rows → List (List ℕ)
changed_keys before after =
    filter (λ key. not (is_same_row (finite.get before key) (finite.get after key)))
    (keys_of_both before after)

-- what makes a key's row this: a put where there is a row, and a removal where there is none
abbrev pub op_to : Option Version → Op
op_to None = Gone
op_to (Some version) = Put version.value

-- the message that makes the tenant's row of the key what it is in these rows
abbrev pub message_to : ℕ → ℕ → Rows → List ℕ → TreeMessage
message_to tenant number rows key =
    record { key = packed tenant key; number = number; op = op_to (finite.get rows key) }

-- a tenant's messages from rows to others: one for each key whose row changes, with the number
unfoldable pub changes : ℕ → ℕ → Rows → Rows → List TreeMessage
changes tenant number before after =
    map (message_to tenant number after) (changed_keys before after)

-- the operation between a key's row before and after, if they differ
abbrev pub op_between : Option Version → Option Version → Option Op
op_between before after = if is_same_row before after then None else Some (op_to after)

-- the messages are of keys that the tenant itself names, with the number
abbrev pub AreOwn : ℕ → ℕ → List TreeMessage → Type 0
AreOwn tenant number ms =
    AllByRecursion (λ m. (packed tenant (own_key m.key) ≡ m.key) × (m.number ≡ number)) ms

-- the row of each key has a number below this, where there is one
abbrev pub AreRowsBefore : ℕ → Rows → Type 0
AreRowsBefore number rows = (key : List ℕ)
    → IfSome (finite.get rows key) (λ version. version.number < number)

-- the message that puts a value under the tenant's key
abbrev pub put_message : ℕ → ℕ → List ℕ → List ℕ → TreeMessage
put_message tenant number key value =
    record { key = packed tenant key; number = number; op = Put value }

-- the message that takes the tenant's key away
abbrev pub gone_message : ℕ → ℕ → List ℕ → TreeMessage
gone_message tenant number key =
    record { key = packed tenant key; number = number; op = Gone }

-- rows after a write: each is as before, or is gone, or has the write's number
abbrev pub AreWritten : ℕ → Rows → Rows → Type 0
AreWritten number before after = (key : List ℕ)
    → (finite.get after key ≡ finite.get before key)
    ⊎ IfSome (finite.get after key) (λ version. version.number ≡ number)

-- ---- the laws

-- there is a message for a key just where its row changes, and it makes the row
abbrev pub ChangesByRows : Type 0
ChangesByRows = (tenant number : ℕ) (before after : Rows) (key : List ℕ)
    → ops_in (changes tenant number before after) (packed tenant key) number
    ≡ op_between (finite.get before key) (finite.get after key)

-- whatever list of the tenant's messages makes the same rows, it makes the same set
abbrev pub ChangesOnce : Type 0
ChangesOnce = (m : Messages) (tenant number : ℕ) (before after : Rows) (ms : List TreeMessage)
    → AreOwn tenant number ms
    → ((key : List ℕ) → ops_in ms (packed tenant key) number
    ≡ op_between (finite.get before key) (finite.get after key))
    → with_all m ms ≡ with_all m (changes tenant number before after)

-- a call's messages move the caller's rows as its write does
abbrev pub OwnRowsMove : Type 0
OwnRowsMove = (m : Messages) (tenant last : ℕ) (after : Rows)
    → ((key : List ℕ) → NoneAbove last (ops_of m (packed tenant key)))
    → AreWritten (suc last) (rows_at m tenant last) after
    → rows_at (with_all m (changes tenant (suc last) (rows_at m tenant last) after)) tenant
    (suc last) ≡ after

-- a call's messages leave the caller's rows at earlier numbers
abbrev pub EarlierRowsStay : Type 0
EarlierRowsStay = (m : Messages) (tenant number n : ℕ) (before after : Rows) → n < number
    → rows_at (with_all m (changes tenant number before after)) tenant n ≡ rows_at m tenant n

-- the write of one row, and the removal of some, are writes
pub record WritesAreWritten : Type 0 where
  pub of_one : (rows : Rows) (key value : List ℕ) (number : ℕ)
      → AreWritten number rows
      (finite.insert rows key (record { number = number; value = value }))
  pub of_some : (rows : Rows) (keys : List (List ℕ)) (number : ℕ)
      → AreWritten number rows (rows_without keys rows)

-- no row is shown before the number of its write
abbrev pub RowsAreBelow : Type 0
RowsAreBelow = (m : Messages) (tenant n : ℕ) → AreRowsBefore (suc n) (rows_at m tenant n)

-- The messages of the write of one row are a put alone, and those of the removal of rows that are
-- there a removal for each; where no row changes there is none.
pub record WritesByMessages : Type 0 where
  pub of_one : (m : Messages) (tenant number : ℕ) (rows : Rows) (key value : List ℕ)
      → AreRowsBefore number rows
      → with_all m (put_message tenant number key value ∷ [])
      ≡ with_all m (changes tenant number rows
      (finite.insert rows key (record { number = number; value = value })))
  pub of_some : (m : Messages) (tenant number : ℕ) (rows : Rows) (keys : List (List ℕ))
      → AllByRecursion (λ key. IsSome (finite.get rows key)) keys
      → with_all m (map (gone_message tenant number) keys)
      ≡ with_all m (changes tenant number rows (rows_without keys rows))
  pub of_none : (tenant number : ℕ) (rows : Rows) → changes tenant number rows rows ≡ []
