-- Sets of messages, and what a key has at a number by a set.
use Rattle.std.specs.Prelude.{◌≡◌, ◌≢◌, ℕ, List, [], ◌∷◌, map, Option, Some, None, if◌then◌else◌}
use Rattle.std.specs.Ordering.{eq_by_cmp}
use Rattle.std.specs.FinMap as finite
use Rattle.std.specs.List.{AllByRecursion}
use Rattle.stow_tree_model.specs.Keys.{tenant_of}
use Rattle.stow_tree_model.specs.Op.{Op}
use Rattle.stow_tree_model.specs.TreeMessage.{TreeMessage}
use Rattle.stow_tree_model.specs.Order.{VersionPlace, place_cmp, place_of, MessagesRise}
use Rattle.stow_tree_model.specs.Operations.{NumberedValue, Operations, latest}

-- a set of messages, no two with the same key and number
abbrev pub Messages : Type 0
Messages = finite.FinMap place_cmp Op

-- the operation on a key at each number: the one word by which all else reads a set
abbrev pub ops_of : Messages → List ℕ → Operations
ops_of messages key number = finite.get messages (key, number)

-- what a key has at a number
abbrev pub value : Messages → List ℕ → ℕ → Option NumberedValue
value messages key number = latest (ops_of messages key) number

-- the set with more messages
abbrev pub with_all : Messages → List TreeMessage → Messages
with_all messages [] = messages
with_all messages (m ∷ more) = finite.insert (with_all messages more) (place_of m) m.op

-- the set of a list of messages
abbrev pub set_of : List TreeMessage → Messages
set_of = with_all finite.empty

-- the operation on a key at each number, in a list of messages
abbrev pub ops_in : List TreeMessage → List ℕ → Operations
ops_in [] key number = None
ops_in (m ∷ more) key number =
    if eq_by_cmp place_cmp (key, number) (place_of m) then Some m.op else ops_in more key number

abbrev pub message_at : VersionPlace × Op → TreeMessage
message_at e = record { key = e.0.0; number = e.0.1; op = e.1 }

-- the messages of a set by key, then number
unfoldable pub in_order : Messages → List TreeMessage
in_order messages = map message_at (finite.entries messages)

-- the messages of a call of the tenant: each of its keys, with this number
abbrev pub IsCall : ℕ → ℕ → List TreeMessage → Type 0
IsCall tenant number ms = AllByRecursion (λ m. (tenant_of m.key ≡ tenant) × (m.number ≡ number)) ms

-- ---- the laws

-- a set is told by its look-ups
abbrev pub SetByOps : Type 0
SetByOps = (m n : Messages)
    → ((key : List ℕ) (number : ℕ) → ops_of m key number ≡ ops_of n key number) → m ≡ n

-- a list that rises and has the operations of a set is its messages in order
abbrev pub InOrderOnce : Type 0
InOrderOnce = (ms : List TreeMessage) (messages : Messages) → MessagesRise ms
    → ((key : List ℕ) (n : ℕ) → ops_in ms key n ≡ ops_of messages key n) → ms ≡ in_order messages

-- a call's messages leave what the keys of others have
abbrev pub CallsLeaveOthers : Type 0
CallsLeaveOthers = (m : Messages) (tenant number : ℕ) (ms : List TreeMessage) (key : List ℕ)
    → IsCall tenant number ms → tenant_of key ≢ tenant → ops_of (with_all m ms) key ≡ ops_of m key
