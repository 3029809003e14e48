-- Lists of messages that rise by key and number.
use Rattle.std.specs.Prelude.{◌≡◌, ℕ, zero, suc, ◌≤◌, List, [], ◌∷◌, Bool, if◌then◌else◌, not, ◌&&◌, ◌==◌, false, Option, None, slice_get}
use Rattle.std.specs.Ordering.{is_lt, is_eq}
use Rattle.std.specs.List.{All, Contains, filter}
use Rattle.std.specs.Str.{bytes_eq}
use Rattle.stow_tree_model.specs.StowBytes.Bytes.{bytes_cmp}
use Rattle.stow_tree_model.specs.Op.{bytes_in}
use Rattle.stow_tree_model.specs.TreeMessage.{TreeMessage}
use Rattle.stow_tree_model.specs.Messages.{ops_in}
use Rattle.stow_tree_model.specs.Order.{VersionPlace, place_cmp, place_of}
use Rattle.stow_message.specs.Packed.{kind_of}

-- the message stands below the place
abbrev pub is_below : VersionPlace → TreeMessage → Bool
is_below p m = is_lt (place_cmp (place_of m) p)

-- the first of the messages stands below this one
abbrev pub is_first_below : TreeMessage → List TreeMessage → Bool
is_first_below m [] = false
is_first_below m (n ∷ ns) = is_below (place_of m) n

-- how many messages at the front stand below the place
abbrev pub below : VersionPlace → List TreeMessage → ℕ
below p [] = 0
below p (m ∷ ms) = if is_below p m then suc (below p ms) else 0

-- the last of so many messages at the front
abbrev pub message_before : ℕ → List TreeMessage → Option TreeMessage
message_before zero ms = None
message_before (suc count) ms = slice_get ms count

-- the list with one more message, at its place
abbrev pub placed : TreeMessage → List TreeMessage → List TreeMessage
placed m [] = m ∷ []
placed m (n ∷ ns) = if is_below (place_of m) n then n ∷ placed m ns else m ∷ n ∷ ns

-- no message of this one's key and number is there
abbrev pub IsNew : TreeMessage → List TreeMessage → Type 0
IsNew m ms = All (λ n. is_eq (place_cmp (place_of n) (place_of m)) ≡ false) ms

-- the messages of the key
abbrev pub of_key : List ℕ → List TreeMessage → List TreeMessage
of_key key ms = filter (λ m. is_eq (bytes_cmp m.key key)) ms

-- the key is from the lower end on and below the upper end
abbrev pub is_between : List ℕ → List ℕ → TreeMessage → Bool
is_between from to m = not (is_lt (bytes_cmp m.key from)) && is_lt (bytes_cmp m.key to)

abbrev pub in_range : List ℕ → List ℕ → List TreeMessage → List TreeMessage
in_range from to ms = filter (is_between from to) ms

-- the messages of the other keys
abbrev pub out_of_range : List ℕ → List ℕ → List TreeMessage → List TreeMessage
out_of_range from to ms = filter (λ m. not (is_between from to m)) ms

-- the list with more messages, each at its place
abbrev pub all_placed : List TreeMessage → List TreeMessage → List TreeMessage
all_placed [] ns = ns
all_placed (m ∷ ms) ns = all_placed ms (placed m ns)

-- none of these messages' keys and numbers are there
abbrev pub AreNew : List TreeMessage → List TreeMessage → Type 0
AreNew ms ns = All (λ m. IsNew m ns) ms

-- the messages are one: of one key and number, with one operation
abbrev pub is_same : TreeMessage → TreeMessage → Bool
is_same m n =
    m.number == n.number
    && (kind_of m.op == kind_of n.op
    && (bytes_eq m.key n.key && bytes_eq (bytes_in m.op) (bytes_in n.op)))

-- the first of the batch is this message
abbrev pub is_first : TreeMessage → List TreeMessage → Bool
is_first m [] = false
is_first m (b ∷ bs) = is_same b m

-- each message of the batch is there, with its operation
abbrev pub AreHeld : List TreeMessage → List TreeMessage → Type 0
AreHeld batch ms = All (Contains ms) batch

-- of each key of the batch, the held messages up to the batch's newest of it are the batch's
abbrev pub AreOldest : List TreeMessage → List TreeMessage → Type 0
AreOldest batch held = (m : TreeMessage) → Contains batch m → (n : ℕ) → n ≤ m.number
    → ops_in held m.key n ≡ ops_in batch m.key n

-- the list without the messages of the batch's keys and numbers
abbrev pub without : List TreeMessage → List TreeMessage → List TreeMessage
without [] ms = ms
without (b ∷ bs) ms =
    without bs (filter (λ m. not (is_eq (place_cmp (place_of m) (place_of b)))) ms)
