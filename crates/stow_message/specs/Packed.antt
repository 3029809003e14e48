-- How a message lies in bytes: the length of its key in 2 bytes, its number in 8, its kind in 1,
-- the length of its value or suffix in 4, then the key and the value, all numbers with the highest
-- byte first.
use Rattle.std.specs.Prelude.{◌≡◌, ℕ, zero, suc, ◌+◌, ◌≤◌, List, [], ◌∷◌, ◌++◌, length, take, drop, slice_index}
use Rattle.std.specs.Int.{w16, w32, w64, to_be_bytes, from_be_bytes}
use Rattle.stow_tree_model.specs.StowBytes.Limits.{value_limit, number_limit}
use Rattle.stow_tree_model.specs.Keys.{IsTenantKey, IsOfTenant}
use Rattle.stow_tree_model.specs.Op.{Op, Put, Gone, Append, bytes_in}
use Rattle.stow_tree_model.specs.TreeMessage.{TreeMessage}

-- the number that stands for the operation
abbrev pub kind_of : Op → ℕ
kind_of (Put value) = 0
kind_of Gone = 1
kind_of (Append suffix) = 2

-- the operation of a kind, with the bytes that it carries
abbrev pub op_by : ℕ → List ℕ → Op
op_by zero bytes = Put bytes
op_by (suc zero) bytes = Gone
op_by (suc (suc kind)) bytes = Append bytes

abbrev pub head_of : TreeMessage → List ℕ
head_of m = to_be_bytes w16 (length m.key)
    ++ (to_be_bytes w64 m.number ++ (kind_of m.op ∷ to_be_bytes w32 (length (bytes_in m.op))))

unfoldable pub message_bytes : TreeMessage → List ℕ
message_bytes m = head_of m ++ (m.key ++ bytes_in m.op)

-- the bytes that a message takes: its head's 15, its slot's 4, its key and its value
abbrev pub message_size : TreeMessage → ℕ
message_size m = 19 + length m.key + length (bytes_in m.op)

-- it takes no more bytes than so many
abbrev pub IsNoLarger : ℕ → TreeMessage → Type 0
IsNoLarger most m = message_size m ≤ most

-- a tenant's message, within the limits
pub record IsMessage (m : TreeMessage) : Type 0 where
  pub is_key : IsTenantKey m.key
  pub is_of_tenant : IsOfTenant m.key
  pub is_numbered : (1 ≤ m.number) × (m.number ≤ number_limit)
  pub is_short : length (bytes_in m.op) ≤ value_limit

-- the parts of the message that bytes begin with

abbrev pub key_len_at : List ℕ → ℕ
key_len_at bs = from_be_bytes w16 (take 2 bs)

abbrev pub number_at : List ℕ → ℕ
number_at bs = from_be_bytes w64 (take 8 (drop 2 bs))

abbrev pub kind_at : List ℕ → ℕ
kind_at bs = slice_index bs 10

abbrev pub value_len_at : List ℕ → ℕ
value_len_at bs = from_be_bytes w32 (take 4 (drop 11 bs))

unfoldable pub message_at : List ℕ → TreeMessage
message_at bs = record {
  key = take (key_len_at bs) (drop 15 bs);
  number = number_at bs;
  op = op_by (kind_at bs) (take (value_len_at bs) (drop (15 + key_len_at bs) bs));
}

-- the bytes begin with a message
pub record BeginsWith (bs : List ℕ) : Type 0 where
  pub message : TreeMessage
  pub rest : List ℕ
  pub is_message : IsMessage message
  pub is : bs ≡ message_bytes message ++ rest

-- messages one after another
abbrev pub all_bytes : List TreeMessage → List ℕ
all_bytes [] = []
all_bytes (m ∷ ms) = message_bytes m ++ all_bytes ms

-- where each of them begins, the first one so many bytes in
abbrev pub places_from : ℕ → List TreeMessage → List ℕ
places_from at [] = []
places_from at (m ∷ ms) = at ∷ places_from (at + length (message_bytes m)) ms
