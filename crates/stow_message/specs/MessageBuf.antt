-- What a contract sees of a `MessageBuf`.
use Rattle.std.specs.Prelude.{◌≡◌, ℕ, ◌+◌, ◌-◌, ◌*◌, ◌≤◌, ◌<◌, List, length, map, refl, drop, slice_index}
use Rattle.std.specs.Coded.{Coded, code_by, coded×, coded_list, coded_ℕ}
use Rattle.stow_slots.specs.StowRaw.RawBuf.{RawLists, raw_used}
use Rattle.stow_tree_model.specs.Op.{Op, Put, Gone, Append, bytes_in}
use Rattle.stow_tree_model.specs.TreeMessage.{TreeMessage}
use Rattle.stow_tree_model.specs.Order.{MessagesRise}
use Rattle.stow_message.specs.Filter.{Covers}
use Rattle.stow_message.specs.Packed.{kind_of, op_by, message_at, message_size, BeginsWith, IsNoLarger}
use Rattle.stow_message.specs.Rising.{placed, all_placed, in_range, out_of_range, without}
use Rattle.std.specs.List.{AllByRecursion, sum_by}

-- the messages, rising by key and number, the bytes in use, dead ones among them, and the bytes of
-- the block
pub record MessageList : Type 0 where
  pub messages : List TreeMessage
  pub used : ℕ
  pub capacity : ℕ

abbrev pub message_list : List TreeMessage → ℕ → ℕ → MessageList
message_list messages used capacity =
    record { messages = messages; used = used; capacity = capacity }

-- the message fits beside what is there
abbrev pub Fits : MessageList → TreeMessage → Type 0
Fits b m = b.used + message_size m ≤ b.capacity

-- the buffer with a message more
abbrev pub with_message : TreeMessage → MessageList → MessageList
with_message m b = message_list (placed m b.messages) (b.used + message_size m) b.capacity

-- the buffer with these messages more
abbrev pub with_messages : List TreeMessage → MessageList → MessageList
with_messages ms b =
    message_list (all_placed ms b.messages) (b.used + sum_by message_size ms) b.capacity

-- the buffer without the messages of an interval of keys: their bytes are dead
abbrev pub without_range : List ℕ → List ℕ → MessageList → MessageList
without_range from to b =
    message_list (out_of_range from to b.messages)
    (b.used - 4 * length (in_range from to b.messages)) b.capacity

-- the buffer without these messages: their bytes are dead
abbrev pub without_batch : List TreeMessage → MessageList → MessageList
without_batch batch b =
    message_list (without batch b.messages) (b.used - 4 * length batch) b.capacity

pub op_is : (op : Op) → op_by (kind_of op) (bytes_in op) ≡ op
op_is (Put value) = refl
op_is Gone = refl
op_is (Append suffix) = refl

abbrev pub op_code : Coded Op
op_code =
    code_by (ℕ × List ℕ) (coded× coded_ℕ (coded_list coded_ℕ))
    (λ op. (kind_of op, bytes_in op)) (λ p. op_by p.0 p.1) op_is

abbrev pub message_code : Coded TreeMessage
message_code =
    code_by (List ℕ × (ℕ × Op)) (coded× (coded_list coded_ℕ) (coded× coded_ℕ op_code))
    (λ m. (m.key, (m.number, m.op)))
    (λ p. record { key = p.0; number = p.1.0; op = p.1.1 }) (λ _. refl)

abbrev pub message_list_code : Coded MessageList
message_list_code =
    code_by (List TreeMessage × (ℕ × ℕ)) (coded× (coded_list message_code) (coded× coded_ℕ coded_ℕ))
    (λ b. (b.messages, (b.used, b.capacity))) (λ p. message_list p.0 p.1.0 p.1.1) (λ _. refl)

-- each message takes no more bytes than so many
abbrev pub AreNoLarger : ℕ → List TreeMessage → Type 0
AreNoLarger most ms = AllByRecursion (IsNoLarger most) ms

-- the messages at the slots' places
abbrev pub messages_in : RawLists → List TreeMessage
messages_in raw = map (λ slot. message_at (drop slot raw.front)) raw.slots

-- the messages at the places of the slots from the index on
abbrev pub messages_from : RawLists → ℕ → List TreeMessage
messages_from raw from = map (λ slot. message_at (drop slot raw.front)) (drop from raw.slots)

-- the message that the slot at an index names
abbrev pub named : RawLists → ℕ → TreeMessage
named raw index = message_at (drop (slice_index raw.slots index) raw.front)

-- each slot from the index on names a message, and they rise
pub record IsFilledFrom (raw : RawLists) (from : ℕ) : Type 0 where
  pub whole : AllByRecursion (λ slot. BeginsWith (drop slot raw.front)) (drop from raw.slots)
  pub rising : MessagesRise (messages_from raw from)
  pub small : length raw.front + 4 * length raw.slots < 4294967296

-- each slot names a message, and they rise
pub record IsPackedBuffer (raw : RawLists) : Type 0 where
  pub whole : AllByRecursion (λ slot. BeginsWith (drop slot raw.front)) raw.slots
  pub rising : MessagesRise (messages_in raw)
  pub live : sum_by message_size (messages_in raw) ≤ raw_used raw
  pub within : (raw_used raw ≤ raw.capacity) × (raw.capacity < 4294967296)

-- .. each one's key has its marks, the bytes of all are counted, and those of each are bounded
pub record IsMarked (raw : RawLists) (words : List ℕ) (live largest : ℕ) : Type 0 where
  pub filled : IsPackedBuffer raw
  pub covers : Covers words (messages_in raw)
  pub counted : live ≡ sum_by message_size (messages_in raw)
  pub bounded : AreNoLarger largest (messages_in raw)
