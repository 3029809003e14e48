-- The messages that slots name in a block.
use Rattle.std.proofs.Common.{◌≡◌, ℕ, zero, suc, ◌+◌, ◌<◌, ◌≤◌, List, [], ◌∷◌, map, length, take, drop, get_or, refl, sym, ap, subst, ◌∙◌, arith, length-append, length-drop, drop-drop}
use Rattle.std.proofs.lemmas.List.{length-map}
use Rattle.std.specs.List.{All, AllByRecursion}
use Rattle.stow_tree_model.specs.Op.{bytes_in}
use Rattle.stow_tree_model.specs.TreeMessage.{TreeMessage}
use Rattle.stow_slots.specs.StowRaw.RawBuf.{RawLists, raw_used}
use Rattle.stow_message.specs.Packed.{kind_of, head_of, message_bytes, IsMessage, key_len_at, number_at, kind_at, value_len_at, message_at, BeginsWith}
use Rattle.stow_message.specs.MessageBuf.{MessageList, message_list, messages_in, IsPackedBuffer}
use Rattle.stow_message.proofs.Reading.{length-message_bytes, head_taken, key_len_in_head, number_in_head, kind_in_head, value_len_in_head, key_read, value_read, message_read}

pub all_at : {X : Type 0} (P : X → Type 0) (xs : List X) (i : ℕ) (d : X) → AllByRecursion P xs → i < length xs → P (get_or xs i d)
all_at P [] i d h lt = absurd (omega arith)
all_at P (x ∷ xs) zero d h lt = h.0
all_at P (x ∷ xs) (suc i) d h lt = all_at P xs i d h.1 (omega arith)

pub get_or-map : {X Y : Type 0} (f : X → Y) (xs : List X) (i : ℕ) (d : X) (e : Y) → i < length xs → get_or (map f xs) i e ≡ f (get_or xs i d)
get_or-map f [] i d e lt = absurd (omega arith)
get_or-map f (x ∷ xs) zero d e lt = refl
get_or-map f (x ∷ xs) (suc i) d e lt = get_or-map f xs i d e (omega arith)

module _ (front : List ℕ) (at : ℕ) (b : BeginsWith (drop at front)) where
  abbrev pub there : TreeMessage
  there = b.message

  abbrev key_len : ℕ
  key_len = length there.key

  abbrev value_len : ℕ
  value_len = length (bytes_in there.op)

  pub room : at + (15 + key_len + value_len) ≤ length front
  room = omega (arith, length-drop at front, ap length b.is, length-append (message_bytes there) b.rest, length-message_bytes there)

  module _ (hs : List ℕ) (e : hs ≡ take 15 (drop at front)) where
    head_is : hs ≡ head_of there
    head_is = e ∙ ap (take 15) b.is ∙ head_taken there b.rest

    pub key_len_is : key_len_at hs ≡ key_len
    key_len_is = ap key_len_at head_is ∙ key_len_in_head there b.is_message

    pub number_is : number_at hs ≡ there.number
    number_is = ap number_at head_is ∙ number_in_head there b.is_message

    pub kind_is : kind_at hs ≡ kind_of there.op
    kind_is = ap kind_at head_is ∙ kind_in_head there

    pub value_len_is : value_len_at hs ≡ value_len
    value_len_is = ap value_len_at head_is ∙ value_len_in_head there b.is_message

  pub key_is : (p n : ℕ) → p ≡ at + 15 → n ≡ key_len → take n (drop p front) ≡ there.key
  key_is p n e f = ap (λ k. take n (drop k front)) e ∙ ap (take n) (sym (drop-drop 15 at front) ∙ ap (drop 15) b.is) ∙ key_read there b.rest b.is_message n f

  pub value_is : (p n : ℕ) → p ≡ at + (15 + key_len) → n ≡ value_len → take n (drop p front) ≡ bytes_in there.op
  value_is p n e f = ap (λ k. take n (drop k front)) e ∙ ap (take n) (sym (drop-drop (15 + key_len) at front) ∙ ap (drop (15 + key_len)) b.is) ∙ value_read there b.rest b.is_message n (15 + key_len) f refl

  pub read_is : message_at (drop at front) ≡ there
  read_is = ap message_at b.is ∙ message_read there b.rest b.is_message

module _ (raw : RawLists) (h : IsPackedBuffer raw) (i : ℕ) (lt : i < length raw.slots) where
  pub filled_at : (at : ℕ) → at ≡ get_or raw.slots i 0 → BeginsWith (drop at raw.front)
  filled_at at e = subst (λ k. BeginsWith (drop k raw.front)) (sym e) (all_at (λ slot. BeginsWith (drop slot raw.front)) raw.slots i 0 h.whole lt)

  pub message_there : (at : ℕ) (e : at ≡ get_or raw.slots i 0) (d : TreeMessage) → get_or (messages_in raw) i d ≡ (filled_at at e).message
  message_there at e d = get_or-map (λ slot. message_at (drop slot raw.front)) raw.slots i 0 d lt ∙ ap (λ k. message_at (drop k raw.front)) (sym e) ∙ read_is raw.front at (filled_at at e)

-- an index of a message is one of a slot
pub index_within : (raw : RawLists) (v : MessageList) → message_list (messages_in raw) (raw_used raw) raw.capacity ≡ v → (i : ℕ) → i < length v.messages → i < length raw.slots
index_within raw v e i lt = omega (arith, ap (λ (w : MessageList). length w.messages) e, length-map raw.slots (λ slot. message_at (drop slot raw.front)))

-- each message is within the limits
pub filled_valid : (raw : RawLists) → IsPackedBuffer raw → All IsMessage (messages_in raw)
filled_valid raw h k d lt = let at = get_or raw.slots k 0 in let within : k < length raw.slots = omega (arith, length-map raw.slots (λ slot. message_at (drop slot raw.front))) in
    subst IsMessage (sym (message_there raw h k within at refl d)) (filled_at raw h k within at refl).is_message
