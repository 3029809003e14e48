-- A packed message is read back.
use Rattle.std.proofs.Common.{◌≡◌, ℕ, ◌+◌, ◌<◌, ◌^◌, List, ◌++◌, length, take, drop, refl, sym, ap, ◌∙◌, arith, append_assoc, length-append, take_at, drop_at, drop-drop}
use Rattle.std.proofs.lemmas.Nat.{from_be_bytes-to_be_bytes_2, from_be_bytes-to_be_bytes_4, from_be_bytes-to_be_bytes_8}
use Rattle.stow_tree_model.specs.Op.{bytes_in}
use Rattle.stow_tree_model.specs.TreeMessage.{TreeMessage}
use Rattle.stow_message.specs.Packed.{kind_of, op_by, head_of, message_bytes, message_size, IsMessage, key_len_at, number_at, kind_at, value_len_at, message_at}
use Rattle.stow_message.specs.MessageBuf.{op_is}

pub length-message_bytes : (m : TreeMessage) → length (message_bytes m) + 4 ≡ message_size m
unfolding message_bytes
length-message_bytes m = omega (arith, length-append m.key (bytes_in m.op))

module _ (m : TreeMessage) where
  pub kind_in_head : kind_at (head_of m) ≡ kind_of m.op
  kind_in_head = refl

  module _ (h : IsMessage m) where
    pub key_len_in_head : key_len_at (head_of m) ≡ length m.key
    key_len_in_head = let fits : length m.key < 2 ^ 16 = omega (arith, h.is_key.is_short) in from_be_bytes-to_be_bytes_2 (length m.key) fits

    pub number_in_head : number_at (head_of m) ≡ m.number
    number_in_head = let fits : m.number < 2 ^ 64 = omega (arith, h.is_numbered) in from_be_bytes-to_be_bytes_8 m.number fits

    pub value_len_in_head : value_len_at (head_of m) ≡ length (bytes_in m.op)
    value_len_in_head = let fits : length (bytes_in m.op) < 2 ^ 32 = omega (arith, h.is_short) in from_be_bytes-to_be_bytes_4 (length (bytes_in m.op)) fits

-- a head before a key and a value
pub head_taken : (m : TreeMessage) (rest : List ℕ) → take 15 (message_bytes m ++ rest) ≡ head_of m
unfolding message_bytes
head_taken m rest = refl

module _ (m : TreeMessage) (rest : List ℕ) (h : IsMessage m) where
  abbrev bs : List ℕ
  bs = message_bytes m ++ rest

  abbrev key_len : ℕ
  key_len = length m.key

  abbrev bytes : List ℕ
  bytes = bytes_in m.op

  key_fits : key_len < 2 ^ 16
  key_fits = omega (arith, h.is_key.is_short)

  value_fits : length bytes < 2 ^ 32
  value_fits = omega (arith, h.is_short)

  pub key_len_read : key_len_at bs ≡ key_len
  unfolding message_bytes
  key_len_read = from_be_bytes-to_be_bytes_2 key_len key_fits

  pub number_read : number_at bs ≡ m.number
  unfolding message_bytes
  number_read = let fits : m.number < 2 ^ 64 = omega (arith, h.is_numbered) in from_be_bytes-to_be_bytes_8 m.number fits

  pub kind_read : kind_at bs ≡ kind_of m.op
  unfolding message_bytes
  kind_read = refl

  pub value_len_read : value_len_at bs ≡ length bytes
  unfolding message_bytes
  value_len_read = from_be_bytes-to_be_bytes_4 (length bytes) value_fits

  past_head : drop 15 bs ≡ m.key ++ (bytes ++ rest)
  unfolding message_bytes
  past_head = append_assoc m.key bytes rest

  pub key_read : (n : ℕ) → n ≡ key_len → take n (drop 15 bs) ≡ m.key
  key_read n e = ap (take n) past_head ∙ take_at m.key (bytes ++ rest) n (sym e)

  pub value_read : (n k : ℕ) → n ≡ length bytes → k ≡ 15 + key_len → take n (drop k bs) ≡ bytes
  value_read n k e f = ap (λ j. take n (drop j bs)) f ∙ ap (take n) (sym (drop-drop key_len 15 bs) ∙ ap (drop key_len) past_head ∙ drop_at m.key (bytes ++ rest) key_len refl) ∙ take_at bytes rest n (sym e)

  pub message_read : message_at bs ≡ m
  unfolding message_at
  message_read =
      let op : op_by (kind_at bs) (take (value_len_at bs) (drop (15 + key_len_at bs) bs)) ≡ m.op =
      (λ i. op_by (kind_read i) (value_read (value_len_at bs) (15 + key_len_at bs) value_len_read (ap (λ k. 15 + k) key_len_read) i)) ∙ op_is m.op in
      λ i. record { key = key_read (key_len_at bs) key_len_read i; number = number_read i; op = op i }
