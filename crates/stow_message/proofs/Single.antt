-- One message of a block, and the block without it.
use Rattle.std.proofs.Common.{◌≡◌, ℕ, zero, suc, ◌+◌, ◌-◌, ◌<◌, List, Option, None, Some, length, drop, refl, sym, ap, ◌∙◌, arith}
use Rattle.std.specs.Prelude.{slice_get}
use Rattle.std.specs.Option.{option_map}
use Rattle.std.specs.List.{sum_by, remove_range}
use Rattle.std.proofs.lemmas.List.Sums.{sum_by-remove}
use Rattle.std.proofs.lemmas.Option.{slice_get_within, slice_get-map, get_or_from_slice_get}
use Rattle.stow_slots.specs.StowRaw.RawBuf.{RawLists}
use Rattle.stow_tree_model.specs.TreeMessage.{TreeMessage}
use Rattle.stow_message.specs.MessageBuf.{messages_in}
use Rattle.stow_message.specs.Packed.{message_bytes, message_size, message_at}
use Rattle.stow_message.specs.Rising.{message_before}
use Rattle.stow_message.proofs.Reading.{length-message_bytes}

module _ (raw : RawLists) (i slot : ℕ) (at : slice_get raw.slots i ≡ Some slot) where
  pub slot_within : i < length raw.slots
  slot_within = slice_get_within raw.slots i slot at

  -- the message that a slot names stands at the slot's place
  pub message_named : slice_get (messages_in raw) i ≡ Some (message_at (drop slot raw.front))
  message_named = slice_get-map (λ s. message_at (drop s raw.front)) raw.slots i ∙ ap (option_map (λ s. message_at (drop s raw.front))) at

  -- the bytes of the others and its own are those of all
  pub single_counted : (bytes : List ℕ) → bytes ≡ message_bytes (message_at (drop slot raw.front)) → sum_by message_size (remove_range (messages_in raw) i (i + 1)) + (length bytes + 4) ≡ sum_by message_size (messages_in raw)
  single_counted bytes is = let m : TreeMessage = message_at (drop slot raw.front) in
      let next : i + 1 ≡ suc i = omega arith in
      omega (
        arith,
        ap (λ j. sum_by message_size (remove_range (messages_in raw) i j)) next,
        sum_by-remove message_size (messages_in raw) i m (slice_get_within (messages_in raw) i m message_named),
        ap message_size (get_or_from_slice_get (messages_in raw) i m m message_named),
        ap length is,
        length-message_bytes m,
      )

-- the message of the slot right before a place is the one right before it
pub before_named : (raw : RawLists) (count : ℕ) (last : Option ℕ) → (count ≡ 0 → last ≡ None) → (0 < count → last ≡ slice_get raw.slots (count - 1))
    → option_map (λ slot. message_at (drop slot raw.front)) last ≡ message_before count (messages_in raw)
before_named raw zero last none some = ap (option_map (λ slot. message_at (drop slot raw.front))) (none refl)
before_named raw (suc count) last none some =
    let one : suc count - 1 ≡ count = omega arith in
    ap (option_map (λ slot. message_at (drop slot raw.front))) (some (omega arith) ∙ ap (slice_get raw.slots) one)
    ∙ sym (slice_get-map (λ slot. message_at (drop slot raw.front)) raw.slots count)
