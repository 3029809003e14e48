-- What the message of a slot tells of how many stand below a place.
use Rattle.std.proofs.Common.{◌≡◌, ℕ, ◌<◌, ◌≤◌, Some, None, true, false, length, drop, get_or, ap, sym, ◌∙◌, arith}
use Rattle.std.specs.Prelude.{slice_get}
use Rattle.std.proofs.lemmas.Option.{slice_get_within, slice_get-get_or, get_or_from_slice_get}
use Rattle.std.proofs.lemmas.List.{length-map}
use Rattle.stow_slots.specs.StowRaw.RawBuf.{RawLists}
use Rattle.stow_tree_model.specs.Order.{VersionPlace}
use Rattle.stow_tree_model.specs.TreeMessage.{TreeMessage}
use Rattle.stow_message.specs.MessageBuf.{messages_in, IsPackedBuffer}
use Rattle.stow_message.specs.Packed.{message_at}
use Rattle.stow_message.specs.Rising.{below, is_below}
use Rattle.stow_message.proofs.RisingLists.{below_tells, below_within}
use Rattle.stow_message.proofs.Stored.{filled_at, message_there, read_is}

module _ (raw : RawLists) (h : IsPackedBuffer raw) (p : VersionPlace) (i : ℕ) where
  seen : length (messages_in raw) ≡ length raw.slots
  seen = length-map raw.slots (λ slot. message_at (drop slot raw.front))

  -- the one at a place stands below, or else no more than those before it do
  pub slot_tells : (slot : ℕ) → slice_get raw.slots i ≡ Some slot
      → (is_below p (message_at (drop slot raw.front)) ≡ true → i < below p (messages_in raw)) × (is_below p (message_at (drop slot raw.front)) ≡ false → below p (messages_in raw) ≤ i)
  slot_tells slot at =
      let lt : i < length raw.slots = slice_get_within raw.slots i slot at in
      let there : slot ≡ get_or raw.slots i 0 = sym (get_or_from_slice_get raw.slots i slot 0 at) in
      let m : TreeMessage = message_at (drop slot raw.front) in
      let same : m ≡ get_or (messages_in raw) i m = read_is raw.front slot (filled_at raw h i lt slot there) ∙ sym (message_there raw h i lt slot there m) in
      let told = below_tells p (messages_in raw) i m h.rising (omega (arith, lt, seen)) in
      (λ e. told.0 (sym (ap (is_below p) same) ∙ e), λ e. told.1 (sym (ap (is_below p) same) ∙ e))

  -- where there is no slot no more can
  pub end_tells : None ≡ slice_get raw.slots i → below p (messages_in raw) ≤ i
  end_tells at = let far : i < length raw.slots → ⊥ = (λ lt. none_is_some (at ∙ slice_get-get_or raw.slots i 0 lt)) in omega (arith, far, seen, below_within p (messages_in raw)) where
    none_is_some : {x : ℕ} → None ≡ Some x → ⊥
    none_is_some e = cc
