-- The messages of a block's last slots, and where a place stands among them.
use Rattle.std.proofs.Common.{◌≡◌, ℕ, zero, suc, ◌+◌, ◌-◌, ◌<◌, ◌≤◌, Bool, true, false, List, [], ◌∷◌, map, length, drop, get_or, refl, sym, ap, subst, ◌∙◌, arith, drop-drop, length-drop}
use Rattle.std.proofs.lemmas.List.{get_or-drop, length-map}
use Rattle.std.specs.Prelude.{if◌then◌else◌, max}
use Rattle.std.specs.List.{AllByRecursion, drop-map}
use Rattle.stow_tree_model.specs.TreeMessage.{TreeMessage}
use Rattle.stow_tree_model.specs.Order.{VersionPlace, place_of, MessagesRise}
use Rattle.stow_slots.specs.StowRaw.RawBuf.{RawLists, raw_used}
use Rattle.stow_message.specs.Packed.{message_at, BeginsWith}
use Rattle.stow_message.specs.MessageBuf.{MessageList, message_list, messages_in, messages_from, named, IsPackedBuffer, IsFilledFrom}
use Rattle.stow_message.specs.Rising.{is_below, is_first_below, below}
use Rattle.stow_message.proofs.RisingLists.{below_first, below_tells, no_path}
use Rattle.stow_message.proofs.Removed.{all_dropped, rest_rises}
use Rattle.stow_message.proofs.Stored.{all_at, get_or-map}

-- a rising list's messages from an index on rise
pub rises_from : (ms : List TreeMessage) (j : ℕ) → MessagesRise ms → MessagesRise (drop j ms)
rises_from ms j up = rest_rises ms 0 j (omega arith) up

-- of messages that stand below, those from a later one on are fewer by as many
pub below_after : (p : VersionPlace) (ms : List TreeMessage) (j : ℕ) → j ≤ below p ms → j + below p (drop j ms) ≡ below p ms
below_after p ms zero le = omega arith
below_after p [] (suc j) le = absurd (omega (arith, le))
below_after p (m ∷ ms) (suc j) le = step (is_below p m) le (below_after p ms j) where
  step : (b : Bool) → suc j ≤ (if b then suc (below p ms) else 0) → (j ≤ below p ms → j + below p (drop j ms) ≡ below p ms) → suc j + below p (drop j ms) ≡ (if b then suc (below p ms) else 0)
  step true le on = omega (arith, on (omega (arith, le)))
  step false le on = absurd (omega (arith, le))

-- past the first that doesn't stand below none does
none_below : (p : VersionPlace) (m : TreeMessage) (ms : List TreeMessage) → MessagesRise (m ∷ ms) → is_below p m ≡ false → below p ms ≡ 0
none_below p m [] up e = refl
none_below p m (n ∷ ns) up e = step (is_below p n) (λ h. below_first p m (n ∷ ns) 0 n up (omega arith) h) where
  step : (b : Bool) → (b ≡ true → is_below p m ≡ true) → (if b then suc (below p ns) else 0) ≡ 0
  step true h = absurd (no_path (sym e ∙ h refl))
  step false h = refl

pub below_from : (p : VersionPlace) (ms : List TreeMessage) (from : ℕ) → MessagesRise ms → from ≤ length ms → from + below p (drop from ms) ≡ max (below p ms) from
below_from p ms zero up le = omega arith
below_from p [] (suc from) up le = absurd (omega (arith, le))
below_from p (m ∷ ms) (suc from) up le = step (is_below p m) refl (below_from p ms from (rises_from (m ∷ ms) 1 up) (omega (arith, le))) where
  step : (b : Bool) → b ≡ is_below p m → from + below p (drop from ms) ≡ max (below p ms) from → suc from + below p (drop from ms) ≡ max (if b then suc (below p ms) else 0) (suc from)
  step true e on = omega (arith, on)
  step false e on = omega (arith, on, none_below p m ms up (sym e))

-- where the messages below end there is none below
pub first_not_below : (m : TreeMessage) (ns : List TreeMessage) → false ≡ is_first_below m (drop (below (place_of m) ns) ns)
first_not_below m [] = refl
first_not_below m (n ∷ ns) = step (is_below (place_of m) n) refl (first_not_below m ns) where
  step : (b : Bool) → b ≡ is_below (place_of m) n → false ≡ is_first_below m (drop (below (place_of m) ns) ns)
      → false ≡ is_first_below m (drop (if b then suc (below (place_of m) ns) else 0) (n ∷ ns))
  step true e on = on
  step false e on = e

-- .. and so the first that is left isn't
pub start_not_below : (p : VersionPlace) (ms : List TreeMessage) (x : TreeMessage) (ys : List TreeMessage) → drop (below p ms) ms ≡ x ∷ ys → is_below p x ≡ false
start_not_below p [] x ys e = cc
start_not_below p (n ∷ ns) x ys e = step (is_below p n) refl (start_not_below p ns x ys) e where
  step : (b : Bool) → b ≡ is_below p n → (drop (below p ns) ns ≡ x ∷ ys → is_below p x ≡ false) → drop (if b then suc (below p ns) else 0) (n ∷ ns) ≡ x ∷ ys → is_below p x ≡ false
  step true f on e = on e
  step false f on e = let first : n ≡ x = cc in ap (is_below p) (sym first) ∙ sym f

pub all_filled : (raw : RawLists) → IsPackedBuffer raw → IsFilledFrom raw 0
all_filled raw h = record { whole = h.whole; rising = h.rising; small = omega (arith, h.within) }

module _ (raw : RawLists) (from : ℕ) (h : IsFilledFrom raw from) where
  abbrev ms : List TreeMessage
  ms = messages_from raw from

  pub count_from : from ≤ length raw.slots → from + length ms ≡ length raw.slots
  count_from le = omega (arith, length-map (drop from raw.slots) (λ slot. message_at (drop slot raw.front)), length-drop from raw.slots)

  -- and so from a later one on
  pub filled_later : (i : ℕ) → from ≤ i → IsFilledFrom raw i
  filled_later i le = let at : from + (i - from) ≡ i = omega (arith, le) in let f = λ (slot : ℕ). message_at (drop slot raw.front) in
      let slots : drop (i - from) (drop from raw.slots) ≡ drop i raw.slots = drop-drop (i - from) from raw.slots ∙ ap (λ n. drop n raw.slots) at in
      record {
        whole = subst (AllByRecursion (λ slot. BeginsWith (drop slot raw.front))) slots (all_dropped (λ slot. BeginsWith (drop slot raw.front)) (drop from raw.slots) (i - from) h.whole);
        rising = subst MessagesRise (drop-map f (i - from) (drop from raw.slots) ∙ ap (map f) slots) (rises_from ms (i - from) h.rising);
        small = h.small;
      }

  pub ends_later : (p : VersionPlace) (i : ℕ) → from ≤ i → i ≤ from + below p ms → i + below p (messages_from raw i) ≡ from + below p ms
  ends_later p i le within = let at : from + (i - from) ≡ i = omega (arith, le) in let f = λ (slot : ℕ). message_at (drop slot raw.front) in
      let slots : drop (i - from) (drop from raw.slots) ≡ drop i raw.slots = drop-drop (i - from) from raw.slots ∙ ap (λ n. drop n raw.slots) at in
      let later : drop (i - from) ms ≡ messages_from raw i = drop-map f (i - from) (drop from raw.slots) ∙ ap (map f) slots in
      omega (arith, below_after p ms (i - from) (omega (arith, within, le)), ap (below p) later, at)

  module _ (i : ℕ) (le : from ≤ i) (lt : i < length raw.slots) where
    same_slot : (d : ℕ) → get_or (drop from raw.slots) (i - from) d ≡ get_or raw.slots i d
    same_slot d = let at : from + (i - from) ≡ i = omega (arith, le) in get_or-drop from raw.slots (i - from) d ∙ ap (λ n. get_or raw.slots n d) at

    less : i - from < length (drop from raw.slots)
    less = omega (arith, length-drop from raw.slots, lt, le)

    pub begins_at : BeginsWith (drop (get_or raw.slots i 0) raw.front)
    begins_at = subst (λ slot. BeginsWith (drop slot raw.front)) (same_slot 0) (all_at (λ slot. BeginsWith (drop slot raw.front)) (drop from raw.slots) (i - from) 0 h.whole less)

    pub named_at : (d : TreeMessage) → get_or ms (i - from) d ≡ named raw i
    named_at d = let f = λ (slot : ℕ). message_at (drop slot raw.front) in get_or-map f (drop from raw.slots) (i - from) 0 d less ∙ ap f (same_slot 0)

    -- what a comparison with one message tells
    pub tells : (p : VersionPlace) (b : Bool) → b ≡ is_below p (message_at (drop (get_or raw.slots i 0) raw.front)) → (b ≡ true → i < from + below p ms) × (b ≡ false → from + below p ms ≤ i)
    tells p b e =
        let f = λ (slot : ℕ). message_at (drop slot raw.front) in let d = f (get_or raw.slots i 0) in
        let is : get_or ms (i - from) d ≡ d = get_or-map f (drop from raw.slots) (i - from) 0 d less ∙ ap f (same_slot 0) in
        let t = below_tells p ms (i - from) d h.rising (omega (arith, less, length-map (drop from raw.slots) f)) in
        (λ y. let j : i - from < below p ms = t.0 (ap (is_below p) is ∙ sym e ∙ y) in omega (arith, j, le), λ y. let j : below p ms ≤ i - from = t.1 (ap (is_below p) is ∙ sym e ∙ y) in omega (arith, j, le))

-- the same of a buffer that is seen as v
module _ (raw : RawLists) (h : IsPackedBuffer raw) (v : MessageList) (view : message_list (messages_in raw) (raw_used raw) raw.capacity ≡ v) where
  pub below_in : (p : VersionPlace) → 0 + below p (messages_from raw 0) ≡ below p v.messages
  below_in p = let same : below p (messages_from raw 0) ≡ below p v.messages = ap (λ (w : MessageList). below p w.messages) view in omega (arith, same)

  pub below_in_from : (p : VersionPlace) (from : ℕ) → from ≤ length v.messages → from + below p (messages_from raw from) ≡ max (below p v.messages) from
  below_in_from p from le = let f = λ (slot : ℕ). message_at (drop slot raw.front) in
      ap (λ l. from + below p l) (sym (drop-map f from raw.slots))
      ∙ below_from p (messages_in raw) from h.rising (omega (arith, le, ap (λ (w : MessageList). length w.messages) view))
      ∙ ap (λ (w : MessageList). max (below p w.messages) from) view

-- there are as many slots as messages
pub slots_seen : (raw : RawLists) (v : MessageList) → message_list (messages_in raw) (raw_used raw) raw.capacity ≡ v → length raw.slots ≡ length v.messages
slots_seen raw v view = omega (arith, length-map raw.slots (λ slot. message_at (drop slot raw.front)), ap (λ (w : MessageList). length w.messages) view)
