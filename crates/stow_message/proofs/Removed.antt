-- A block after a run of slots is taken out.
use Rattle.std.proofs.Common.{◌≡◌, ℕ, zero, suc, ◌+◌, ◌-◌, ◌*◌, ◌≤◌, List, [], ◌∷◌, ◌++◌, map, length, take, drop, sym, ap, subst, ◌∙◌, arith, length-append, length-take, length-drop, drop-drop}
use Rattle.std.proofs.lemmas.List.{length-map, map-append}
use Rattle.std.proofs.lemmas.List.Sums.{sum_by-cons, sum_by-append, sum_by-take-drop}
use Rattle.std.specs.List.{AllByRecursion, remove_range, sum_by, take-map, drop-map}
use Rattle.std.specs.declared.cmp.Ordering.TheVariants.{Less}
use Rattle.std.specs.List.Sorted.{IsStrictlySortedBy}
use Rattle.stow_tree_model.specs.TreeMessage.{TreeMessage}
use Rattle.stow_tree_model.specs.Order.{VersionPlace, place_cmp, place_of, MessagesRise}
use Rattle.stow_slots.specs.StowRaw.RawBuf.{RawLists, raw_lists, raw_used}
use Rattle.stow_message.specs.Packed.{message_size, message_at, BeginsWith}
use Rattle.stow_message.specs.MessageBuf.{MessageList, message_list, messages_in, IsPackedBuffer}

pub all_dropped : {X : Type 0} (P : X → Type 0) (xs : List X) (j : ℕ) → AllByRecursion P xs → AllByRecursion P (drop j xs)
all_dropped P xs zero h = h
all_dropped P [] (suc j) h = h
all_dropped P (x ∷ xs) (suc j) h = all_dropped P xs j h.1

pub all_removed : {X : Type 0} (P : X → Type 0) (xs : List X) (i j : ℕ) → i ≤ j → AllByRecursion P xs → AllByRecursion P (remove_range xs i j)
all_removed P xs zero j le h = all_dropped P xs j h
all_removed P [] (suc i) zero le h = tt
all_removed P [] (suc i) (suc j) le h = tt
all_removed P (x ∷ xs) (suc i) zero le h = absurd (omega arith)
all_removed P (x ∷ xs) (suc i) (suc j) le h = (h.0, all_removed P xs i j (omega arith) h.1)

map-removed : {X Y : Type 0} (f : X → Y) (xs : List X) (i j : ℕ) → map f (remove_range xs i j) ≡ remove_range (map f xs) i j
map-removed f xs i j = map-append f (take i xs) (drop j xs) ∙ (λ k. sym (take-map f i xs) k ++ sym (drop-map f j xs) k)

sorted_dropped : (ps : List VersionPlace) (j : ℕ) → IsStrictlySortedBy place_cmp ps → IsStrictlySortedBy place_cmp (drop j ps)
unfolding IsStrictlySortedBy
sorted_dropped ps zero h = h
sorted_dropped [] (suc j) h = h
sorted_dropped (p ∷ ps) (suc j) h = sorted_dropped ps j h.1

sorted_removed : (ps : List VersionPlace) (i j : ℕ) → i ≤ j → IsStrictlySortedBy place_cmp ps → IsStrictlySortedBy place_cmp (remove_range ps i j)
unfolding IsStrictlySortedBy
sorted_removed ps zero j le h = sorted_dropped ps j h
sorted_removed [] (suc i) zero le h = tt
sorted_removed [] (suc i) (suc j) le h = tt
sorted_removed (p ∷ ps) (suc i) zero le h = absurd (omega arith)
sorted_removed (p ∷ ps) (suc i) (suc j) le h = (all_removed (λ q. place_cmp p q ≡ Less) ps i j (omega arith) h.0, sorted_removed ps i j (omega arith) h.1)

-- what is left of a rising list still rises
pub rest_rises : (ms : List TreeMessage) (i j : ℕ) → i ≤ j → MessagesRise ms → MessagesRise (remove_range ms i j)
rest_rises ms i j le up = subst (IsStrictlySortedBy place_cmp) (sym (map-removed place_of ms i j)) (sorted_removed (map place_of ms) i j le up)

slots_in_sizes : (ms : List TreeMessage) → 4 * length ms ≤ sum_by message_size ms
slots_in_sizes [] = omega arith
slots_in_sizes (m ∷ ms) = omega (arith, slots_in_sizes ms, sum_by-cons message_size m ms)

-- the sizes of what is left and the slots of what went are within the sizes of all
pub rest_sizes : (ms : List TreeMessage) (i k : ℕ) → i + k ≤ length ms → sum_by message_size (remove_range ms i (i + k)) + 4 * k ≤ sum_by message_size ms
rest_sizes ms i k le = let mid = take k (drop i ms) in
    omega (
      arith,
      sum_by-append message_size (take i ms) (drop (i + k) ms),
      sum_by-take-drop message_size ms i,
      sum_by-take-drop message_size (drop i ms) k,
      ap (sum_by message_size) (drop-drop k i ms),
      slots_in_sizes mid,
      length-take k (drop i ms),
      length-drop i ms,
    )

module _ (raw : RawLists) (h : IsPackedBuffer raw) (i k : ℕ) (le : i + k ≤ length raw.slots) where
  abbrev pub removed : RawLists
  removed = raw_lists raw.front (remove_range raw.slots i (i + k)) raw.capacity

  pub removed_messages : messages_in removed ≡ remove_range (messages_in raw) i (i + k)
  removed_messages = map-removed (λ slot. message_at (drop slot raw.front)) raw.slots i (i + k)

  pub removed_used : raw_used removed + 4 * k ≡ raw_used raw
  removed_used = omega (arith, length-append (take i raw.slots) (drop (i + k) raw.slots), length-take i raw.slots, length-drop (i + k) raw.slots)

  pub removed_filled : IsPackedBuffer removed
  removed_filled = let long = length-map raw.slots (λ slot. message_at (drop slot raw.front)) in let less : i ≤ i + k = omega arith in record {
    whole = all_removed (λ slot. BeginsWith (drop slot raw.front)) raw.slots i (i + k) less h.whole;
    rising = subst MessagesRise (sym removed_messages) (rest_rises (messages_in raw) i (i + k) less h.rising);
    live = omega (arith, ap (sum_by message_size) removed_messages, rest_sizes (messages_in raw) i k (omega (arith, long)), h.live, removed_used);
    within = (omega (arith, removed_used, h.within), h.within.1);
  }

-- a block without a run of slots is a buffer without these messages
module _ (raw last : RawLists) (h : IsPackedBuffer raw) (i k : ℕ) (le : i + k ≤ length raw.slots) (is : last ≡ removed raw h i k le) where
  pub last_messages : messages_in last ≡ remove_range (messages_in raw) i (i + k)
  last_messages = ap messages_in is ∙ removed_messages raw h i k le

  pub last_filled : IsPackedBuffer last
  last_filled = subst IsPackedBuffer (sym is) (removed_filled raw h i k le)

  pub last_view : (v : MessageList) → message_list (messages_in raw) (raw_used raw) raw.capacity ≡ v
      → message_list (messages_in last) (raw_used last) last.capacity ≡ message_list (remove_range v.messages i (i + k)) (v.used - 4 * k) v.capacity
  last_view v view =
      let less : raw_used (removed raw h i k le) ≡ raw_used raw - 4 * k = omega (arith, removed_used raw h i k le) in
      ap (λ (r : RawLists). message_list (messages_in r) (raw_used r) r.capacity) is
      ∙ (λ j. message_list (removed_messages raw h i k le j) (less j) raw.capacity)
      ∙ ap (λ (w : MessageList). message_list (remove_range w.messages i (i + k)) (w.used - 4 * k) w.capacity) view
