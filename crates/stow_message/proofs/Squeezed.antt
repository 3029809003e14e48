-- A block whose messages stand one after another.
use Rattle.std.proofs.Common.{◌≡◌, ℕ, zero, suc, ◌+◌, ◌*◌, ◌<◌, ◌≤◌, List, [], ◌∷◌, ◌++◌, map, length, take, drop, set, get_or, refl, sym, ap, subst, ◌∙◌, arith, length-append, length-take, length-drop, append_assoc, take_all}
use Rattle.std.proofs.lemmas.List.{append-nil, drop_at, take_more, drop_all}
use Rattle.std.proofs.lemmas.List.Sums.{sum_by-cons}
use Rattle.std.specs.List.{All, AllByRecursion, sum_by}
use Rattle.stow_tree_model.specs.TreeMessage.{TreeMessage}
use Rattle.stow_tree_model.specs.Order.{MessagesRise}
use Rattle.stow_slots.specs.StowRaw.RawBuf.{RawLists, raw_lists, raw_used}
use Rattle.stow_message.specs.Packed.{message_bytes, message_size, IsMessage, message_at, BeginsWith, all_bytes, places_from}
use Rattle.stow_message.specs.MessageBuf.{MessageList, message_list, messages_in, IsPackedBuffer}
use Rattle.stow_message.proofs.Reading.{length-message_bytes, message_read}
use Rattle.stow_message.proofs.RisingLists.{all_by}
use Rattle.stow_message.proofs.Stored.{filled_at, filled_valid, message_there, read_is}
use Rattle.stow_slots.proofs.Moved.{slot_moved, slot_after}
use Rattle.stow_message.proofs.Pushed.{slots_of_messages}

pub length-places : (at : ℕ) (ms : List TreeMessage) → length (places_from at ms) ≡ length ms
length-places at [] = refl
length-places at (m ∷ ms) = ap suc (length-places (at + length (message_bytes m)) ms)

-- the place of the k-th is after those before it
pub place_is : (at : ℕ) (ms : List TreeMessage) (k d : ℕ) → k < length ms → get_or (places_from at ms) k d ≡ at + length (all_bytes (take k ms))
place_is at [] k d lt = absurd (omega arith)
place_is at (m ∷ ms) zero d lt = omega arith
place_is at (m ∷ ms) (suc k) d lt = let on = place_is (at + length (message_bytes m)) ms k d (omega arith) in omega (arith, on, length-append (message_bytes m) (all_bytes (take k ms)))

pub all_bytes-push : (ms : List TreeMessage) (m : TreeMessage) → all_bytes (ms ++ m ∷ []) ≡ all_bytes ms ++ message_bytes m
all_bytes-push [] m = append-nil (message_bytes m)
all_bytes-push (n ∷ ns) m = ap (λ l. message_bytes n ++ l) (all_bytes-push ns m) ∙ sym (append_assoc (message_bytes n) (all_bytes ns) (message_bytes m))

pub all_bytes-more : (ms : List TreeMessage) (k : ℕ) (m : TreeMessage) → k < length ms → m ≡ get_or ms k m → all_bytes (take (k + 1) ms) ≡ all_bytes (take k ms) ++ message_bytes m
all_bytes-more ms k m lt is = ap all_bytes (take_more ms k m lt ∙ ap (λ n. take k ms ++ n ∷ []) (sym is)) ∙ all_bytes-push (take k ms) m

pub all_sizes : (ms : List TreeMessage) → length (all_bytes ms) + 4 * length ms ≡ sum_by message_size ms
all_sizes [] = refl
all_sizes (m ∷ ms) = omega (arith, all_sizes ms, length-append (message_bytes m) (all_bytes ms), length-message_bytes m, sum_by-cons message_size m ms)

module _ (pre : List ℕ) (m : TreeMessage) (ms : List TreeMessage) where
  here : drop (length pre) (pre ++ all_bytes (m ∷ ms)) ≡ message_bytes m ++ all_bytes ms
  here = drop_at pre (all_bytes (m ∷ ms)) (length pre) refl

  next_front : pre ++ all_bytes (m ∷ ms) ≡ (pre ++ message_bytes m) ++ all_bytes ms
  next_front = sym (append_assoc pre (message_bytes m) (all_bytes ms))

  next_place : length pre + length (message_bytes m) ≡ length (pre ++ message_bytes m)
  next_place = sym (length-append pre (message_bytes m))

pub places_read : (pre : List ℕ) (ms : List TreeMessage) → AllByRecursion IsMessage ms → map (λ slot. message_at (drop slot (pre ++ all_bytes ms))) (places_from (length pre) ms) ≡ ms
places_read pre [] ok = refl
places_read pre (m ∷ ms) ok = λ i.
    (ap message_at (here pre m ms) ∙ message_read m (all_bytes ms) ok.0) i
    ∷ ((λ j. map (λ slot. message_at (drop slot (next_front pre m ms j))) (places_from (next_place pre m ms j) ms)) ∙ places_read (pre ++ message_bytes m) ms ok.1) i

pub places_begin : (pre : List ℕ) (ms : List TreeMessage) → AllByRecursion IsMessage ms → AllByRecursion (λ slot. BeginsWith (drop slot (pre ++ all_bytes ms))) (places_from (length pre) ms)
places_begin pre [] ok = tt
places_begin pre (m ∷ ms) ok = (
  record { message = m; rest = all_bytes ms; is_message = ok.0; is = here pre m ms },
  subst (λ (p : List ℕ × ℕ). AllByRecursion (λ slot. BeginsWith (drop slot p.0)) (places_from p.1 ms)) (sym (λ j. (next_front pre m ms j, next_place pre m ms j))) (places_begin (pre ++ message_bytes m) ms ok.1),
)

-- the block that holds these messages and no dead byte
abbrev pub squeezed : List TreeMessage → ℕ → RawLists
squeezed ms capacity = raw_lists (all_bytes ms) (places_from 0 ms) capacity

pub squeezed_messages : (ms : List TreeMessage) (capacity : ℕ) → AllByRecursion IsMessage ms → messages_in (squeezed ms capacity) ≡ ms
squeezed_messages ms capacity ok = places_read [] ms ok

pub squeezed_used : (ms : List TreeMessage) (capacity : ℕ) → raw_used (squeezed ms capacity) ≡ sum_by message_size ms
squeezed_used ms capacity = omega (arith, all_sizes ms, length-places 0 ms)

pub squeezed_filled : (ms : List TreeMessage) (capacity : ℕ) → AllByRecursion IsMessage ms → MessagesRise ms → sum_by message_size ms ≤ capacity → capacity < 4294967296 → IsPackedBuffer (squeezed ms capacity)
squeezed_filled ms capacity ok up fits small = record {
  whole = places_begin [] ms ok;
  rising = subst MessagesRise (sym (squeezed_messages ms capacity ok)) up;
  live = omega (arith, ap (sum_by message_size) (squeezed_messages ms capacity ok), squeezed_used ms capacity);
  within = (omega (arith, squeezed_used ms capacity), small);
}

pub taken_within : (ms : List TreeMessage) (k : ℕ) → length (all_bytes (take k ms)) ≤ length (all_bytes ms)
taken_within ms zero = omega arith
taken_within [] (suc k) = omega arith
taken_within (m ∷ ms) (suc k) = omega (arith, taken_within ms k, length-append (message_bytes m) (all_bytes (take k ms)), length-append (message_bytes m) (all_bytes ms))

-- while a block of the messages ms is squeezed: k of them are in the spare block, and their slots name their new places
module _ (raw : RawLists) (h : IsPackedBuffer raw) (ms : List TreeMessage) (are : messages_in raw ≡ ms) (k : ℕ) where
  counts : length ms ≡ length raw.slots
  counts = ap length (sym are) ∙ slots_of_messages raw

  abbrev halfway : RawLists
  halfway = raw_lists raw.front (take k (places_from 0 ms) ++ drop k raw.slots) raw.capacity

  pub bytes_fit : length (all_bytes ms) + 4 * length ms ≤ raw.capacity
  bytes_fit = omega (arith, all_sizes ms, ap (sum_by message_size) are, h.live, h.within)

  module _ (now : RawLists) (e : now ≡ halfway) where
    pub slots_long : k ≤ length raw.slots → length now.slots ≡ length raw.slots
    slots_long le = omega (arith, ap (λ (r : RawLists). length r.slots) e, length-append (take k (places_from 0 ms)) (drop k raw.slots), length-take k (places_from 0 ms), length-drop k raw.slots, length-places 0 ms, counts)

    module _ (lt : k < length raw.slots) where
      pub next_slot : (at : ℕ) → at ≡ get_or now.slots k 0 → at ≡ get_or raw.slots k 0
      next_slot at f = f ∙ ap (λ (r : RawLists). get_or r.slots k 0) e ∙ slot_after (places_from 0 ms) raw.slots k k 0 (omega (arith, length-places 0 ms, counts, lt)) (omega arith) lt

      pub next_begins : (at : ℕ) → at ≡ get_or now.slots k 0 → BeginsWith (drop at now.front)
      next_begins at f = subst (λ (r : RawLists). BeginsWith (drop at r.front)) (sym e) (filled_at raw h k lt at (next_slot at f))

      pub next_message : (at : ℕ) → at ≡ get_or now.slots k 0 → (m : TreeMessage) → m ≡ message_at (drop at now.front) → m ≡ get_or ms k m
      next_message at f m g = let slot = next_slot at f in
          g ∙ ap (λ (r : RawLists). message_at (drop at r.front)) e ∙ read_is raw.front at (filled_at raw h k lt at slot) ∙ sym (message_there raw h k lt at slot m) ∙ ap (λ l. get_or l k m) are

      pub more_bytes : (m : TreeMessage) → m ≡ get_or ms k m → all_bytes (take k ms) ++ message_bytes m ≡ all_bytes (take (k + 1) ms)
      more_bytes m g = sym (all_bytes-more ms k m (omega (arith, lt, counts)) g)

      pub more_slots : (next : RawLists) (at : ℕ) → next ≡ raw_lists now.front (set now.slots k at) now.capacity → at ≡ length (all_bytes (take k ms))
          → next ≡ raw_lists raw.front (take (k + 1) (places_from 0 ms) ++ drop (k + 1) raw.slots) raw.capacity
      more_slots next at f g = let here : at ≡ get_or (places_from 0 ms) k at = omega (arith, g, place_is 0 ms k at (omega (arith, counts))) in
          f ∙ (λ j. raw_lists (e j).front (set (e j).slots k at) (e j).capacity) ∙ ap (λ l. raw_lists raw.front l raw.capacity) (slot_moved (places_from 0 ms) raw.slots k at (omega (arith, length-places 0 ms, counts, lt)) lt here)

    pub all_moved : length raw.slots ≤ k → now.slots ≡ places_from 0 ms
    all_moved le = ap (λ (r : RawLists). r.slots) e
        ∙ (λ j. take_all k (places_from 0 ms) (omega (arith, length-places 0 ms, counts)) j ++ drop_all k raw.slots le j) ∙ append-nil (places_from 0 ms)

-- a turn of a squeeze: the message at k is read at its old place, and goes to the spare block
pub record Turn (raw now spare : RawLists) (v : MessageList) (k size : ℕ) : Type 0 where
  pub slot : k < length now.slots
  pub small : length now.front < 4294967296
  pub place : length spare.front < 4294967296
  pub begins : (at : ℕ) → at ≡ get_or now.slots k 0 → BeginsWith (drop at now.front)
  pub room : (at : ℕ) → at ≡ get_or now.slots k 0 → (m : TreeMessage) → m ≡ message_at (drop at now.front) → v.capacity ≤ size
      → raw_used spare + length (message_bytes m) ≤ spare.capacity
  pub bytes : (at : ℕ) → at ≡ get_or now.slots k 0 → (m : TreeMessage) → m ≡ message_at (drop at now.front) → (next : RawLists)
      → next ≡ raw_lists (spare.front ++ message_bytes m) spare.slots spare.capacity → next ≡ raw_lists (all_bytes (take (k + 1) v.messages)) [] size
  pub more : k < length v.messages
  pub there : (at : ℕ) → at ≡ get_or now.slots k 0 → (m : TreeMessage) → m ≡ message_at (drop at now.front) → m ≡ get_or v.messages k m
  pub slots : (place : ℕ) → place ≡ length spare.front → (next : RawLists) → next ≡ raw_lists now.front (set now.slots k place) now.capacity
      → next ≡ raw_lists raw.front (take (k + 1) (places_from 0 v.messages) ++ drop (k + 1) raw.slots) raw.capacity

-- the end of a squeeze: the front of the spare block comes to the slots
pub record End (now spare : RawLists) (v : MessageList) : Type 0 where
  pub room : length spare.front + 4 * length now.slots ≤ now.capacity
  pub filled : (last : RawLists) → last ≡ raw_lists spare.front now.slots now.capacity → IsPackedBuffer last
  pub is : (last : RawLists) → last ≡ raw_lists spare.front now.slots now.capacity
      → message_list (messages_in last) (raw_used last) last.capacity ≡ message_list v.messages (sum_by message_size v.messages) v.capacity

module _ (raw : RawLists) (h : IsPackedBuffer raw) (v : MessageList) (view : message_list (messages_in raw) (raw_used raw) raw.capacity ≡ v) where
  abbrev ms : List TreeMessage
  ms = v.messages

  are : messages_in raw ≡ ms
  are = ap (λ (w : MessageList). w.messages) view

  capacity_is : raw.capacity ≡ v.capacity
  capacity_is = ap (λ (w : MessageList). w.capacity) view

  module _ (k : ℕ) (now : RawLists) (e : now ≡ raw_lists raw.front (take k (places_from 0 ms) ++ drop k raw.slots) raw.capacity) (spare : RawLists) (size : ℕ) (s : spare ≡ raw_lists (all_bytes (take k ms)) [] size) where
    pub turn : k < length raw.slots → Turn raw now spare v k size
    turn lt =
        let fit = bytes_fit raw h ms are k in
        let reads = λ (at : ℕ) (f : at ≡ get_or now.slots k 0) (m : TreeMessage) (g : m ≡ message_at (drop at now.front)). more_bytes raw h ms are k now e lt m (next_message raw h ms are k now e lt at f m g) in
        record {
          slot = omega (arith, slots_long raw h ms are k now e (omega arith), lt);
          small = omega (arith, ap (λ (r : RawLists). length r.front) e, h.within);
          place = omega (arith, ap (λ (r : RawLists). length r.front) s, taken_within ms k, fit, h.within);
          begins = λ at f. next_begins raw h ms are k now e lt at f;
          room = λ at f m g more. omega (arith, ap raw_used s, ap (λ (r : RawLists). r.capacity) s, length-append (all_bytes (take k ms)) (message_bytes m), ap length (reads at f m g), taken_within ms (k + 1), fit, capacity_is, more);
          bytes = λ at f m g next i. i ∙ (λ j. raw_lists ((s j).front ++ message_bytes m) (s j).slots (s j).capacity) ∙ ap (λ l. raw_lists l [] size) (reads at f m g);
          more = omega (arith, lt, counts raw h ms are k);
          there = next_message raw h ms are k now e lt;
          slots = λ place f next i. more_slots raw h ms are k now e lt next place i (f ∙ ap (λ (r : RawLists). length r.front) s);
        }

    module _ (past : length raw.slots ≤ k) where
      front_is : spare.front ≡ all_bytes ms
      front_is = ap (λ (r : RawLists). r.front) s ∙ ap all_bytes (take_all k ms (omega (arith, past, ap length are, slots_of_messages raw)))

      last_is : (last : RawLists) → last ≡ raw_lists spare.front now.slots now.capacity → last ≡ squeezed ms raw.capacity
      last_is last i = i ∙ (λ j. raw_lists (front_is j) (all_moved raw h ms are k now e past j) (e j).capacity)

      valid : AllByRecursion IsMessage ms
      valid = all_by IsMessage ms (subst (All IsMessage) are (filled_valid raw h))

      squeezed_whole : IsPackedBuffer (squeezed ms raw.capacity)
      squeezed_whole = squeezed_filled ms raw.capacity valid (subst MessagesRise are h.rising) (omega (arith, h.live, ap (sum_by message_size) are, h.within)) h.within.1

      pub end : End now spare v
      end = record {
        room = omega (arith, ap length front_is, ap length (all_moved raw h ms are k now e past), length-places 0 ms, ap (λ (r : RawLists). r.capacity) e, bytes_fit raw h ms are k);
        filled = λ last i. subst IsPackedBuffer (sym (last_is last i)) squeezed_whole;
        is = λ last i. ap (λ (r : RawLists). message_list (messages_in r) (raw_used r) r.capacity) (last_is last i)
            ∙ (λ j. message_list (squeezed_messages ms raw.capacity valid j) (squeezed_used ms raw.capacity j) (capacity_is j));
      }
