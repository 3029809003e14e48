-- A block into which the messages of a run are put, in one pass over its slots.
use Rattle.std.proofs.Common.{◌≡◌, ℕ, zero, ◌+◌, ◌-◌, ◌*◌, ◌<◌, ◌≤◌, false, List, ◌∷◌, ◌++◌, map, length, take, drop, get_or, replicate, sym, ap, subst, ◌∙◌, arith, drop-drop, length-append, length-take, length-drop, take-append-drop}
use Rattle.std.proofs.Math.Seq.{take-add}
use Rattle.std.proofs.lemmas.List.{get_or-map, length-map, length-replicate, drop_at, drop_all, drop_more, take_at}
use Rattle.std.specs.Prelude.{slice_set}
use Rattle.std.specs.List.{All, AllByRecursion, sum_by, remove_range, drop-map}
use Rattle.stow_tree_model.specs.TreeMessage.{TreeMessage}
use Rattle.stow_tree_model.specs.Order.{place_of, MessagesRise}
use Rattle.stow_slots.specs.StowRaw.RawBuf.{RawLists, raw_lists, raw_used}
use Rattle.stow_message.specs.Packed.{message_bytes, message_size, IsMessage, message_at, BeginsWith, all_bytes, places_from}
use Rattle.stow_message.specs.MessageBuf.{MessageList, message_list, messages_in, messages_from, IsPackedBuffer, IsFilledFrom}
use Rattle.stow_message.specs.Rising.{is_first_below, below, all_placed, AreNew}
use Rattle.stow_message.proofs.Reading.{length-message_bytes}
use Rattle.stow_message.proofs.Pushed.{all_still_there, all_still_read, slots_of_messages}
use Rattle.stow_message.proofs.Placed.{itself, merged, map_merged, merged_is, merged_next, passes, all_merged, length-merged, all_placed_rises, all_other, sum-all_placed}
use Rattle.stow_message.proofs.Removed.{all_dropped, rest_rises}
use Rattle.stow_message.proofs.RisingLists.{all_by, below_within}
use Rattle.stow_message.proofs.Searched.{first_not_below}
use Rattle.stow_slots.proofs.Moved.{slot_moved}
use Rattle.stow_message.proofs.Squeezed.{length-places, place_is, all_bytes-more, all_sizes, places_read, places_begin, taken_within}
use Rattle.stow_message.proofs.Taken.{from_drop}

-- a list whose first part was written over is the same from a later place on
pub drop_after : (ps ss : List ℕ) (k i : ℕ) → k ≤ length ps → k ≤ i → drop i (take k ps ++ drop k ss) ≡ drop i ss
drop_after ps ss k i within le = let at : k + (i - k) ≡ i = omega (arith, le) in
    ap (λ n. drop n (take k ps ++ drop k ss)) (sym at) ∙ sym (drop-drop (i - k) k (take k ps ++ drop k ss))
    ∙ ap (drop (i - k)) (drop_at (take k ps) (drop k ss) k (omega (arith, length-take k ps))) ∙ drop-drop (i - k) k ss ∙ ap (λ n. drop n ss) at

long : (n : ℕ) → length (replicate n zero) ≡ n
long n = length-replicate n zero

-- the block, and the run whose messages come
module _ (raw : RawLists) (run : List TreeMessage) where
  abbrev pub front : List ℕ
  front = raw.front ++ all_bytes run

  abbrev pub at : ℕ → TreeMessage
  at slot = message_at (drop slot front)

  abbrev pub places : List ℕ
  places = places_from (length raw.front) run

  -- the slots, with a hole in front that is as wide as the run
  abbrev pub wide : List ℕ
  wide = replicate (length run) zero ++ raw.slots

  abbrev pub slots : List ℕ
  slots = merged at places raw.slots

  abbrev pub whole : RawLists
  whole = raw_lists front slots raw.capacity

  -- n messages of the run and the slots before o were written to the first k places
  pub record Merging (now : RawLists) (n o k here : ℕ) : Type 0 where
    pub raw_is : now ≡ raw_lists front (take k slots ++ drop k wide) raw.capacity
    pub rest : drop k slots ≡ merged at (drop n places) (drop o wide)
    pub here_is : here ≡ length raw.front + length (all_bytes (take n run))
    pub counts : k + length run ≡ n + o
    pub within : (n ≤ length run) × (length run ≤ o) × (o ≤ length run + length raw.slots)

  length-wide : length wide ≡ length run + length raw.slots
  length-wide = omega (arith, length-append (replicate (length run) zero) raw.slots, long (length run))

  length-slots : length slots ≡ length run + length raw.slots
  length-slots = omega (arith, length-merged at places raw.slots, length-places (length raw.front) run)

  old_ones : (o : ℕ) → length run ≤ o → drop o wide ≡ drop (o - length run) raw.slots
  old_ones o le = let there : length run + (o - length run) ≡ o = omega (arith, le) in
      ap (λ n. drop n wide) (sym there) ∙ sym (drop-drop (o - length run) (length run) wide)
      ∙ ap (drop (o - length run)) (drop_at (replicate (length run) zero) raw.slots (length run) (long (length run)))

  pub begun : (now : RawLists) → now ≡ raw_lists front wide raw.capacity → (here : ℕ) → here ≡ length raw.front → Merging now 0 (length run) 0 here
  begun now e here f = record {
    raw_is = e;
    rest = ap (merged at places) (sym (drop_at (replicate (length run) zero) raw.slots (length run) (long (length run))));
    here_is = omega (arith, f);
    counts = omega arith;
    within = (omega arith, omega arith, omega arith);
  }

  module _ (h : IsPackedBuffer raw) (ok : AllByRecursion IsMessage run) where
    pub begin_there : AllByRecursion (λ slot. BeginsWith (drop slot front)) slots
    begin_there = all_merged (λ slot. BeginsWith (drop slot front)) at places raw.slots (places_begin raw.front run ok) (all_still_there raw.front (all_bytes run) raw.slots h.whole)

    new_are : map at places ≡ run
    new_are = places_read raw.front run ok

    module _ (now : RawLists) (n o k here : ℕ) (w : Merging now n o k here) where
      k_within : k ≤ length slots
      k_within = omega (arith, length-slots, w.counts, w.within)

      same_old : drop o now.slots ≡ drop o wide
      same_old = ap (λ (r : RawLists). drop o r.slots) w.raw_is ∙ drop_after slots wide k o k_within (omega (arith, w.counts, w.within))

      pub old_begin : AllByRecursion (λ slot. BeginsWith (drop slot now.front)) (drop o now.slots)
      old_begin = subst (λ (p : List ℕ × List ℕ). AllByRecursion (λ slot. BeginsWith (drop slot p.0)) p.1) (sym (λ j. ((w.raw_is j).front, (same_old ∙ old_ones o w.within.1) j)))
          (all_dropped (λ slot. BeginsWith (drop slot front)) raw.slots (o - length run) (all_still_there raw.front (all_bytes run) raw.slots h.whole))

      pub slots_stay : length now.slots ≡ length run + length raw.slots
      slots_stay = omega (arith, ap (λ (r : RawLists). length r.slots) w.raw_is, length-append (take k slots) (drop k wide), length-take k slots, length-drop k wide, k_within, length-slots, length-wide)

      pub same_messages : messages_from now o ≡ map at (drop o wide)
      same_messages = λ j. map (λ slot. message_at (drop slot ((w.raw_is j).front))) (same_old j)

      pub old_rising : MessagesRise (messages_from now o)
      old_rising = let j = o - length run in
          subst MessagesRise (sym (same_messages ∙ ap (map at) (old_ones o w.within.1) ∙ sym (drop-map at j raw.slots) ∙ ap (drop j) (all_still_read raw.front (all_bytes run) raw.slots h.whole)))
          (rest_rises (messages_in raw) 0 j (omega arith) h.rising)

      pub front_stays : now.front ≡ front
      front_stays = ap (λ (r : RawLists). r.front) w.raw_is

      pub here_within : here ≤ length front
      here_within = omega (arith, w.here_is, taken_within run n, length-append raw.front (all_bytes run))

      module _ (lt : n < length run) (m : TreeMessage) (is : m ≡ get_or run n m) where
        place_within : n < length places
        place_within = omega (arith, lt, length-places (length raw.front) run)

        place_names : m ≡ at (get_or places n 0)
        place_names = is ∙ ap (λ l. get_or l n m) (sym new_are) ∙ get_or-map at places n 0 m place_within

        here_place : here ≡ get_or places n here
        here_place = omega (arith, w.here_is, place_is (length raw.front) run n here lt)

        written : (s : ℕ) (l : List ℕ) → drop k slots ≡ s ∷ l → (new : RawLists) → new ≡ raw_lists now.front (slice_set now.slots k s) now.capacity
            → (new ≡ raw_lists front (take (k + 1) slots ++ drop (k + 1) wide) raw.capacity) × (drop (k + 1) slots ≡ l)
        written s l e new g = let first = from_drop slots k s l e in (
          g ∙ ap (λ (r : RawLists). raw_lists r.front (slice_set r.slots k s) r.capacity) w.raw_is
              ∙ ap (λ x. raw_lists front x raw.capacity) (slot_moved slots wide k s first.0 (omega (arith, first.0, length-slots, length-wide)) first.1),
          first.2,
        )

        -- the slots of the block that stand below
        abbrev pub passed : ℕ
        passed = below (place_of m) (map at (drop o wide))

        few : passed ≤ length (drop o wide)
        few = omega (arith, below_within (place_of m) (map at (drop o wide)), length-map (drop o wide) at)

        rest_passed : drop k slots ≡ take passed (drop o wide) ++ merged at (drop n places) (drop (o + passed) wide)
        rest_passed = let x = get_or places n 0 in let more = drop_more places n 0 place_within in let olds = drop o wide in
            let same : passed ≡ below (place_of (at x)) (map at olds) = ap (λ (q : TreeMessage). below (place_of q) (map at olds)) place_names in
            w.rest ∙ ap (λ l. merged at l olds) more ∙ passes at x (merged at (drop (n + 1) places)) olds passed (omega (arith, same))
            ∙ (λ j. take passed olds ++ merged at (sym more j) (drop-drop passed o wide j))

        first_few : length (take passed (drop o wide)) ≡ passed
        first_few = omega (arith, length-take passed (drop o wide), few)

        slots_passed : take (k + passed) (take k slots ++ drop o wide) ≡ take (k + passed) slots
        slots_passed = let olds = drop o wide in let starts = take k slots in let long : length starts ≡ k = omega (arith, length-take k slots, k_within) in
            take-add k passed (starts ++ olds) ∙ (λ j. take_at starts olds k long j ++ take passed (drop_at starts olds k long j))
            ∙ ap (λ l. starts ++ l) (sym (ap (take passed) rest_passed ∙ take_at (take passed olds) (merged at (drop n places) (drop (o + passed) wide)) passed first_few))
            ∙ sym (take-add k passed slots)

        pub old_go : (new : RawLists) → new ≡ raw_lists now.front (take (k + passed) (remove_range now.slots k o) ++ drop (k + passed) now.slots) now.capacity → Merging new n (o + passed) (k + passed) here
        old_go new g = let starts = take k slots in let long : length starts ≡ k = omega (arith, length-take k slots, k_within) in
            let begin : take k now.slots ≡ starts = ap (λ (r : RawLists). take k r.slots) w.raw_is ∙ take_at starts (drop k wide) k long in
            let end : drop (k + passed) now.slots ≡ drop (k + passed) wide = ap (λ (r : RawLists). drop (k + passed) r.slots) w.raw_is ∙ drop_after slots wide k (k + passed) k_within (omega arith) in
            record {
              raw_is = g ∙ (λ j. raw_lists ((w.raw_is j).front) (take (k + passed) (begin j ++ same_old j) ++ end j) ((w.raw_is j).capacity))
                  ∙ ap (λ l. raw_lists front (l ++ drop (k + passed) wide) raw.capacity) slots_passed;
              rest = sym (drop-drop passed k slots) ∙ ap (drop passed) rest_passed ∙ drop_at (take passed (drop o wide)) (merged at (drop n places) (drop (o + passed) wide)) passed first_few;
              here_is = w.here_is;
              counts = omega (arith, w.counts);
              within = (w.within.0, omega (arith, w.within), omega (arith, few, length-drop o wide, length-wide, w.within));
            }

        -- the run's next message comes
        pub new_goes : false ≡ is_first_below m (map at (drop o wide)) → (new : RawLists) → new ≡ raw_lists now.front (slice_set now.slots k here) now.capacity
            → (there : ℕ) → there + 4 ≡ here + message_size m → Merging new (n + 1) o (k + 1) there
        new_goes t new g there e = let place : get_or places n 0 ≡ here = omega (arith, w.here_is, place_is (length raw.front) run n 0 lt) in
            let on = w.rest ∙ merged_next at places wide n o 0 m false place_within place_names t ∙ ap (λ x. x ∷ merged at (drop (n + 1) places) (drop o wide)) place in
            let both = written here (merged at (drop (n + 1) places) (drop o wide)) on new g in
            let more : all_bytes (take (n + 1) run) ≡ all_bytes (take n run) ++ message_bytes m = all_bytes-more run n m lt is in
            record {
              raw_is = both.0;
              rest = both.1;
              here_is = omega (arith, e, w.here_is, ap length more, length-append (all_bytes (take n run)) (message_bytes m), length-message_bytes m);
              counts = omega (arith, w.counts);
              within = (omega (arith, lt), w.within.1, w.within.2);
            }

      -- once the run's messages are all there the other slots are at their places
      pub whole_is : length run ≤ n → now ≡ whole
      whole_is le = let same : k ≡ o = omega (arith, w.counts, w.within, le) in
          w.raw_is ∙ ap (λ l. raw_lists front (take k slots ++ l) raw.capacity) (ap (λ i. drop i wide) same ∙ ap (λ l. merged at l (drop o wide)) (sym (drop_all n places (omega (arith, le, length-places (length raw.front) run)))) ∙ sym w.rest)
          ∙ ap (λ l. raw_lists front l raw.capacity) (take-append-drop k slots)

    module _ (rise : MessagesRise run) (new : AreNew run (messages_in raw)) where
      pub whole_messages : messages_in whole ≡ all_placed run (messages_in raw)
      whole_messages = map_merged at places raw.slots ∙ (λ j. merged itself (new_are j) (all_still_read raw.front (all_bytes run) raw.slots h.whole j)) ∙ merged_is run (messages_in raw) rise

      pub whole_used : raw_used whole ≡ raw_used raw + sum_by message_size run
      whole_used = omega (arith, length-append raw.front (all_bytes run), length-slots, all_sizes run)

      pub whole_filled : raw_used raw + sum_by message_size run ≤ raw.capacity → IsPackedBuffer whole
      whole_filled fits = record {
        whole = begin_there;
        rising = subst MessagesRise (sym whole_messages) (all_placed_rises run (messages_in raw) rise h.rising (all_other run (messages_in raw) new));
        live = omega (arith, ap (sum_by message_size) whole_messages, sum-all_placed run (messages_in raw), h.live, whole_used);
        within = (omega (arith, whole_used, fits), h.within.1);
      }

-- the same of a buffer that was seen as v
pub record Filling (v : MessageList) (run : List TreeMessage) (now : RawLists) (n o k here : ℕ) : Type 0 where
  pub raw : RawLists
  pub filled : IsPackedBuffer raw
  pub seen : message_list (messages_in raw) (raw_used raw) raw.capacity ≡ v
  pub merging : Merging raw run now n o k here

module _ (v : MessageList) (run : List TreeMessage) (room : v.used + sum_by message_size run ≤ v.capacity) (valid : All IsMessage run) where
  ok : AllByRecursion IsMessage run
  ok = all_by IsMessage run valid

  pub filling : (raw : RawLists) → IsPackedBuffer raw → message_list (messages_in raw) (raw_used raw) raw.capacity ≡ v → (r₁ r₂ : RawLists) → r₁ ≡ raw_lists (raw.front ++ all_bytes run) raw.slots raw.capacity
      → (n : ℕ) → n ≡ length run → r₂ ≡ raw_lists r₁.front (replicate n 0 ++ r₁.slots) r₁.capacity → (here : ℕ) → here ≡ length raw.front → Filling v run r₂ 0 n 0 here
  filling raw h seen r₁ r₂ e n is f here g = record {
    raw = raw;
    filled = h;
    seen = seen;
    merging = subst (λ o. Merging raw run r₂ 0 o 0 here) (sym is) (begun raw run r₂ (f ∙ (λ j. raw_lists (e j).front (replicate (is j) 0 ++ (e j).slots) (e j).capacity)) here g);
  }

  module _ (now : RawLists) (n o k here : ℕ) (w : Filling v run now n o k here) where
    same_used : raw_used w.raw ≡ v.used
    same_used = ap (λ (l : MessageList). l.used) w.seen

    same_capacity : w.raw.capacity ≡ v.capacity
    same_capacity = ap (λ (l : MessageList). l.capacity) w.seen

    same_count : length w.raw.slots ≡ length v.messages
    same_count = sym (slots_of_messages w.raw) ∙ ap (λ (l : MessageList). length l.messages) w.seen

    pub slots_now : length now.slots ≡ length run + length v.messages
    slots_now = omega (arith, slots_stay w.raw run w.filled ok now n o k here w.merging, same_count)

    pub front_small : length now.front + 4 * (length run + length v.messages) < 4294967296
    front_small = omega (
      arith,
      ap length (front_stays w.raw run w.filled ok now n o k here w.merging),
      length-append w.raw.front (all_bytes run),
      all_sizes run,
      same_used,
      same_capacity,
      same_count,
      room,
      w.filled.within.1,
    )

    pub here_small : here < 4294967296
    here_small = omega (arith, here_within w.raw run w.filled ok now n o k here w.merging, ap length (front_stays w.raw run w.filled ok now n o k here w.merging), front_small)

    pub old_within : o ≤ length now.slots
    old_within = omega (arith, slots_now, same_count, w.merging.within)

    pub place_here : (k + length run ≡ n + o) × (n ≤ length run) × (length run ≤ o)
    place_here = (w.merging.counts, w.merging.within.0, w.merging.within.1)

    pub filled_here : IsFilledFrom now o
    filled_here = record {
      whole = old_begin w.raw run w.filled ok now n o k here w.merging;
      rising = old_rising w.raw run w.filled ok now n o k here w.merging;
      small = omega (arith, front_small, slots_now);
    }

    -- the slots below the run's next message go before it, and it comes
    module _ (lt : n < length run) (m : TreeMessage) (is : m ≡ get_or run n m) (end : ℕ) (e : end ≡ o + below (place_of m) (messages_from now o)) where
      abbrev olds : List ℕ
      olds = drop o (wide w.raw run)

      abbrev count : ℕ
      count = passed w.raw run w.filled ok now n o k here w.merging lt m is

      end_is : end ≡ o + count
      end_is = e ∙ ap (λ l. o + below (place_of m) l) (same_messages w.raw run w.filled ok now n o k here w.merging)

      test : false ≡ is_first_below m (map (at w.raw run) (drop (o + count) (wide w.raw run)))
      test = first_not_below m (map (at w.raw run) olds) ∙ ap (is_first_below m) (drop-map (at w.raw run) count olds ∙ ap (map (at w.raw run)) (drop-drop count o (wide w.raw run)))

      pub end_within : (o ≤ end) × (end ≤ length now.slots) × (end + n ≤ k + end + length run)
      end_within = (omega (arith, end_is), omega (arith, end_is, few w.raw run w.filled ok now n o k here w.merging lt m is, length-drop o (wide w.raw run), length-wide w.raw run, same_count, slots_now, w.merging.within), omega (arith, w.merging.within))

      pub next : (to c : ℕ) → to ≡ k → c ≡ end - o → (moved : RawLists) → moved ≡ raw_lists now.front (take (to + c) (remove_range now.slots to o) ++ drop (to + c) now.slots) now.capacity
          → (i : ℕ) → i ≡ k + c → (new : RawLists) → new ≡ raw_lists moved.front (slice_set moved.slots i here) moved.capacity
          → (there : ℕ) → there + 4 ≡ here + message_size m → (k₂ : ℕ) → k₂ ≡ k + c + 1 → Filling v run new (n + 1) end k₂ there
      next to c start size moved g i place new f there after k₂ last =
          let many : c ≡ count = omega (arith, size, end_is) in
          let went = old_go w.raw run w.filled ok now n o k here w.merging lt m is moved
          (g ∙ (λ j. raw_lists now.front (take (start j + many j) (remove_range now.slots (start j) o) ++ drop (start j + many j) now.slots) now.capacity)) in
          let came = new_goes w.raw run w.filled ok moved n (o + count) (k + count) here went lt m is test new
          (f ∙ (λ j. raw_lists moved.front (slice_set moved.slots ((place ∙ ap (λ x. k + x) many) j) here) moved.capacity)) there after in
          let last_is : k + count + 1 ≡ k₂ = omega (arith, last, many) in
          record { raw = w.raw; filled = w.filled; seen = w.seen; merging = subst (λ (p : ℕ × ℕ). Merging w.raw run new (n + 1) p.0 p.1 there) (λ j. (sym end_is j, last_is j)) came }

    module _ (rise : MessagesRise run) (new : AreNew run v.messages) (past : length run ≤ n) where
      are_new : AreNew run (messages_in w.raw)
      are_new = subst (λ (l : MessageList). AreNew run l.messages) (sym w.seen) new

      is_whole : now ≡ whole w.raw run
      is_whole = whole_is w.raw run w.filled ok now n o k here w.merging past

      pub now_filled : IsPackedBuffer now
      now_filled = subst IsPackedBuffer (sym is_whole) (whole_filled w.raw run w.filled ok rise are_new (omega (arith, same_used, same_capacity, room)))

      pub now_seen : message_list (messages_in now) (raw_used now) now.capacity ≡ message_list (all_placed run v.messages) (v.used + sum_by message_size run) v.capacity
      now_seen = ap (λ (r : RawLists). message_list (messages_in r) (raw_used r) r.capacity) is_whole
          ∙ (λ j. message_list (whole_messages w.raw run w.filled ok rise are_new j) (whole_used w.raw run w.filled ok rise are_new j) w.raw.capacity)
          ∙ ap (λ (l : MessageList). message_list (all_placed run l.messages) (l.used + sum_by message_size run) l.capacity) w.seen
