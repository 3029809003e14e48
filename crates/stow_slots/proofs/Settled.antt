-- Young slots come to the older ones, the first ones first.
use Rattle.std.proofs.Common.{◌≡◌, ℕ, ◌+◌, ◌-◌, ◌<◌, ◌≤◌, List, [], ◌∷◌, ◌++◌, length, take, drop, set, replicate, get_or, refl, sym, ap, subst, ◌∙◌, arith, length-append, length-take, length-drop, append_assoc, take_at, drop_at, drop-drop, take-append-drop}
use Rattle.std.proofs.lemmas.List.{length-replicate, drop_more, drop_all, set_at}
use Rattle.std.proofs.Math.Seq.{drop-append-add, take-append-add}
use Rattle.std.specs.Prelude.{slice_set}
use Rattle.std.specs.List.{remove_range}
use Rattle.stow_raw.specs.RawBuf.{RawLists, raw_lists}
use Rattle.stow_slots.specs.Young.{merged_from, merged, AreRising, IsYoung, all_lists}
use Rattle.stow_slots.specs.declared.young_slot.YoungSlot.{YoungSlot}
use Rattle.stow_slots.proofs.Merged.{AreAmong}

-- so many young ones stand in their places, and past so many of the older ones the places of those left are before the rest
pub record IsSettling (raw now : RawLists) (young : List YoungSlot) (past i : ℕ) : Type 0 where
  pub placed : List ℕ
  pub gap : List ℕ
  pub slots : now.slots ≡ placed ++ (gap ++ drop past raw.slots)
  pub placed_are : length placed ≡ past + i
  pub gap_is : length gap + i ≡ length young
  pub rest : placed ++ merged_from past (drop past raw.slots) (drop i young) ≡ merged raw.slots young
  pub rising : AreRising past (drop i young)
  pub among : AreAmong (length raw.slots) (drop i young)
  pub within : past ≤ length raw.slots
  pub front : now.front ≡ raw.front
  pub capacity : now.capacity ≡ raw.capacity

-- the block as it was before slots were added
abbrev pub unadded : RawLists → ℕ → RawLists
unadded now count = raw_lists now.front (drop count now.slots) now.capacity

pub unadded_is : (raw now : RawLists) (count : ℕ) → now ≡ raw_lists raw.front (replicate count 0 ++ raw.slots) raw.capacity → unadded now count ≡ raw
unadded_is raw now count added = ap (λ (r : RawLists). unadded r count) added ∙ ap (λ l. raw_lists raw.front l raw.capacity) (drop_at (replicate {A = ℕ} count 0) raw.slots count (length-replicate {A = ℕ} count 0))

pub begun : (raw now : RawLists) (young : List YoungSlot) (count : ℕ) → IsYoung raw young → count ≡ length young → now ≡ raw_lists raw.front (replicate count 0 ++ raw.slots) raw.capacity → IsSettling raw now young 0 0
begun raw now young count h is added = record {
  placed = [];
  gap = replicate count 0;
  slots = ap (λ (r : RawLists). r.slots) added;
  placed_are = omega arith;
  gap_is = omega (arith, length-replicate {A = ℕ} count 0, is);
  rest = refl;
  rising = h.rising;
  among = h.among;
  within = omega arith;
  front = ap (λ (r : RawLists). r.front) added;
  capacity = ap (λ (r : RawLists). r.capacity) added;
}

module _ (raw now : RawLists) (young : List YoungSlot) (past i : ℕ) (w : IsSettling raw now young past i) where
  pub counts : length now.slots ≡ length raw.slots + length young
  counts = omega (arith, ap length w.slots, length-append w.placed (w.gap ++ drop past raw.slots), length-append w.gap (drop past raw.slots), length-drop past raw.slots, w.placed_are, w.gap_is, w.within)

  -- all have come
  pub all_settled : length young ≤ i → now ≡ all_lists raw young
  unfolding merged_from
  all_settled le = λ j. raw_lists (w.front j) (same j) (w.capacity j) where
    no_gap : w.gap ≡ []
    no_gap = drop_all_of w.gap (omega (arith, w.gap_is, le)) where
      drop_all_of : (xs : List ℕ) → length xs ≡ 0 → xs ≡ []
      drop_all_of [] e = refl
      drop_all_of (x ∷ xs) e = absurd (omega (arith, e))

    same : now.slots ≡ merged raw.slots young
    same = w.slots ∙ ap (λ g. w.placed ++ (g ++ drop past raw.slots)) no_gap
        ∙ ap (λ l. w.placed ++ l) (sym (ap (merged_from past (drop past raw.slots)) (drop_all i young le))) ∙ w.rest

  module _ (lt : i < length young) (next : YoungSlot) (is_next : next ≡ get_or young i next) where
    abbrev old : List ℕ
    old = drop past raw.slots

    abbrev by : ℕ
    by = next.behind - past

    there : drop i young ≡ next ∷ drop (i + 1) young
    there = drop_more young i next lt ∙ ap (λ y. y ∷ drop (i + 1) young) (sym is_next)

    pub low : past ≤ next.behind
    unfolding AreRising
    low = (subst (AreRising past) there w.rising).0

    rises : AreRising next.behind (drop (i + 1) young)
    unfolding AreRising
    rises = (subst (AreRising past) there w.rising).1

    pub high : next.behind ≤ length raw.slots
    high = (subst (AreAmong (length raw.slots)) there w.among).0

    old_length : length old ≡ length raw.slots - past
    old_length = length-drop past raw.slots

    -- once the older ones before it have come down
    abbrev come_down : List ℕ
    come_down = take (past + i + by) (remove_range now.slots (past + i) (length young + past)) ++ drop (past + i + by) now.slots

    lows : take (past + i) now.slots ≡ w.placed
    lows = ap (take (past + i)) w.slots ∙ take_at w.placed (w.gap ++ old) (past + i) w.placed_are

    highs : drop (length young + past) now.slots ≡ old
    highs = let at : length young + past ≡ length w.placed + length w.gap = omega (arith, w.placed_are, w.gap_is) in
        (λ j. drop (at j) (w.slots j)) ∙ sym (drop-drop (length w.gap) (length w.placed) (w.placed ++ (w.gap ++ old)))
        ∙ ap (drop (length w.gap)) (drop_at w.placed (w.gap ++ old) (length w.placed) refl) ∙ drop_at w.gap old (length w.gap) refl

    down : come_down ≡ (w.placed ++ take by old) ++ drop by (w.gap ++ old)
    down = let at : past + i + by ≡ length w.placed + by = omega (arith, w.placed_are) in
        (λ j. take (at j) (lows j ++ highs j) ++ drop (at j) (w.slots j))
        ∙ (λ j. take-append-add w.placed old by j ++ drop-append-add w.placed (w.gap ++ old) by j)

    -- what is left of the gap
    abbrev left : List ℕ
    left = take (length w.gap - 1) (drop (by + 1) (w.gap ++ old))

    some_gap : 1 ≤ length w.gap
    some_gap = omega (arith, w.gap_is, lt)

    long : length (w.gap ++ old) ≡ length w.gap + (length raw.slots - past)
    long = omega (arith, length-append w.gap old, old_length)

    past_it : drop (by + 1) (w.gap ++ old) ≡ left ++ drop next.behind raw.slots
    past_it = let at : by + 1 + (length w.gap - 1) ≡ length w.gap + by = omega (arith, some_gap) in let on : past + by ≡ next.behind = omega (arith, low) in
        sym (take-append-drop (length w.gap - 1) (drop (by + 1) (w.gap ++ old)))
        ∙ ap (λ l. left ++ l) (drop-drop (length w.gap - 1) (by + 1) (w.gap ++ old) ∙ ap (λ k. drop k (w.gap ++ old)) at ∙ drop-append-add w.gap old by ∙ drop-drop by past raw.slots ∙ ap (λ k. drop k raw.slots) on)

    abbrev placed_more : List ℕ
    placed_more = (w.placed ++ take by old) ++ next.slot ∷ []

    put : slice_set come_down (next.behind + i) next.slot ≡ placed_more ++ (left ++ drop next.behind raw.slots)
    put = let at : length (w.placed ++ take by old) ≡ next.behind + i = omega (arith, length-append w.placed (take by old), length-take by old, old_length, w.placed_are, low, high) in
        ap (λ l. set l (next.behind + i) next.slot) (down ∙ ap (λ l. (w.placed ++ take by old) ++ l) (drop_more (w.gap ++ old) by 0 (omega (arith, long, some_gap, high, low))))
        ∙ set_at (w.placed ++ take by old) (get_or (w.gap ++ old) by 0) (drop (by + 1) (w.gap ++ old)) next.slot (next.behind + i) at
        ∙ ap (λ l. (w.placed ++ take by old) ++ (next.slot ∷ l)) past_it ∙ sym (append_assoc (w.placed ++ take by old) (next.slot ∷ []) (left ++ drop next.behind raw.slots))

    follows : placed_more ++ merged_from next.behind (drop next.behind raw.slots) (drop (i + 1) young) ≡ merged raw.slots young
    unfolding merged_from
    follows = let on : past + by ≡ next.behind = omega (arith, low) in
        append_assoc (w.placed ++ take by old) (next.slot ∷ []) (merged_from next.behind (drop next.behind raw.slots) (drop (i + 1) young))
        ∙ append_assoc w.placed (take by old) (next.slot ∷ merged_from next.behind (drop next.behind raw.slots) (drop (i + 1) young))
        ∙ ap (λ l. w.placed ++ (take by old ++ (next.slot ∷ merged_from next.behind l (drop (i + 1) young)))) (sym (drop-drop by past raw.slots ∙ ap (λ k. drop k raw.slots) on))
        ∙ ap (λ ys. w.placed ++ merged_from past old ys) (sym there) ∙ w.rest

    pub one_more : (now' : RawLists) → now' ≡ raw_lists now.front (slice_set come_down (next.behind + i) next.slot) now.capacity → IsSettling raw now' young next.behind (i + 1)
    one_more now' is = record {
      placed = placed_more;
      gap = left;
      slots = ap (λ (r : RawLists). r.slots) is ∙ put;
      placed_are = omega (arith, length-append (w.placed ++ take by old) (next.slot ∷ []), length-append w.placed (take by old), length-take by old, old_length, w.placed_are, low, high);
      gap_is = omega (arith, length-take (length w.gap - 1) (drop (by + 1) (w.gap ++ old)), length-drop (by + 1) (w.gap ++ old), long, w.gap_is, some_gap, low, high);
      rest = follows;
      rising = rises;
      among = (subst (AreAmong (length raw.slots)) there w.among).1;
      within = high;
      front = ap (λ (r : RawLists). r.front) is ∙ w.front;
      capacity = ap (λ (r : RawLists). r.capacity) is ∙ w.capacity;
    }
