-- A block one of whose young slots was taken.
use Rattle.std.proofs.Common.{◌≡◌, ℕ, zero, suc, ◌+◌, ◌-◌, ◌≤◌, List, [], ◌∷◌, Some, length, refl, sym, ap, subst, ◌∙◌, arith}
use Rattle.std.specs.Prelude.{slice_get}
use Rattle.std.specs.List.{insert, remove, remove_range}
use Rattle.std.proofs.lemmas.List.Edits.{length-insert}
use Rattle.stow_raw.specs.RawBuf.{RawLists, raw_lists}
use Rattle.stow_slots.specs.Young.{young_slot, merged, AreRising, HasOneMore, IsYoung, all_lists}
use Rattle.stow_slots.specs.declared.young_slot.YoungSlot.{YoungSlot}
use Rattle.stow_slots.proofs.Beside.{behind_among}
use Rattle.stow_slots.proofs.Merged.{AreAmong, length-merged, rank_within, insert_young, remove_rises, remove_among}

-- a list without an element that was put into it is the list before
take_back : {X : Type 0} (xs : List X) (i : ℕ) (x : X) → i ≤ length xs → remove (insert xs i x) i ≡ xs
take_back [] zero x le = refl
take_back [] (suc i) x le = absurd (omega (arith, le))
take_back (y ∷ ys) zero x le = refl
take_back (y ∷ ys) (suc i) x le = ap (λ l. y ∷ l) (take_back ys i x (omega (arith, le)))

insert_there : {X : Type 0} (xs : List X) (i : ℕ) (x : X) → i ≤ length xs → slice_get (insert xs i x) i ≡ Some x
insert_there [] zero x le = refl
insert_there [] (suc i) x le = absurd (omega (arith, le))
insert_there (y ∷ ys) zero x le = refl
insert_there (y ∷ ys) (suc i) x le = insert_there ys i x (omega (arith, le))

module _ (raw : RawLists) (young left : List YoungSlot) (h : IsYoung raw young) (v : RawLists) (is : all_lists raw young ≡ v) (index slot : ℕ) (less : HasOneMore left index slot young) where
  abbrev gone : YoungSlot
  gone = young_slot (index - less.rank) slot

  low : (less.rank ≤ length left) × (less.rank ≤ index)
  low = rank_within 0 index left less.rank less.is_rank

  left_is : remove young less.rank ≡ left
  left_is = ap (λ l. remove l less.rank) less.are ∙ take_back left less.rank gone low.0

  rises : AreRising 0 left
  rises = subst (AreRising 0) left_is (remove_rises 0 young less.rank h.rising)

  are : AreAmong (length raw.slots) left
  are = subst (AreAmong (length raw.slots)) left_is (remove_among (length raw.slots) young less.rank h.among)

  pub left_young : IsYoung raw left
  left_young = record {
    rising = rises;
    among = are;
    room = omega (arith, h.room, ap length less.are, length-insert left less.rank gone low.0);
  }

  behind : index - less.rank ≤ length raw.slots
  behind = behind_among (length raw.slots) young less.rank gone h.among (ap (λ l. slice_get l less.rank) less.are ∙ insert_there left less.rank gone low.0)

  among : AreAmong (0 + length raw.slots) left
  among = let same : length raw.slots ≡ 0 + length raw.slots = omega arith in subst (λ n. AreAmong n left) same are

  within : index ≤ length (merged raw.slots left)
  within = omega (arith, behind, low.0, low.1, length-merged 0 raw.slots left rises among)

  slots_were : v.slots ≡ insert (merged raw.slots left) index slot
  slots_were =
      let at : index + 0 - less.rank ≡ index - less.rank = omega arith in
      sym (ap (λ (r : RawLists). r.slots) is) ∙ ap (merged raw.slots) less.are
      ∙ (λ i. merged raw.slots (insert left less.rank (young_slot (sym at i) slot)))
      ∙ insert_young 0 index raw.slots left less.rank slot rises among less.is_rank (omega (arith, within, length-merged 0 raw.slots left rises among))

  pub was_there : slice_get v.slots index ≡ Some slot
  was_there = ap (λ l. slice_get l index) slots_were ∙ insert_there (merged raw.slots left) index slot within

  pub left_all : all_lists raw left ≡ raw_lists v.front (remove_range v.slots index (index + 1)) v.capacity
  left_all =
      let next : suc index ≡ index + 1 = omega arith in
      sym (ap (λ l. raw_lists raw.front l raw.capacity) (ap (λ l. remove l index) slots_were ∙ take_back (merged raw.slots left) index slot within))
      ∙ (λ i. raw_lists (ap (λ (r : RawLists). r.front) is i) (remove_range v.slots index (next i)) (ap (λ (r : RawLists). r.capacity) is i))
