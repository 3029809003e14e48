-- A block whose young slots stand beside it, as it is seen.
use Rattle.std.proofs.Common.{◌≡◌, ◌≢◌, ℕ, ◌+◌, ◌-◌, ◌*◌, ◌<◌, ◌≤◌, List, [], ◌∷◌, Some, length, get_or, refl, sym, ap, subst, ◌∙◌, arith}
use Rattle.std.specs.Prelude.{slice_get, Contains}
use Rattle.std.specs.List.{insert}
use Rattle.std.proofs.lemmas.List.Edits.{length-insert}
use Rattle.std.proofs.lemmas.Option.{slice_get_within, get_or_from_slice_get}
use Rattle.stow_raw.specs.RawBuf.{RawLists, raw_lists, raw_used, RawFits}
use Rattle.stow_slots.specs.Young.{young_slot, merged, AreRising, IsRank, IsYoung, all_lists}
use Rattle.stow_slots.specs.declared.young_slot.YoungSlot.{YoungSlot}
use Rattle.stow_slots.proofs.Merged.{AreAmong, none_young, length-merged, rank_within, at_young, at_older, insert_young, insert_rises, insert_among, behind_within, older_there, old_within, young_within}

abbrev pub zero_slot : YoungSlot
zero_slot = young_slot 0 0

-- no young slot stands at a place where the one of its rank doesn't
pub other_there : (young : List YoungSlot) (index rank : ℕ) → (rank < length young → (get_or young rank zero_slot).behind ≢ index - rank) → (y : YoungSlot) → slice_get young rank ≡ Some y → y.behind + rank ≢ index
other_there young index rank none y at e =
    none (slice_get_within young rank y at) (let same = ap (λ (z : YoungSlot). z.behind) (get_or_from_slice_get young rank y zero_slot at) in omega (arith, same, e))

-- none are young
pub empty : (raw : RawLists) → raw_used raw ≤ raw.capacity → IsYoung raw []
unfolding AreRising
empty raw fits = record { rising = tt; among = tt; room = omega (arith, fits) }

pub all_of_none : (raw : RawLists) → all_lists raw [] ≡ raw
all_of_none raw = λ i. raw_lists raw.front (none_young raw.slots i) raw.capacity

pub nothing : {X : Type 0} (xs : List X) → length xs ≡ 0 → xs ≡ []
nothing [] e = refl
nothing (x ∷ xs) e = absurd (omega (arith, e))

-- a block whose young slots have all come
pub settled : (raw : RawLists) (young : List YoungSlot) → young ≡ [] → raw_used raw ≤ raw.capacity → IsYoung raw young
settled raw young none fits = subst (IsYoung raw) (sym none) (empty raw fits)

pub settled_all : (raw : RawLists) (young : List YoungSlot) → young ≡ [] → all_lists raw young ≡ raw
settled_all raw young none = ap (all_lists raw) none ∙ all_of_none raw

module _ (raw : RawLists) (young : List YoungSlot) (h : IsYoung raw young) (v : RawLists) (is : all_lists raw young ≡ v) where
  among : AreAmong (0 + length raw.slots) young
  among = let same : length raw.slots ≡ 0 + length raw.slots = omega arith in subst (λ n. AreAmong n young) same h.among

  pub count : length v.slots ≡ length raw.slots + length young
  count = sym (ap (λ (r : RawLists). length r.slots) is) ∙ length-merged 0 raw.slots young h.rising among

  pub capacity : v.capacity ≡ raw.capacity
  capacity = sym (ap (λ (r : RawLists). r.capacity) is)

  pub used : raw_used v ≡ raw_used raw + 4 * length young
  used = omega (arith, ap (λ (r : RawLists). length r.front) is, count)

  pub fits : raw_used v ≤ v.capacity
  fits = omega (arith, used, capacity, h.room)

  -- all slots are those of the block or young
  pub old_contained : (place : ℕ) → place < length raw.slots → (s : ℕ) → s ≡ get_or raw.slots place 0 → Contains v.slots s
  old_contained place lt s at = subst (λ (r : RawLists). Contains r.slots s) is (subst (Contains (merged raw.slots young)) (sym at) (old_within 0 raw.slots young h.rising among place lt))

  pub young_contained : (place : ℕ) (y : YoungSlot) → slice_get young place ≡ Some y → Contains v.slots y.slot
  young_contained place y at = subst (λ (r : RawLists). Contains r.slots y.slot) is (young_within 0 raw.slots young h.rising among place y at)

  -- the slot at a place is that of the young one there
  pub slot_of_young : (index rank : ℕ) (y : YoungSlot) → IsRank 0 index young rank → slice_get young rank ≡ Some y → y.behind + rank ≡ index → get_or v.slots index 0 ≡ y.slot
  slot_of_young index rank y ranked at place = sym (ap (λ (r : RawLists). get_or r.slots index 0) is) ∙ at_young 0 index raw.slots young rank y h.rising among ranked at (omega (arith, place))

  -- or else of the older one
  pub slot_of_older : (index rank : ℕ) → IsRank 0 index young rank → ((y : YoungSlot) → slice_get young rank ≡ Some y → y.behind + rank ≢ index) → get_or v.slots index 0 ≡ get_or raw.slots (index - rank) 0
  slot_of_older index rank ranked none = sym (ap (λ (r : RawLists). get_or r.slots index 0) is) ∙ at_older 0 index raw.slots young rank h.rising among ranked (λ y at e. none y at (omega (arith, e)))

  -- it is there
  pub older_within : (index rank : ℕ) → IsRank 0 index young rank → ((y : YoungSlot) → slice_get young rank ≡ Some y → y.behind + rank ≢ index) → index < length v.slots → index - rank < length raw.slots
  older_within index rank ranked none lt = let there = older_there 0 index (length raw.slots) young rank h.rising h.among ranked (λ y at e. none y at (omega (arith, e))) (omega (arith, count, lt)) in omega (arith, there)

  module _ (index rank slot : ℕ) (ranked : IsRank 0 index young rank) (within : index ≤ length v.slots) where
    abbrev more : List YoungSlot
    more = insert young rank (young_slot (index - rank) slot)

    behind : index - rank ≤ length raw.slots
    behind = let b = behind_within 0 index (length raw.slots) young rank h.rising h.among ranked (omega arith) (omega (arith, within, count)) in omega (arith, b)

    at : index + 0 - rank ≡ index - rank
    at = omega arith

    pub put_in : all_lists raw more ≡ raw_lists v.front (insert v.slots index slot) v.capacity
    put_in =
        sym (λ i. raw_lists raw.front (merged raw.slots (insert young rank (young_slot (at i) slot))) raw.capacity)
        ∙ (λ i. raw_lists raw.front (insert_young 0 index raw.slots young rank slot h.rising among ranked (omega (arith, within, count)) i) raw.capacity)
        ∙ (λ i. raw_lists (is i).front (insert (is i).slots index slot) (is i).capacity)

    pub put_so : RawFits v 4 → IsYoung raw more
    put_so fits = record {
      rising = subst (λ k. AreRising 0 (insert young rank (young_slot k slot))) at (insert_rises 0 index young rank slot h.rising ranked);
      among = insert_among (length raw.slots) young rank (index - rank) slot h.among behind;
      room = (let n = rank_within 0 index young rank ranked in omega (arith, length-insert young rank (young_slot (index - rank) slot) n.0, fits, used, capacity));
    }
