-- The slots at a place and right before it, of a block whose young slots stand beside it.
use Rattle.std.proofs.Common.{◌≡◌, ◌≢◌, ℕ, zero, suc, ◌+◌, ◌-◌, ◌<◌, ◌≤◌, List, [], ◌∷◌, Some, None, length, get_or, refl, sym, ap, ◌∙◌, arith}
use Rattle.std.specs.Prelude.{slice_get}
use Rattle.std.proofs.lemmas.Option.{slice_get-get_or, slice_get_past, slice_get_within}
use Rattle.stow_raw.specs.RawBuf.{RawLists}
use Rattle.stow_slots.specs.Young.{merged, AreRising, IsRank, IsYoung}
use Rattle.stow_slots.specs.declared.young_slot.YoungSlot.{YoungSlot}
use Rattle.stow_slots.proofs.Merged.{AreAmong, rank_within, rank_found, behind_rises}
use Rattle.stow_slots.proofs.Parts.{count, slot_of_young, slot_of_older, older_within}

no_slot : (j : ℕ) {y : YoungSlot} → slice_get [] j ≡ Some y → ⊥
no_slot zero e = cc
no_slot (suc j) e = cc

some_same : {u v : YoungSlot} → Some u ≡ Some v → u.behind ≡ v.behind
some_same e = cc

-- a young slot stands behind no more than all older ones
pub behind_among : (count : ℕ) (young : List YoungSlot) (rank : ℕ) (y : YoungSlot) → AreAmong count young → slice_get young rank ≡ Some y → y.behind ≤ count
behind_among count [] rank y are at = absurd (no_slot rank at)
behind_among count (x ∷ later) zero y are at = omega (arith, are.0, some_same at)
behind_among count (x ∷ later) (suc rank) y are at = behind_among count later rank y are.1 at

module _ (raw : RawLists) (young : List YoungSlot) (h : IsYoung raw young) (index rank : ℕ) (ranked : IsRank 0 index young rank) where
  -- the young slot of the place's rank stands at the place
  pub young_there : (y : YoungSlot) → slice_get young rank ≡ Some y → y.behind ≡ index - rank → Some y.slot ≡ slice_get (merged raw.slots young) index
  young_there y at place =
      let w = rank_within 0 index young rank ranked in
      let lt : index < length (merged raw.slots young) = omega (arith, place, w.1, behind_among (length raw.slots) young rank y h.among at, slice_get_within young rank y at, count raw young h _ refl) in
      sym (slice_get-get_or (merged raw.slots young) index 0 lt ∙ ap Some (slot_of_young raw young h _ refl index rank y ranked at (omega (arith, place, w.1))))

  -- or else an older one does
  pub older_there : ((y : YoungSlot) → slice_get young rank ≡ Some y → y.behind + rank ≢ index) → index - rank < length raw.slots → Some (get_or raw.slots (index - rank) 0) ≡ slice_get (merged raw.slots young) index
  older_there none lt =
      let w = rank_within 0 index young rank ranked in
      let within : index < length (merged raw.slots young) = omega (arith, lt, w.0, w.1, count raw young h _ refl) in
      sym (slice_get-get_or (merged raw.slots young) index 0 within ∙ ap Some (slot_of_older raw young h _ refl index rank ranked none))

  -- or else none does
  pub none_there : ((y : YoungSlot) → slice_get young rank ≡ Some y → y.behind + rank ≢ index) → length raw.slots ≤ index - rank → None ≡ slice_get (merged raw.slots young) index
  none_there none past =
      let far : index < length (merged raw.slots young) → ⊥ = (λ lt. let within = older_within raw young h _ refl index rank ranked none lt in omega (arith, past, within)) in
      sym (slice_get_past (merged raw.slots young) index (omega (arith, far)))

-- ---- what a rank tells

-- those before it stand before the place
pub rank_tells_before : (past index : ℕ) (young : List YoungSlot) (rank : ℕ) → AreRising past young → IsRank past index young rank → (j : ℕ) (z : YoungSlot) → j < rank → slice_get young j ≡ Some z → z.behind + j < index + past
unfolding AreRising IsRank
rank_tells_before past index [] zero rise is j z lt at = absurd (omega (arith, lt))
rank_tells_before past index [] (suc rank) rise is j z lt at = absurd is
rank_tells_before past index (y ∷ later) zero rise is j z lt at = absurd (omega (arith, lt))
rank_tells_before past index (y ∷ later) (suc rank) rise is zero z lt at = omega (arith, is.0, rise.0, some_same at)
rank_tells_before past index (y ∷ later) (suc rank) rise is (suc j) z lt at =
    let next = rank_tells_before y.behind (index - (y.behind - past) - 1) later rank rise.1 is.1 j z (omega (arith, lt)) at in omega (arith, next, is.0, rise.0)

-- and the others don't
pub rank_tells_after : (past index : ℕ) (young : List YoungSlot) (rank : ℕ) → AreRising past young → IsRank past index young rank → (j : ℕ) (z : YoungSlot) → rank ≤ j → slice_get young j ≡ Some z → index + past ≤ z.behind + j
unfolding AreRising IsRank
rank_tells_after past index [] zero rise is j z le at = absurd (no_slot j at)
rank_tells_after past index [] (suc rank) rise is j z le at = absurd is
rank_tells_after past index (y ∷ later) zero rise is zero z le at = omega (arith, is, rise.0, some_same at)
rank_tells_after past index (y ∷ later) zero rise is (suc j) z le at = let order = behind_rises y.behind later j j z z rise.1 (omega arith) at at in omega (arith, is, rise.0, order.0)
rank_tells_after past index (y ∷ later) (suc rank) rise is zero z le at = absurd (omega (arith, le))
rank_tells_after past index (y ∷ later) (suc rank) rise is (suc j) z le at =
    let next = rank_tells_after y.behind (index - (y.behind - past) - 1) later rank rise.1 is.1 j z (omega (arith, le)) at in omega (arith, next, is.0, rise.0)

module _ (young : List YoungSlot) (index rank : ℕ) (rise : AreRising 0 young) (ranked : IsRank 0 index young rank) (last : YoungSlot) (at_last : slice_get young (rank - 1) ≡ Some last) (some : 0 < rank) where
  -- the last one that stands before the place stands right before it
  pub one_fewer : last.behind ≡ index - rank → IsRank 0 (index - 1) young (rank - 1)
  one_fewer right =
      let w = rank_within 0 index young rank ranked in
      rank_found 0 (index - 1) young (rank - 1) rise (omega (arith, w.0))
      (λ j z lt at. let order = behind_rises 0 young j (rank - 1) z last rise (omega (arith, lt)) at at_last in omega (arith, order.1, right, lt, w.1, some))
      (λ j z le at. let order = behind_rises 0 young (rank - 1) j last z rise le at_last at in omega (arith, order.1, right, le, w.1, some))

  -- or further down
  pub as_many : last.behind ≢ index - rank → IsRank 0 (index - 1) young rank
  as_many other =
      let w = rank_within 0 index young rank ranked in
      let before = rank_tells_before 0 index young rank rise ranked (rank - 1) last (omega (arith, some)) at_last in
      let apart : last.behind + rank < index = omega (arith, before, other, some, w.1) in
      rank_found 0 (index - 1) young rank rise w.0
      (λ j z lt at. let order = behind_rises 0 young j (rank - 1) z last rise (omega (arith, lt)) at at_last in omega (arith, order.1, apart, lt, some))
      (λ j z le at. let after = rank_tells_after 0 index young rank rise ranked j z le at in omega (arith, after))

-- none stands before a place that no young slot stands before
pub none_fewer : (young : List YoungSlot) (index : ℕ) → AreRising 0 young → IsRank 0 index young 0 → IsRank 0 (index - 1) young 0
none_fewer young index rise ranked =
    rank_found 0 (index - 1) young 0 rise (omega arith) (λ j z lt at. absurd (omega (arith, lt)))
    (λ j z le at. let after = rank_tells_after 0 index young 0 rise ranked j z le at in omega (arith, after))
