-- Young slots among older ones.
use Rattle.std.proofs.Common.{◌≡◌, ◌≢◌, ℕ, zero, suc, ◌+◌, ◌-◌, ◌<◌, ◌≤◌, List, [], ◌∷◌, ◌++◌, Some, None, length, take, drop, get_or, refl, sym, ap, subst, ◌∙◌, arith, length-append, length-take, length-drop, drop-drop}
use Rattle.std.proofs.lemmas.List.{get_or_append_left, get_or-append-add, get_or-take, get_or-drop, take-append-le, drop-append-le, drop-take, take-take}
use Rattle.std.proofs.lemmas.List.Edits.{insert-append_right}
use Rattle.std.specs.Prelude.{Bool, true, false, nat_lt, slice_get, Contains}
use Rattle.std.proofs.lemmas.Bool.{ltb-true, ltb-false}
use Rattle.std.proofs.lemmas.List.Elements.{Contains-get_or, Contains-append_left, Contains-append_right}
use Rattle.std.specs.List.{AllByRecursion, insert, remove}
use Rattle.stow_slots.specs.Young.{merged_from, AreRising, IsRank, young_slot}
use Rattle.stow_slots.specs.declared.young_slot.YoungSlot.{YoungSlot}

abbrev pub AreAmong : ℕ → List YoungSlot → Type 0
AreAmong count young = AllByRecursion (λ y. y.behind ≤ count) young

pub none_young : (older : List ℕ) → merged_from 0 older [] ≡ older
unfolding merged_from
none_young older = refl

-- the part of the older ones that a young slot stands behind
part_length : (past : ℕ) (older : List ℕ) (y : YoungSlot) → y.behind ≤ past + length older → length (take (y.behind - past) older) ≡ y.behind - past
part_length past older y within = omega (arith, length-take (y.behind - past) older, within)

later_among : (past : ℕ) (older : List ℕ) (y : YoungSlot) (later : List YoungSlot) → past ≤ y.behind → y.behind ≤ past + length older → AreAmong (past + length older) later → AreAmong (y.behind + length (drop (y.behind - past) older)) later
later_among past older y later low within are = let same : past + length older ≡ y.behind + length (drop (y.behind - past) older) = omega (arith, length-drop (y.behind - past) older, low, within) in
    subst (λ count. AreAmong count later) same are

pub length-merged : (past : ℕ) (older : List ℕ) (young : List YoungSlot) → AreRising past young → AreAmong (past + length older) young → length (merged_from past older young) ≡ length older + length young
unfolding merged_from AreRising
length-merged past older [] rise are = omega arith
length-merged past older (y ∷ later) rise are =
    let d = y.behind - past in let rest = merged_from y.behind (drop d older) later in
    omega (
      arith,
      length-append (take d older) (y.slot ∷ rest),
      part_length past older y are.0,
      length-drop d older,
      length-merged y.behind (drop d older) later rise.1 (later_among past older y later rise.0 are.0 are.1),
      rise.0,
      are.0,
    )

pub rank_within : (past index : ℕ) (young : List YoungSlot) (rank : ℕ) → IsRank past index young rank → (rank ≤ length young) × (rank ≤ index)
unfolding IsRank
rank_within past index [] zero is = (omega arith, omega arith)
rank_within past index [] (suc rank) is = absurd is
rank_within past index (y ∷ later) zero is = (omega arith, omega arith)
rank_within past index (y ∷ later) (suc rank) is = let rest = rank_within y.behind (index - (y.behind - past) - 1) later rank is.1 in (omega (arith, rest.0), omega (arith, rest.1, is.0))

-- a place past a young slot is one among what follows it
past_slot : (past index : ℕ) (older : List ℕ) (y : YoungSlot) (later : List YoungSlot) → y.behind ≤ past + length older → y.behind - past < index
    → get_or (merged_from past older (y ∷ later)) index 0 ≡ get_or (merged_from y.behind (drop (y.behind - past) older) later) (index - (y.behind - past) - 1) 0
unfolding merged_from
past_slot past index older y later within lt =
    let d = y.behind - past in let rest = merged_from y.behind (drop d older) later in
    let at : index ≡ length (take d older) + suc (index - d - 1) = omega (arith, part_length past older y within, lt) in
    ap (λ k. get_or (take d older ++ (y.slot ∷ rest)) k 0) at ∙ get_or-append-add (take d older) (y.slot ∷ rest) (suc (index - d - 1)) 0

-- the slot of the young one that stands at the place
pub at_young : (past index : ℕ) (older : List ℕ) (young : List YoungSlot) (rank : ℕ) (found : YoungSlot) → AreRising past young → AreAmong (past + length older) young → IsRank past index young rank → slice_get young rank ≡ Some found → found.behind + rank ≡ index + past
    → get_or (merged_from past older young) index 0 ≡ found.slot
unfolding merged_from IsRank AreRising
at_young past index older [] zero found rise are is at place = absurd (none_at at) where
  none_at : {X : Type 0} {x : X} → None ≡ Some x → ⊥
  none_at e = cc
at_young past index older [] (suc rank) found rise are is at place = absurd is
at_young past index older (y ∷ later) zero found rise are is at place = here (some_same at) where
  some_same : Some y ≡ Some found → y ≡ found
  some_same e = cc

  here : y ≡ found → get_or (merged_from past older (y ∷ later)) index 0 ≡ found.slot
  here same =
      let d = y.behind - past in let rest = merged_from y.behind (drop d older) later in
      let behind : y.behind ≡ found.behind = ap (λ (z : YoungSlot). z.behind) same in
      let there : index ≡ length (take d older) + 0 = omega (arith, part_length past older y are.0, place, behind, rise.0) in
      ap (λ k. get_or (take d older ++ (y.slot ∷ rest)) k 0) there ∙ get_or-append-add (take d older) (y.slot ∷ rest) 0 0 ∙ ap (λ (z : YoungSlot). z.slot) same
at_young past index older (y ∷ later) (suc rank) found rise are is at place =
    let d = y.behind - past in
    past_slot past index older y later are.0 is.0
    ∙ at_young y.behind (index - d - 1) (drop d older) later rank found rise.1 (later_among past older y later rise.0 are.0 are.1) is.1 at (omega (arith, place, is.0, rise.0))

-- or of the older one
pub at_older : (past index : ℕ) (older : List ℕ) (young : List YoungSlot) (rank : ℕ) → AreRising past young → AreAmong (past + length older) young → IsRank past index young rank → ((y : YoungSlot) → slice_get young rank ≡ Some y → y.behind + rank ≢ index + past)
    → get_or (merged_from past older young) index 0 ≡ get_or older (index - rank) 0
unfolding merged_from IsRank AreRising
at_older past index older [] zero rise are is none = let same : index ≡ index - 0 = omega arith in ap (λ k. get_or older k 0) same
at_older past index older [] (suc rank) rise are is none = absurd is
at_older past index older (y ∷ later) zero rise are is none = here where
  here : get_or (merged_from past older (y ∷ later)) index 0 ≡ get_or older (index - 0) 0
  here =
      let d = y.behind - past in let rest = merged_from y.behind (drop d older) later in
      let other = none y refl in
      let apart : y.behind ≢ index + past = (λ e. other (omega (arith, e))) in
      let lt : index < d = omega (arith, is, rise.0, apart) in
      let same : index ≡ index - 0 = omega arith in
      get_or_append_left (take d older) (y.slot ∷ rest) 0 index (omega (arith, part_length past older y are.0, lt)) ∙ get_or-take d older index 0 lt ∙ ap (λ k. get_or older k 0) same
at_older past index older (y ∷ later) (suc rank) rise are is none =
    let d = y.behind - past in let within = rank_within y.behind (index - d - 1) later rank is.1 in
    let back : d + (index - d - 1 - rank) ≡ index - suc rank = omega (arith, is.0, within.1) in
    past_slot past index older y later are.0 is.0
    ∙ at_older y.behind (index - d - 1) (drop d older) later rank rise.1 (later_among past older y later rise.0 are.0 are.1) is.1 (λ z at e. none z at (omega (arith, e, is.0, rise.0)))
    ∙ get_or-drop d older (index - d - 1 - rank) 0 ∙ ap (λ k. get_or older k 0) back

-- a young slot more, where it belongs
pub insert_young : (past index : ℕ) (older : List ℕ) (young : List YoungSlot) (rank slot : ℕ) → AreRising past young → AreAmong (past + length older) young → IsRank past index young rank → index ≤ length older + length young
    → merged_from past older (insert young rank (young_slot (index + past - rank) slot)) ≡ insert (merged_from past older young) index slot
unfolding merged_from IsRank AreRising
insert_young past index older [] zero slot rise are is within = let d : index + past - 0 - past ≡ index = omega arith in ap (λ k. take k older ++ (slot ∷ drop k older)) d
insert_young past index older [] (suc rank) slot rise are is within = absurd is
insert_young past index older (y ∷ later) zero slot rise are is within =
    let d = y.behind - past in let rest = merged_from y.behind (drop d older) later in
    let new : index + past - 0 - past ≡ index = omega arith in
    let left : y.behind - (index + past - 0) ≡ d - index = omega (arith, is, rise.0) in
    let long = part_length past older y are.0 in
    let firsts : take index (take d older ++ (y.slot ∷ rest)) ≡ take index older = take-append-le index (take d older) (y.slot ∷ rest) (omega (arith, long, is)) ∙ take-take index d older is in
    let lasts : drop index (take d older ++ (y.slot ∷ rest)) ≡ take (d - index) (drop index older) ++ (y.slot ∷ rest) = drop-append-le index (take d older) (y.slot ∷ rest) (omega (arith, long, is)) ∙ ap (λ l. l ++ (y.slot ∷ rest)) (ap (λ k. drop index (take k older)) (omega (arith, is)) ∙ drop-take index (d - index) older) in
    let gone : drop (d - index) (drop index older) ≡ drop d older = drop-drop (d - index) index older ∙ ap (λ k. drop k older) (omega (arith, is)) in
    (λ i. take (new i) older ++ (slot ∷ (take (left i) (drop (new i) older) ++ (y.slot ∷ merged_from y.behind (drop (left i) (drop (new i) older)) later))))
    ∙ (λ i. take index older ++ (slot ∷ (take (d - index) (drop index older) ++ (y.slot ∷ merged_from y.behind (gone i) later))))
    ∙ sym (λ i. firsts i ++ (slot ∷ lasts i))
insert_young past index older (y ∷ later) (suc rank) slot rise are is within =
    let d = y.behind - past in let rest = merged_from y.behind (drop d older) later in let on = index - d - 1 in
    let long = part_length past older y are.0 in
    let inner = rank_within y.behind on later rank is.1 in
    let same : index + past - suc rank ≡ on + y.behind - rank = omega (arith, is.0, rise.0, inner.1) in
    let next = insert_young y.behind on (drop d older) later rank slot rise.1 (later_among past older y later rise.0 are.0 are.1) is.1 (omega (arith, within, length-drop d older, is.0, rise.0, are.0)) in
    let at : index - d ≡ suc on = omega (arith, is.0) in
    (λ i. take d older ++ (y.slot ∷ merged_from y.behind (drop d older) (insert later rank (young_slot (same i) slot))))
    ∙ (λ i. take d older ++ (y.slot ∷ next i))
    ∙ sym (insert-append_right (take d older) (y.slot ∷ rest) d index slot long (omega (arith, is.0)) ∙ ap (λ k. take d older ++ insert (y.slot ∷ rest) k slot) at)

-- ---- what stays so with a young slot more

pub insert_rises : (past index : ℕ) (young : List YoungSlot) (rank slot : ℕ) → AreRising past young → IsRank past index young rank → AreRising past (insert young rank (young_slot (index + past - rank) slot))
unfolding AreRising IsRank
insert_rises past index [] zero slot rise is = (omega arith, tt)
insert_rises past index [] (suc rank) slot rise is = absurd is
insert_rises past index (y ∷ later) zero slot rise is = (omega arith, (omega (arith, is, rise.0), rise.1))
insert_rises past index (y ∷ later) (suc rank) slot rise is =
    let on = index - (y.behind - past) - 1 in let inner = rank_within y.behind on later rank is.1 in
    let same : index + past - suc rank ≡ on + y.behind - rank = omega (arith, is.0, rise.0, inner.1) in
    (rise.0, subst (λ k. AreRising y.behind (insert later rank (young_slot k slot))) (sym same) (insert_rises y.behind on later rank slot rise.1 is.1))

pub insert_among : (count : ℕ) (young : List YoungSlot) (rank behind slot : ℕ) → AreAmong count young → behind ≤ count → AreAmong count (insert young rank (young_slot behind slot))
insert_among count [] zero behind slot are le = (le, tt)
insert_among count [] (suc rank) behind slot are le = (le, tt)
insert_among count (y ∷ later) zero behind slot are le = (le, are)
insert_among count (y ∷ later) (suc rank) behind slot are le = (are.0, insert_among count later rank behind slot are.1 le)

-- a place that so many young slots stand before is behind no more than all older ones
pub behind_within : (past index count : ℕ) (young : List YoungSlot) (rank : ℕ) → AreRising past young → AreAmong count young → IsRank past index young rank → past ≤ count → index + past ≤ count + length young → index + past - rank ≤ count
unfolding AreRising IsRank
behind_within past index count [] zero rise are is low within = omega (arith, within)
behind_within past index count [] (suc rank) rise are is low within = absurd is
behind_within past index count (y ∷ later) zero rise are is low within = omega (arith, is, rise.0, are.0)
behind_within past index count (y ∷ later) (suc rank) rise are is low within =
    let on = index - (y.behind - past) - 1 in let inner = rank_within y.behind on later rank is.1 in
    let next = behind_within y.behind on count later rank rise.1 are.1 is.1 are.0 (omega (arith, within, is.0, rise.0)) in
    omega (arith, next, is.0, rise.0, inner.1)

-- ---- found by index

-- where those before a rank stand before the place, and those from it on don't, it is the place's rank
pub rank_found : (past index : ℕ) (young : List YoungSlot) (rank : ℕ) → AreRising past young → rank ≤ length young
    → ((j : ℕ) (y : YoungSlot) → j < rank → slice_get young j ≡ Some y → y.behind + j < index + past)
    → ((j : ℕ) (y : YoungSlot) → rank ≤ j → slice_get young j ≡ Some y → index + past ≤ y.behind + j)
    → IsRank past index young rank
unfolding AreRising IsRank
rank_found past index [] zero rise within before after = tt
rank_found past index [] (suc rank) rise within before after = absurd (omega (arith, within))
rank_found past index (y ∷ later) zero rise within before after = let here = after 0 y (omega arith) refl in omega (arith, here, rise.0)
rank_found past index (y ∷ later) (suc rank) rise within before after =
    let here = before 0 y (omega arith) refl in let on = index - (y.behind - past) - 1 in
    let same : on + y.behind + 1 ≡ index + past = omega (arith, here, rise.0) in (
      omega (arith, here, rise.0),
      rank_found y.behind on later rank rise.1 (omega (arith, within))
          (λ j z lt at. let b = before (suc j) z (omega (arith, lt)) at in omega (arith, b, same))
          (λ j z le at. let a = after (suc j) z (omega (arith, le)) at in omega (arith, a, same)),
    )

-- later ones stand behind no fewer
pub behind_rises : (past : ℕ) (young : List YoungSlot) (j k : ℕ) (y z : YoungSlot) → AreRising past young → j ≤ k → slice_get young j ≡ Some y → slice_get young k ≡ Some z → (past ≤ y.behind) × (y.behind ≤ z.behind)
unfolding AreRising
behind_rises past [] j k y z rise le at there = absurd (nothing j at) where
  nothing : (j : ℕ) → slice_get [] j ≡ Some y → ⊥
  nothing zero e = cc
  nothing (suc j) e = cc
behind_rises past (x ∷ later) zero zero y z rise le at there = (subst (λ (w : YoungSlot). past ≤ w.behind) (some_of at) rise.0, same_behind (some_of at) (some_of there)) where
  some_of : {u v : YoungSlot} → Some u ≡ Some v → u ≡ v
  some_of e = cc

  same_behind : x ≡ y → x ≡ z → y.behind ≤ z.behind
  same_behind e f = omega (arith, ap (λ (w : YoungSlot). w.behind) e, ap (λ (w : YoungSlot). w.behind) f)
behind_rises past (x ∷ later) zero (suc k) y z rise le at there = (subst (λ (w : YoungSlot). past ≤ w.behind) (some_of at) rise.0, past_first (some_of at) (behind_rises x.behind later k k z z rise.1 (omega arith) there there)) where
  some_of : {u v : YoungSlot} → Some u ≡ Some v → u ≡ v
  some_of e = cc

  past_first : x ≡ y → (x.behind ≤ z.behind) × (z.behind ≤ z.behind) → y.behind ≤ z.behind
  past_first e f = omega (arith, ap (λ (w : YoungSlot). w.behind) e, f.0)
behind_rises past (x ∷ later) (suc j) zero y z rise le at there = absurd (omega (arith, le))
behind_rises past (x ∷ later) (suc j) (suc k) y z rise le at there =
    let next = behind_rises x.behind later j k y z rise.1 (omega (arith, le)) at there in (omega (arith, next.0, rise.0), next.1)

-- those up to one that stands before the place do
pub all_before : (young : List YoungSlot) (index middle : ℕ) (y : YoungSlot) → AreRising 0 young → slice_get young middle ≡ Some y → y.behind + middle < index → (j : ℕ) (z : YoungSlot) → j < middle + 1 → slice_get young j ≡ Some z → z.behind + j < index
all_before young index middle y rise at lt j z below there = let order = behind_rises 0 young j middle z y rise (omega (arith, below)) there at in omega (arith, order.1, lt, below)

pub all_after : (young : List YoungSlot) (index middle : ℕ) (y : YoungSlot) → AreRising 0 young → slice_get young middle ≡ Some y → (y.behind + middle < index → ⊥) → (j : ℕ) (z : YoungSlot) → middle ≤ j → slice_get young j ≡ Some z → index ≤ z.behind + j
all_after young index middle y rise at none j z above there =
    let order = behind_rises 0 young middle j y z rise above at there in let far : index ≤ y.behind + middle = omega (arith, none) in omega (arith, order.1, far, above)

-- an older one stands at a place where no young one does
pub older_there : (past index count : ℕ) (young : List YoungSlot) (rank : ℕ) → AreRising past young → AreAmong count young → IsRank past index young rank → ((y : YoungSlot) → slice_get young rank ≡ Some y → y.behind + rank ≢ index + past) → index + past < count + length young
    → index + past - rank < count
unfolding AreRising IsRank
older_there past index count [] zero rise are is none lt = omega (arith, lt)
older_there past index count [] (suc rank) rise are is none lt = absurd is
older_there past index count (y ∷ later) zero rise are is none lt = let other = none y refl in let apart : y.behind ≢ index + past = (λ e. other (omega (arith, e))) in omega (arith, is, rise.0, are.0, apart)
older_there past index count (y ∷ later) (suc rank) rise are is none lt =
    let on = index - (y.behind - past) - 1 in let inner = rank_within y.behind on later rank is.1 in
    let next = older_there y.behind on count later rank rise.1 are.1 is.1 (λ z at e. none z at (omega (arith, e, is.0, rise.0))) (omega (arith, lt, is.0, rise.0)) in
    omega (arith, next, is.0, rise.0, inner.1)

-- ---- all that stand in either list are among all

contains_here : (x : ℕ) (xs : List ℕ) → Contains (x ∷ xs) x
contains_here x xs = (0, omega arith, refl)

contains_there : (y : ℕ) (xs : List ℕ) (x : ℕ) → Contains xs x → Contains (y ∷ xs) x
contains_there y xs x has = (suc has.0, omega (arith, has.1), has.2)

pub old_within : (past : ℕ) (older : List ℕ) (young : List YoungSlot) → AreRising past young → AreAmong (past + length older) young → (place : ℕ) → place < length older → Contains (merged_from past older young) (get_or older place 0)
unfolding merged_from AreRising
old_within past older [] rise are place lt = Contains-get_or older place 0 lt
old_within past older (y ∷ later) rise are place lt =
    let d = y.behind - past in
    one (λ n. old_within y.behind (drop d older) later rise.1 (later_among past older y later rise.0 are.0 are.1) n) (nat_lt place d) refl where
      one : ((n : ℕ) → n < length (drop (y.behind - past) older) → Contains (merged_from y.behind (drop (y.behind - past) older) later) (get_or (drop (y.behind - past) older) n 0)) → (b : Bool) → nat_lt place (y.behind - past) ≡ b → Contains (merged_from past older (y ∷ later)) (get_or older place 0)
      one rest true e =
          let below : place < y.behind - past = ltb-true place (y.behind - past) e in
          Contains-append_left (take (y.behind - past) older) (y.slot ∷ merged_from y.behind (drop (y.behind - past) older) later) (get_or older place 0)
          (subst (Contains (take (y.behind - past) older)) (get_or-take (y.behind - past) older place 0 below)
          (Contains-get_or (take (y.behind - past) older) place 0 (omega (arith, part_length past older y are.0, below))))
      one rest false e =
          let above : y.behind - past ≤ place = ltb-false place (y.behind - past) e in
          let at : y.behind - past + (place - (y.behind - past)) ≡ place = omega (arith, above) in
          Contains-append_right (take (y.behind - past) older) (y.slot ∷ merged_from y.behind (drop (y.behind - past) older) later) (get_or older place 0)
          (contains_there y.slot (merged_from y.behind (drop (y.behind - past) older) later) (get_or older place 0)
          (subst (Contains (merged_from y.behind (drop (y.behind - past) older) later)) (get_or-drop (y.behind - past) older (place - (y.behind - past)) 0 ∙ ap (λ k. get_or older k 0) at)
          (rest (place - (y.behind - past)) (omega (arith, length-drop (y.behind - past) older, lt, above)))))

pub young_within : (past : ℕ) (older : List ℕ) (young : List YoungSlot) → AreRising past young → AreAmong (past + length older) young → (place : ℕ) (found : YoungSlot) → slice_get young place ≡ Some found → Contains (merged_from past older young) found.slot
unfolding merged_from AreRising
young_within past older [] rise are zero found at = absurd (nothing_at at) where
  nothing_at : {X : Type 0} {x : X} → None ≡ Some x → ⊥
  nothing_at e = cc
young_within past older [] rise are (suc place) found at = absurd (nothing_at at) where
  nothing_at : {X : Type 0} {x : X} → None ≡ Some x → ⊥
  nothing_at e = cc
young_within past older (y ∷ later) rise are zero found at =
    Contains-append_right (take (y.behind - past) older) (y.slot ∷ merged_from y.behind (drop (y.behind - past) older) later) found.slot
    (subst (Contains (y.slot ∷ merged_from y.behind (drop (y.behind - past) older) later)) (ap (λ (z : YoungSlot). z.slot) (some_same at)) (contains_here y.slot (merged_from y.behind (drop (y.behind - past) older) later))) where
      some_same : Some y ≡ Some found → y ≡ found
      some_same e = cc
young_within past older (y ∷ later) rise are (suc place) found at =
    Contains-append_right (take (y.behind - past) older) (y.slot ∷ merged_from y.behind (drop (y.behind - past) older) later) found.slot
    (contains_there y.slot (merged_from y.behind (drop (y.behind - past) older) later) found.slot
    (young_within y.behind (drop (y.behind - past) older) later rise.1 (later_among past older y later rise.0 are.0 are.1) place found at))

-- ---- a young slot less

-- a list is itself without an element and with it again
pub put_back : {X : Type 0} (xs : List X) (i : ℕ) (x : X) → slice_get xs i ≡ Some x → insert (remove xs i) i x ≡ xs
put_back [] i x at = absurd (no_element i at) where
  no_element : (j : ℕ) → slice_get [] j ≡ Some x → ⊥
  no_element zero e = cc
  no_element (suc j) e = cc
put_back (y ∷ ys) zero x at = ap (λ z. z ∷ ys) (some_same at) where
  some_same : Some y ≡ Some x → x ≡ y
  some_same e = cc
put_back (y ∷ ys) (suc i) x at = ap (λ l. y ∷ l) (put_back ys i x at)

rises_from : (low past : ℕ) (young : List YoungSlot) → low ≤ past → AreRising past young → AreRising low young
unfolding AreRising
rises_from low past [] le rise = tt
rises_from low past (y ∷ later) le rise = (omega (arith, le, rise.0), rise.1)

pub remove_rises : (past : ℕ) (young : List YoungSlot) (rank : ℕ) → AreRising past young → AreRising past (remove young rank)
unfolding AreRising
remove_rises past [] zero rise = tt
remove_rises past [] (suc rank) rise = tt
remove_rises past (y ∷ later) zero rise = rises_from past y.behind later rise.0 rise.1
remove_rises past (y ∷ later) (suc rank) rise = (rise.0, remove_rises y.behind later rank rise.1)

pub remove_among : (count : ℕ) (young : List YoungSlot) (rank : ℕ) → AreAmong count young → AreAmong count (remove young rank)
remove_among count [] zero are = tt
remove_among count [] (suc rank) are = tt
remove_among count (y ∷ later) zero are = are.1
remove_among count (y ∷ later) (suc rank) are = (are.0, remove_among count later rank are.1)

-- as many young slots stand before a place once the one that stood there is gone
pub remove_rank : (past index : ℕ) (young : List YoungSlot) (rank : ℕ) (found : YoungSlot) → AreRising past young → IsRank past index young rank → slice_get young rank ≡ Some found → found.behind + rank ≡ index + past
    → IsRank past index (remove young rank) rank
unfolding AreRising IsRank
remove_rank past index [] zero found rise is at place = tt
remove_rank past index [] (suc rank) found rise is at place = absurd is
remove_rank past index (y ∷ []) zero found rise is at place = tt
remove_rank past index (y ∷ z ∷ later) zero found rise is at place = omega (arith, is, rise.0, rise.1.0)
remove_rank past index (y ∷ later) (suc rank) found rise is at place =
    (is.0, remove_rank y.behind (index - (y.behind - past) - 1) later rank found rise.1 is.1 at (omega (arith, place, is.0, rise.0)))
