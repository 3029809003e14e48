-- A row of leaves of which one gave way to others, with its messages merged.
use Rattle.std.proofs.Common.{zero, suc, ◌≡◌, ◌≢◌, ℕ, ◌+◌, ◌<◌, ◌≤◌, true, false, cond, List, [], ◌∷◌, ◌++◌, length, map, take, drop, get_or, Option, Some, None, refl, sym, ap, ◌∙◌, subst, arith, ⊎_elim, length-append, append_assoc, append-nil}
use Rattle.std.specs.List.{AllByRecursion, insert}
use Rattle.std.specs.Ordering.{is_lt}
use Rattle.std.specs.Prelude.{IsSome, not, slice_get, Contains}
use Rattle.std.proofs.lemmas.Grind.{flat_map-append}
use Rattle.std.proofs.lemmas.List.{length-take-le, map-append, take-map, drop-map}
use Rattle.std.proofs.lemmas.List.Elements.{Contains-append_left, Contains-append_right, Contains-append_cases}
use Rattle.stow_leaf_cache.specs.Cache.{Cache, rows_under, leaves_without}
use Rattle.stow_leaf.proofs.StowMerge.Lists.{all_split, all_join}
use Rattle.stow_leaf.specs.StowMerge.declared.flush_job.FlushJob.{FlushJob}
use Rattle.stow_leaf.proofs.StowMessage.RisingLists.{no_path}
use Rattle.stow_leaf.specs.StowMessage.Rising.{in_range, out_of_range}
use Rattle.stow_leaf_cache.specs.StowTreeModel.Agreement.{TenantPins}
use Rattle.stow_leaf_cache.specs.StowTreeModel.Keys.{tenant_of}
use Rattle.stow_leaf_cache.specs.StowTreeModel.Merged.{row_message}
use Rattle.stow_leaf_cache.specs.StowTreeModel.Messages.{ops_in}
use Rattle.stow_leaf_cache.specs.StowTreeModel.Operations.{Operations, latest, or_else, over, value_in}
use Rattle.stow_leaf_cache.specs.StowTreeModel.TreeMessage.{TreeMessage}
use Rattle.stow_leaf_cache.specs.StowTreeModel.Value.{IsValue}
use Rattle.stow_leaf_cache.proofs.StowTreeModel.Latest.{contains_cases}
use Rattle.stow_leaf.specs.Intervals.{top_key, spans}
use Rattle.stow_leaf.specs.LeafRows.{LeafRows, leaf_rows, row_messages, first_fence, IsLeafTile, LeavesTo}
use Rattle.stow_leaf.specs.Replacements.{IsLeafSize, AreThere, HasShortValues, MeanTheSame, ops_with, CanReplace, IsFence, TakePlace}
use Rattle.stow_leaf.specs.declared.leaf.Leaf.{Leaf}
use Rattle.stow_leaf.proofs.Found.{both_none, or_assoc, or_none, none_or, none_some, some_or, some_left, some_right, merged_short}
use Rattle.stow_leaf.proofs.Fronts.{range_within}
use Rattle.stow_leaf.proofs.Intervals.{lt, by_test, lt_self, lt_trans, lt_le, le_le, lt_not, under, beyond, span_low, span_high, not_spanned}
use Rattle.stow_leaf.proofs.Over.{Above, over_same, same_itself}
use Rattle.stow_leaf.proofs.Ops.{ops-append, ops-in_range, ops-out_of_range}
use Rattle.stow_leaves.specs.Absorbs.{fence_at, with_leaves, left_above, ops_above, BatchGoes, CanAbsorb, CanPutPages, CanPutOthers, StandsFor}
use Rattle.stow_leaves.specs.AbsorbsAll.{CanGiveWay}
use Rattle.stow_leaves.specs.Forgets.{Forgets, cache_without}
use Rattle.stow_leaves.specs.Joins.{AreJoined, JoinsAll}
use Rattle.stow_leaves.proofs.Fences.{parted, fence_is}
use Rattle.stow_leaves.proofs.Forgotten.{forgot, forgets_one, forgets_then}
use Rattle.stow_leaves.proofs.Joined.{SameRows, joined_same}

-- ---- others put in the place of one

-- the last ones stand in its place, and the others are still to come
pub record IsPutting {X : Type 0} (old : List X) (i : ℕ) (all now items : List X) : Type 0 where
  pub done : List X
  pub are : all ≡ now ++ done
  pub is : items ≡ take i old ++ (done ++ drop (i + 1) old)

-- one more at the front of what comes behind some of a list
pub insert_at : {X : Type 0} (i : ℕ) (xs ys : List X) (x : X) → i ≤ length xs → insert (take i xs ++ ys) i x ≡ take i xs ++ x ∷ ys
insert_at zero xs ys x l = refl
insert_at (suc i) [] ys x l = absurd (omega arith)
insert_at (suc i) (z ∷ xs) ys x l = ap (λ l. z ∷ l) (insert_at i xs ys x (omega arith))

pub putting_first : {X : Type 0} (old : List X) (i : ℕ) (all items : List X) → items ≡ take i old ++ drop (i + 1) old → IsPutting old i all all items
putting_first old i all items e = record { done = []; are = sym (append-nil all); is = e }

pub putting_next : {X : Type 0} (old : List X) (i : ℕ) (all now rest : List X) (x : X) (items new : List X) → i ≤ length old → IsPutting old i all now items → now ≡ rest ++ x ∷ [] → new ≡ insert items i x → IsPutting old i all rest new
putting_next old i all now rest x items new l p e n = record {
  done = x ∷ p.done;
  are = p.are ∙ ap (λ ls. ls ++ p.done) e ∙ append_assoc rest (x ∷ []) p.done;
  is = n ∙ ap (λ cs. insert cs i x) p.is ∙ insert_at i old (p.done ++ drop (i + 1) old) x l;
}

pub all_put : {X : Type 0} (old : List X) (i : ℕ) (all now items : List X) → IsPutting old i all now items → now ≡ [] → items ≡ take i old ++ (all ++ drop (i + 1) old)
all_put old i all now items p e = p.is ∙ ap (λ ls. take i old ++ (ls ++ drop (i + 1) old)) (sym (p.are ∙ ap (λ ls. ls ++ p.done) e))

-- the place is within
pub place_inside : {X : Type 0} (old : List X) (i : ℕ) (all now items : List X) → IsPutting old i all now items → i ≤ length old → i ≤ length items
place_inside old i all now items p l =
    let e = ap length p.is ∙ length-append (take i old) (p.done ++ drop (i + 1) old) in
    let t = length-take-le i old l in
    omega (arith, e, t)

pub none_left : {X : Type 0} (xs : List X) → length xs ≡ 0 → xs ≡ []
none_left [] e = refl
none_left (x ∷ xs) e = absurd (omega arith)

pub others_put : {A : Type 0} (leaves : List (Leaf A)) (i : ℕ) (others items : List (Leaf A)) → items ≡ take i leaves ++ (others ++ drop (i + 1) leaves) → map leaf_rows items ≡ with_leaves (map leaf_rows leaves) i (map leaf_rows others)
others_put leaves i others items e =
    ap (map leaf_rows) e
    ∙ map-append leaf_rows (take i leaves) (others ++ drop (i + 1) leaves)
    ∙ (λ k. sym (take-map leaf_rows i leaves) k ++ (map-append leaf_rows others (drop (i + 1) leaves) ∙ ap (λ l. map leaf_rows others ++ l) (sym (drop-map leaf_rows (i + 1) leaves))) k)

pub rows_at : {A : Type 0} (leaves : List (Leaf A)) (i : ℕ) (x : Leaf A) → i < length (map leaf_rows leaves) → x ≡ get_or leaves i x → slice_get (map leaf_rows leaves) i ≡ Some (leaf_rows x)
rows_at [] i x l e = absurd (omega arith)
rows_at (y ∷ leaves) zero x l e = ap (λ (k : Leaf _). Some (leaf_rows k)) (sym e)
rows_at (y ∷ leaves) (suc i) x l e = rows_at leaves i x (omega arith) e

pub same_leaf : (leaves : List LeafRows) (i : ℕ) (x y : LeafRows) → slice_get leaves i ≡ Some x → slice_get leaves i ≡ Some y → x ≡ y
same_leaf leaves i x y e f = same x y (sym e ∙ f) where
  same : (x y : LeafRows) → ◌≡◌ {A = Option LeafRows} (Some x) (Some y) → x ≡ y
  same x y e = cc

-- ---- leaves in a row

pub first_fence-append : (high : List ℕ) (xs ys : List LeafRows) → first_fence high (xs ++ ys) ≡ first_fence (first_fence high ys) xs
first_fence-append high [] ys = refl
first_fence-append high (x ∷ xs) ys = refl

pub to_left : (high : List ℕ) (xs ys : List LeafRows) → LeavesTo high (xs ++ ys) → LeavesTo (first_fence high ys) xs
to_left high [] ys t = tt
to_left high (x ∷ xs) ys t = (subst (IsLeafTile x) (first_fence-append high xs ys) t.0, to_left high xs ys t.1)

pub to_right : (high : List ℕ) (xs ys : List LeafRows) → LeavesTo high (xs ++ ys) → LeavesTo high ys
to_right high [] ys t = t
to_right high (x ∷ xs) ys t = to_right high xs ys t.1

pub tiled_both : (high : List ℕ) (xs ys : List LeafRows) → LeavesTo (first_fence high ys) xs → LeavesTo high ys → LeavesTo high (xs ++ ys)
tiled_both high [] ys t u = u
tiled_both high (x ∷ xs) ys t u = (subst (IsLeafTile x) (sym (first_fence-append high xs ys)) t.0, tiled_both high xs ys t.1 u)

-- ---- their rows by key

-- what three pieces of a row have of a key
three : (xs zs ys : List LeafRows) (key : List ℕ) (n : ℕ) → ops_in (row_messages (xs ++ (zs ++ ys))) key n ≡ or_else (ops_in (row_messages xs) key n) (or_else (ops_in (row_messages zs) key n) (ops_in (row_messages ys) key n))
three xs zs ys key n =
    ap (λ l. ops_in l key n) (flat_map-append (λ (l : LeafRows). map row_message l.1) xs (zs ++ ys)) ∙ ops-append (row_messages xs) (row_messages (zs ++ ys)) key n
    ∙ ap (or_else (ops_in (row_messages xs) key n)) (ap (λ l. ops_in l key n) (flat_map-append (λ (l : LeafRows). map row_message l.1) zs ys) ∙ ops-append (row_messages zs) (row_messages ys) key n)

-- nothing is there for a key below the first leaf
pub below_none : (high : List ℕ) (ls : List LeafRows) (key : List ℕ) (n : ℕ) → LeavesTo high ls → lt key (first_fence high ls) ≡ true → ops_in (row_messages ls) key n ≡ None
below_none high [] key n t l = refl
below_none high (x ∷ ls) key n t l =
    ops-append (map row_message x.1) (row_messages ls) key n
    ∙ both_none (ops_in (map row_message x.1) key n) (ops_in (row_messages ls) key n)
    (t.0.rows.outside key n (under x.0 (first_fence high ls) key l))
    (below_none high ls key n t.1 (lt_trans key x.0 (first_fence high ls) l (ap is_lt t.0.ordered)))

pub low_at_most : (high : List ℕ) (ls : List LeafRows) → LeavesTo high ls → lt high (first_fence high ls) ≡ false
low_at_most high [] t = lt_self high
low_at_most high (x ∷ ls) t = lt_not x.0 high (lt_le x.0 (first_fence high ls) high (ap is_lt t.0.ordered) (low_at_most high ls t.1))

-- nor for one from the end on
pub above_none : (high : List ℕ) (ls : List LeafRows) (key : List ℕ) (n : ℕ) → LeavesTo high ls → lt key high ≡ false → ops_in (row_messages ls) key n ≡ None
above_none high [] key n t l = refl
above_none high (x ∷ ls) key n t l =
    ops-append (map row_message x.1) (row_messages ls) key n
    ∙ both_none (ops_in (map row_message x.1) key n) (ops_in (row_messages ls) key n)
    (t.0.rows.outside key n (beyond x.0 (first_fence high ls) key (le_le (first_fence high ls) high key (low_at_most high ls t.1) l)))
    (above_none high ls key n t.1 l)

pub outside_none : (low high : List ℕ) (ls : List LeafRows) (key : List ℕ) (n : ℕ) → LeavesTo high ls → first_fence high ls ≡ low → spans low high key ≡ false → ops_in (row_messages ls) key n ≡ None
outside_none low high ls key n t e o = not_spanned low high key o
    (λ l. below_none high ls key n t (subst (λ f. lt key f ≡ true) (sym e) l))
    (λ _ h. above_none high ls key n t h)

-- ---- the row

-- a leaf of the row, with those below and above it
record Row (leaves : List LeafRows) (i : ℕ) (leaf : LeafRows) : Type 0 where
  are : leaves ≡ take i leaves ++ ((leaf ∷ []) ++ drop (i + 1) leaves)
  left : LeavesTo leaf.0 (take i leaves)
  tile : IsLeafTile leaf (fence_at leaves (i + 1))
  right : LeavesTo top_key (drop (i + 1) leaves)

row : (leaves : List LeafRows) (i : ℕ) (leaf : LeafRows) → LeavesTo top_key leaves → slice_get leaves i ≡ Some leaf → Row leaves i leaf
row leaves i leaf tiled at =
    let are = parted leaves i leaf at in
    let t : LeavesTo top_key (take i leaves ++ (leaf ∷ drop (i + 1) leaves)) = subst (LeavesTo top_key) are tiled in
    let u = to_right top_key (take i leaves) (leaf ∷ drop (i + 1) leaves) t in
    record {
      are = are;
      left = to_left top_key (take i leaves) (leaf ∷ drop (i + 1) leaves) t;
      tile = u.0;
      right = u.1;
    }

-- a key of the leaf has nothing beside those in its place
only : {leaves : List LeafRows} {i : ℕ} {leaf : LeafRows} (r : Row leaves i leaf) (zs : List LeafRows) (key : List ℕ) (n : ℕ) → spans leaf.0 (fence_at leaves (i + 1)) key ≡ true → ops_in (row_messages (with_leaves leaves i zs)) key n ≡ ops_in (row_messages zs) key n
only {leaves} {i} {leaf} r zs key n s =
    three (take i leaves) zs (drop (i + 1) leaves) key n
    ∙ none_or (ops_in (row_messages (take i leaves)) key n) (or_else (ops_in (row_messages zs) key n) (ops_in (row_messages (drop (i + 1) leaves)) key n)) (above_none leaf.0 (take i leaves) key n r.left (span_low leaf.0 (fence_at leaves (i + 1)) key s))
    ∙ or_none (ops_in (row_messages zs) key n) (ops_in (row_messages (drop (i + 1) leaves)) key n) (below_none top_key (drop (i + 1) leaves) key n r.right (span_high leaf.0 (fence_at leaves (i + 1)) key s))

own_rows : {leaves : List LeafRows} {i : ℕ} {leaf : LeafRows} (r : Row leaves i leaf) (key : List ℕ) (n : ℕ) → spans leaf.0 (fence_at leaves (i + 1)) key ≡ true → ops_in (row_messages leaves) key n ≡ ops_in (map row_message leaf.1) key n
own_rows {leaves} {i} {leaf} r key n s =
    ap (λ ls. ops_in (row_messages ls) key n) r.are ∙ only r (leaf ∷ []) key n s ∙ ap (λ ms. ops_in ms key n) (append-nil (map row_message leaf.1))

-- ---- before the merge

-- a leaf for which there are messages can take them
pub can_take : (leaf : LeafRows) (high : List ℕ) (ms : List TreeMessage) (pins : TenantPins) (target : ℕ) → CanGiveWay leaf high ms target → in_range leaf.0 high ms ≢ [] → CanReplace leaf high ms pins target
can_take leaf high ms pins target can some = record {
  tile = can.tile;
  size = can.size;
  within = range_within leaf.0 high ms;
  short = merged_short leaf.1 (in_range leaf.0 high ms) pins (λ key n s.
      by_test (spans leaf.0 high key)
      (λ t. subst (λ (f : Operations). IsValue (value_in (latest f n))) (λ j k. sym (own key k t) j) (can.short key t n))
      (λ t. absurd (none_some (ops_with (in_range leaf.0 high ms) leaf.1 key n)
      (both_none (ops_in (in_range leaf.0 high ms) key n) (ops_in (map row_message leaf.1) key n) ((range_within leaf.0 high ms).outside key n t) (can.tile.rows.outside key n t)) s)));
  some = some;
}
  where
    own : (key : List ℕ) (n : ℕ) → spans leaf.0 high key ≡ true → ops_with (in_range leaf.0 high ms) leaf.1 key n ≡ ops_with ms leaf.1 key n
    own key n s = ap (λ o. or_else o (ops_in (map row_message leaf.1) key n)) (ops-in_range leaf.0 high ms key n ∙ ap (λ t. cond t (ops_in ms key n) None) s)

pub can_replace : (leaves : List LeafRows) (i : ℕ) (ms : List TreeMessage) (pins : TenantPins) (target : ℕ) (leaf : LeafRows) → CanAbsorb leaves i ms target → slice_get leaves i ≡ Some leaf → CanReplace leaf (fence_at leaves (i + 1)) ms pins target
can_replace leaves i ms pins target leaf can at = can_take leaf (fence_at leaves (i + 1)) ms pins target
    (record {
      tile = r.tile;
      size = (all_split (λ (l : LeafRows). IsLeafSize target l.1) (take i leaves) (leaf ∷ drop (i + 1) leaves) (subst (AllByRecursion (λ (l : LeafRows). IsLeafSize target l.1)) r.are can.sizes)).1.0;
      short = λ key s. subst HasShortValues (λ j n. ap (or_else (ops_in ms key n)) (own_rows r key n s) j) (can.short key);
    })
    (subst (λ low. in_range low (fence_at leaves (i + 1)) ms ≢ []) (fence_is leaves i leaf at) can.some)
  where
    r : Row leaves i leaf
    r = row leaves i leaf can.tiled at

-- ---- after it

-- the row with the others, before small leaves are joined
pub record Middle (leaves : List LeafRows) (i : ℕ) (others : List LeafRows) : Type 0 where
  pub some : 0 < length (with_leaves leaves i others)
  pub tiled : LeavesTo top_key (with_leaves leaves i others)

pub middle : (leaves : List LeafRows) (i : ℕ) (leaf : LeafRows) (others : List LeafRows) → CanPutOthers leaves i others → slice_get leaves i ≡ Some leaf → Middle leaves i others
middle leaves i leaf others can at = record { some = by_others others refl; tiled = tiled } where
  r : Row leaves i leaf
  r = row leaves i leaf can.tiled at

  xs : List LeafRows
  xs = take i leaves

  ys : List LeafRows
  ys = drop (i + 1) leaves

  first : first_fence (fence_at leaves (i + 1)) others ≡ leaf.0
  first = can.first ∙ fence_is leaves i leaf at

  tiled : LeavesTo top_key (xs ++ (others ++ ys))
  tiled = tiled_both top_key xs (others ++ ys) (subst (λ low. LeavesTo low xs) (sym (first_fence-append top_key others ys ∙ first)) r.left) (tiled_both top_key others ys can.others_tiled r.right)

  by_others : (ls : List LeafRows) → ls ≡ others → 0 < length (xs ++ (others ++ ys))
  by_others [] e = absurd (no_path (sym (lt_self leaf.0) ∙ ap (lt leaf.0) (sym (ap (first_fence (fence_at leaves (i + 1))) e ∙ first)) ∙ ap is_lt r.tile.ordered))
  by_others (l ∷ ls) e =
      let n = length-append xs (others ++ ys) in
      let m = length-append others ys in
      let k = ap length e in
      omega (arith, n, m, k)

pub can_put : (leaves : List LeafRows) (i : ℕ) (ms : List TreeMessage) (pins : TenantPins) (target : ℕ) (leaf : LeafRows) (others : List LeafRows) → i < length leaves → LeavesTo top_key leaves → slice_get leaves i ≡ Some leaf
    → TakePlace leaf (fence_at leaves (i + 1)) ms pins target others → CanPutOthers leaves i others
can_put leaves i ms pins target leaf others inside tiled at made = record {
  inside = inside;
  tiled = tiled;
  others_tiled = made.tiled;
  first = made.first ∙ sym (fence_is leaves i leaf at);
}

-- of the messages above the leaves the leaf takes a batch, and of its keys newer ones are left
pub record Parting (leaf : LeafRows) (high : List ℕ) (ms left batch : List TreeMessage) : Type 0 where
  pub inside : (key : List ℕ) (n : ℕ) → spans leaf.0 high key ≡ true → ops_in ms key n ≡ or_else (ops_in left key n) (ops_in batch key n)
  pub outside : (key : List ℕ) (n : ℕ) → spans leaf.0 high key ≡ false → ops_in left key n ≡ ops_in ms key n
  pub newer : (key : List ℕ) → spans leaf.0 high key ≡ true → Above (ops_in left key) (ops_with batch leaf.1 key)
  pub held : (key : List ℕ) (n : ℕ) → IsSome (ops_in batch key n) → IsSome (ops_in ms key n)

pub stands_for : (leaves : List LeafRows) (i : ℕ) (ms left batch : List TreeMessage) (pins : TenantPins) (target : ℕ) (leaf : LeafRows) (others fresh : List LeafRows) → LeavesTo top_key leaves → AllByRecursion (λ (l : LeafRows). IsLeafSize target l.1) leaves
    → i < length leaves → slice_get leaves i ≡ Some leaf → Parting leaf (fence_at leaves (i + 1)) ms left batch → TakePlace leaf (fence_at leaves (i + 1)) batch pins target others → AreJoined target (with_leaves leaves i others) fresh
    → StandsFor leaves i ms left pins target fresh
stands_for leaves i ms left batch pins target leaf others fresh tiled sizes within at parting made joined = record {
  some = same.some between.some;
  first = same.first top_key ∙ first_fence-append top_key xs (others ++ ys) ∙ ap (λ low. first_fence low xs) lows ∙ sym (first_fence-append top_key xs (leaf ∷ ys)) ∙ sym (ap (first_fence top_key) r.are);
  sizes = same.sizes (with_others (λ l. IsLeafSize target l.1) sizes (λ _. made.sizes));
  means = λ key. by_test (spans leaf.0 high key)
      (λ s. subst (λ f. MeanTheSame (pins (tenant_of key)) f (now key)) (sym (old_inside key s)) (subst (MeanTheSame (pins (tenant_of key)) (over (ops_in left key) (ops_with batch leaf.1 key))) (sym (new_inside key s))
      (over_same (pins (tenant_of key)) (ops_in left key) (ops_with batch leaf.1 key) (ops_in (row_messages others) key) (parting.newer key s) (record { way = made.agrees key s; short = made.short key s; there = made.keys key }))))
      (λ s. subst (MeanTheSame (pins (tenant_of key)) (ops_above ms leaves key)) (sym (outside key s)) (same_itself (pins (tenant_of key)) (ops_above ms leaves key)));
  beside = λ key n. rw (fence_is leaves i leaf at) (λ o. same_rows key n o);
  fences = λ low high old all. same.fences low high (with_others (λ l. spans low high l.0 ≡ true) old (λ s. each low high s all others made.fences));
}
  where
    r : Row leaves i leaf
    r = row leaves i leaf tiled at

    high : List ℕ
    high = fence_at leaves (i + 1)

    xs : List LeafRows
    xs = take i leaves

    ys : List LeafRows
    ys = drop (i + 1) leaves

    same : SameRows target (xs ++ (others ++ ys)) fresh
    same = joined_same target (xs ++ (others ++ ys)) fresh joined

    -- the others begin where the leaf did
    lows : first_fence top_key (others ++ ys) ≡ leaf.0
    lows = first_fence-append top_key others ys ∙ made.first

    between : Middle leaves i others
    between = middle leaves i leaf others (can_put leaves i batch pins target leaf others within tiled at made) at

    -- what each leaf has, and each of the others has where the leaf has it
    with_others : (P : LeafRows → Type 0) → AllByRecursion P leaves → (P leaf → AllByRecursion P others) → AllByRecursion P (xs ++ (others ++ ys))
    with_others P all h =
        let split = all_split P xs (leaf ∷ ys) (subst (AllByRecursion P) r.are all) in
        all_join P xs (others ++ ys) split.0 (all_join P others ys (h split.1.0) split.1.1)

    now : List ℕ → Operations
    now key = ops_above left fresh key

    fresh_rows : (key : List ℕ) (n : ℕ) → ops_in (row_messages fresh) key n ≡ ops_in (row_messages (xs ++ (others ++ ys))) key n
    fresh_rows key n = ap (λ l. ops_in l key n) same.rows

    old_inside : (key : List ℕ) → spans leaf.0 high key ≡ true → ops_above ms leaves key ≡ over (ops_in left key) (ops_with batch leaf.1 key)
    old_inside key s = λ j n. (ap (or_else (ops_in ms key n)) (own_rows r key n s)
        ∙ ap (λ o. or_else o (ops_in (map row_message leaf.1) key n)) (parting.inside key n s)
        ∙ or_assoc (ops_in left key n) (ops_in batch key n) (ops_in (map row_message leaf.1) key n)) j

    new_inside : (key : List ℕ) → spans leaf.0 high key ≡ true → now key ≡ over (ops_in left key) (ops_in (row_messages others) key)
    new_inside key s = λ j n. ap (or_else (ops_in left key n)) (fresh_rows key n ∙ only r others key n s) j

    same_rows : (key : List ℕ) (n : ℕ) → spans leaf.0 high key ≡ false → ops_in (row_messages fresh) key n ≡ ops_in (row_messages leaves) key n
    same_rows key n o =
        fresh_rows key n ∙ three xs others ys key n
        ∙ ap (λ q. or_else (ops_in (row_messages xs) key n) (or_else q (ops_in (row_messages ys) key n)))
        (outside_none leaf.0 high others key n made.tiled made.first o ∙ sym (outside_none leaf.0 high (leaf ∷ []) key n (r.tile, tt) refl o))
        ∙ sym (three xs (leaf ∷ []) ys key n) ∙ sym (ap (λ ls. ops_in (row_messages ls) key n) r.are)

    outside : (key : List ℕ) → spans leaf.0 high key ≡ false → now key ≡ ops_above ms leaves key
    outside key o = λ j n. (ap (λ q. or_else q (ops_in (row_messages fresh) key n)) (parting.outside key n o)
        ∙ ap (or_else (ops_in ms key n)) (same_rows key n o)) j

    -- what a leaf and its batch have, the row and all messages have
    whole : (key : List ℕ) → AreThere (ops_with batch leaf.1 key) → AreThere (ops_above ms leaves key)
    whole key t = (
      t.0,
      some_or (ops_in batch key t.0) (ops_in (map row_message leaf.1) key t.0)
          (λ s. some_left (ops_in ms key t.0) (ops_in (row_messages leaves) key t.0) (parting.held key t.0 s))
          (λ s. some_right (ops_in ms key t.0) (ops_in (row_messages leaves) key t.0)
          (subst IsSome (sym (ap (λ ls. ops_in (row_messages ls) key t.0) r.are ∙ three xs (leaf ∷ []) ys key t.0))
          (some_right (ops_in (row_messages xs) key t.0) (or_else (ops_in (row_messages (leaf ∷ [])) key t.0) (ops_in (row_messages ys) key t.0))
          (some_left (ops_in (row_messages (leaf ∷ [])) key t.0) (ops_in (row_messages ys) key t.0)
          (subst IsSome (ap (λ l. ops_in l key t.0) (sym (append-nil (map row_message leaf.1)))) s)))))
          t.1,
    )

    each : (low high : List ℕ) → spans low high leaf.0 ≡ true → ((key : List ℕ) → AreThere (ops_above ms leaves key) → spans low high key ≡ true) → (ls : List LeafRows) → AllByRecursion (λ (l : LeafRows). IsFence leaf batch l.0) ls → AllByRecursion (λ (l : LeafRows). spans low high l.0 ≡ true) ls
    each low high s all [] f = tt
    each low high s all (l ∷ ls) f = (
      ⊎_elim (λ (e : l.0 ≡ leaf.0). ap (spans low high) e ∙ s) (λ (k : AreThere (ops_with batch leaf.1 l.0)). all l.0 (whole l.0 k)) f.0,
      each low high s all ls f.1,
    )

-- all messages for the leaf are merged into it
pub merged_stands_for : (leaves : List LeafRows) (i : ℕ) (ms : List TreeMessage) (pins : TenantPins) (target : ℕ) (leaf : LeafRows) (others fresh : List LeafRows) → CanAbsorb leaves i ms target → slice_get leaves i ≡ Some leaf
    → TakePlace leaf (fence_at leaves (i + 1)) ms pins target others → AreJoined target (with_leaves leaves i others) fresh → StandsFor leaves i ms (left_above leaves i ms) pins target fresh
merged_stands_for leaves i ms pins target leaf others fresh can at made joined =
    stands_for leaves i ms left ms pins target leaf others fresh can.tiled can.sizes can.inside at
    (record {
      inside = λ key n s. sym (none_or (ops_in left key n) (ops_in ms key n) (left_inside key n s));
      outside = λ key n o. left_is key n ∙ ap (λ t. cond (not t) (ops_in ms key n) None) o;
      newer = λ key s n k t u. absurd (none_some (ops_in left key n) (left_inside key n s) t);
      held = λ key n s. s;
    }) made joined
  where
    left : List TreeMessage
    left = left_above leaves i ms

    left_is : (key : List ℕ) (n : ℕ) → ops_in left key n ≡ cond (not (spans leaf.0 (fence_at leaves (i + 1)) key)) (ops_in ms key n) None
    left_is key n = ap (λ low. ops_in (out_of_range low (fence_at leaves (i + 1)) ms) key n) (fence_is leaves i leaf at) ∙ ops-out_of_range leaf.0 (fence_at leaves (i + 1)) ms key n

    left_inside : (key : List ℕ) (n : ℕ) → spans leaf.0 (fence_at leaves (i + 1)) key ≡ true → ops_in left key n ≡ None
    left_inside key n s = left_is key n ∙ ap (λ t. cond (not t) (ops_in ms key n) None) s

-- the batch of a job that is put there goes
pub installed_stands_for : {A : Type 0} (leaves : List LeafRows) (i : ℕ) (ms left : List TreeMessage) (pins : TenantPins) (job : FlushJob A) (others fresh : List LeafRows) (can : CanPutPages leaves i job)
    → BatchGoes leaves i ms left job.batch.messages job.page → TakePlace can.leaf (fence_at leaves (i + 1)) job.batch.messages pins job.target.leaf_target others
    → AreJoined job.target.leaf_target (with_leaves leaves i others) fresh → StandsFor leaves i ms left pins job.target.leaf_target fresh
installed_stands_for leaves i ms left pins job others fresh can goes made joined =
    stands_for leaves i ms left job.batch.messages pins job.target.leaf_target can.leaf others fresh can.tiled can.sizes can.inside can.at
    (record {
      inside = λ key n s. goes.parts key n;
      outside = λ key n o. sym (goes.parts key n ∙ or_none (ops_in left key n) (ops_in job.batch.messages key n) (can.is.within.outside key n o));
      newer = λ key s n k t u. goes.newer key n k (ap (λ low. spans low (fence_at leaves (i + 1)) key) (fence_is leaves i can.leaf can.at) ∙ s) t
          (subst (λ rows. IsSome (ops_with job.batch.messages rows key k)) (sym can.is.page) u);
      held = λ key n s. subst IsSome (sym (goes.parts key n)) (some_right (ops_in left key n) (ops_in job.batch.messages key n) s);
    }) made joined

-- ---- its cache

-- all leaves but the one are still there
others_stay : (leaves : List LeafRows) (i : ℕ) (leaf : LeafRows) (others : List LeafRows) (l : LeafRows) → slice_get leaves i ≡ Some leaf → Contains leaves l → l.0 ≢ leaf.0 → Contains (with_leaves leaves i others) l
others_stay leaves i leaf others l at c ne = ⊎_elim
    (λ (x : Contains xs l). Contains-append_left xs (others ++ ys) l x)
    (λ (x : Contains (leaf ∷ ys) l). ⊎_elim
    (λ (e : leaf ≡ l). absurd (ne (ap (λ (k : LeafRows). k.0) (sym e))))
    (λ (d : Contains ys l). Contains-append_right xs (others ++ ys) l (Contains-append_right others ys l d))
    (contains_cases leaf l ys x))
    (Contains-append_cases xs (leaf ∷ ys) l (subst (λ ls. Contains ls l) (parted leaves i leaf at) c))
  where
    xs : List LeafRows
    xs = take i leaves

    ys : List LeafRows
    ys = drop (i + 1) leaves

-- the leaf was forgotten, and then those that were joined
pub merged_forgets : (leaves middle fresh : List LeafRows) (i : ℕ) (leaf : LeafRows) (others : List LeafRows) (low : List ℕ) (a b c : Cache) → slice_get leaves i ≡ Some leaf → middle ≡ with_leaves leaves i others → low ≡ leaf.0
    → b.limit ≡ a.limit → b.leaves ≡ leaves_without low a.leaves → rows_under low b.leaves ≡ None → Forgets middle fresh b c → Forgets leaves fresh a c
merged_forgets leaves middle fresh i leaf others low a b c at put l limit without gone f =
    forgets_then leaves middle fresh a b c
    (forgets_one low leaves middle a b limit without gone (λ x o ne. subst (λ ls. Contains ls x) (sym put) (others_stay leaves i leaf others x at o (λ e. ne (e ∙ sym l))))) f

pub merged_joins : (target : ℕ) (leaves middle fresh : List LeafRows) (i : ℕ) (leaf : LeafRows) (others : List LeafRows) (low : List ℕ) (a b c : Cache) → middle ≡ with_leaves leaves i others → low ≡ leaf.0
    → b.limit ≡ a.limit → b.leaves ≡ leaves_without low a.leaves → JoinsAll target middle fresh b c → JoinsAll target (with_leaves leaves i others) fresh (cache_without (leaf.0 ∷ []) a) c
merged_joins target leaves middle fresh i leaf others low a b c put l limit without j =
    subst (λ ls. JoinsAll target ls fresh (cache_without (leaf.0 ∷ []) a) c) put
    (subst (λ k. JoinsAll target middle fresh k c) (forgot leaf.0 a b limit (without ∙ ap (λ f. leaves_without f a.leaves) l)) j)
