-- Leaves in a row, as some are joined from the lowest on.
use Rattle.std.proofs.Common.{◌≡◌, ℕ, zero, suc, ◌+◌, ◌<◌, ◌≤◌, true, false, List, [], ◌∷◌, ◌++◌, length, map, take, drop, set, get_or, Bool, Option, Some, None, refl, sym, ap, ◌∙◌, subst, arith, length-append, append_assoc}
use Rattle.std.specs.Prelude.{Contains}
use Rattle.std.proofs.lemmas.List.{map-append, length-map, take-map, drop-map}
use Rattle.stow_leaf.specs.StowMerge.Pages.{KeysBelow}
use Rattle.stow_leaf.specs.Intervals.{top_key}
use Rattle.stow_leaf.specs.LeafRows.{LeafRows, leaf_rows, LeavesTo}
use Rattle.stow_leaf.specs.declared.leaf.Leaf.{Leaf}
use Rattle.stow_leaf_cache.specs.Cache.{Cache, rows_under, leaves_without}
use Rattle.stow_leaf_cache.specs.StowTreeModel.Version.{Version}
use Rattle.stow_leaves.specs.Forgets.{Forgets, cache_without}
use Rattle.stow_leaves.specs.Joins.{AreToJoin, JoinsAll, LosesPair, NoneToJoin, Pair, with_joined, IsJoinOf, JoinsPair}
use Rattle.stow_leaves.proofs.Forgotten.{forgot, forgets_two}
use Rattle.stow_leaves.proofs.Joined.{both_tiles, keys_below, others_stay, Settled, none_to_join, settled_grown, settled_next}

-- ---- a pair

middle_at : {X : Type 0} (before : List X) (x d : X) (after : List X) → get_or (before ++ (x ∷ after)) (length before) d ≡ x
middle_at [] x d after = refl
middle_at (y ∷ before) x d after = middle_at before x d after

next_at : {X : Type 0} (before : List X) (x y d : X) (after : List X) → get_or (before ++ (x ∷ y ∷ after)) (length before + 1) d ≡ y
next_at [] x y d after = refl
next_at (z ∷ before) x y d after = let e : suc (length before) + 1 ≡ suc (length before + 1) = omega arith in ap (λ n. get_or (z ∷ (before ++ (x ∷ y ∷ after))) n d) e ∙ next_at before x y d after

get-map : {X Y : Type 0} (f : X → Y) (xs : List X) (i : ℕ) (d : X) → f (get_or xs i d) ≡ get_or (map f xs) i (f d)
get-map f [] i d = refl
get-map f (x ∷ xs) zero d = refl
get-map f (x ∷ xs) (suc i) d = get-map f xs i d

pub lower_is : {A : Type 0} (leaves : List (Leaf A)) {i : ℕ} (pair : Pair (map leaf_rows leaves) i) (x : Leaf A) → x ≡ get_or leaves i x → leaf_rows x ≡ pair.lower
lower_is leaves {i} pair x e =
    ap leaf_rows e ∙ get-map leaf_rows leaves i x
    ∙ (λ k. get_or (pair.are k) (sym pair.place k) (leaf_rows x))
    ∙ middle_at pair.before pair.lower (leaf_rows x) (pair.upper ∷ pair.after)

pub upper_is : {A : Type 0} (leaves : List (Leaf A)) {i : ℕ} (pair : Pair (map leaf_rows leaves) i) (x : Leaf A) → x ≡ get_or leaves (i + 1) x → leaf_rows x ≡ pair.upper
upper_is leaves {i} pair x e =
    ap leaf_rows e ∙ get-map leaf_rows leaves (i + 1) x
    ∙ (λ k. get_or (pair.are k) (sym pair.place k + 1) (leaf_rows x))
    ∙ next_at pair.before pair.lower pair.upper (leaf_rows x) pair.after

pub pair_length : {leaves : List LeafRows} {i : ℕ} (pair : Pair leaves i) → length leaves ≡ i + (length pair.after + 2)
pair_length pair =
    let n = ap length pair.are ∙ length-append pair.before (pair.lower ∷ pair.upper ∷ pair.after) in
    let p = pair.place in
    omega (arith, n, p)

pub pair_inside : {A : Type 0} (leaves : List (Leaf A)) {i : ℕ} (pair : Pair (map leaf_rows leaves) i) → i + 1 < length leaves
pair_inside leaves pair = omega (arith, pair_length pair, length-map leaves leaf_rows)

pub rows_below : {leaves : List LeafRows} {i : ℕ} (pair : Pair leaves i) (x y : LeafRows) → x ≡ pair.lower → y ≡ pair.upper → KeysBelow x.1 y.1
rows_below pair x y e f = subst (λ (l : LeafRows). KeysBelow l.1 y.1) (sym e) (subst (λ (l : LeafRows). KeysBelow pair.lower.1 l.1) (sym f)
    (keys_below top_key pair.before pair.lower pair.upper pair.after pair.tiled))

-- ---- whether the pair is to join

pub not_to_join : {leaves : List LeafRows} {i : ℕ} (pair : Pair leaves i) (target : ℕ) (x y : LeafRows) (rows : Option (List Version)) → x ≡ pair.lower → y ≡ pair.upper → IsJoinOf target x.1 y.1 rows → rows ≡ None → AreToJoin target pair.lower.1 pair.upper.1 → ⊥
not_to_join pair target x y (Some rows) e f j is = absurd cc
not_to_join pair target x y None e f j is = λ can. j (subst (λ (l : LeafRows). AreToJoin target l.1 y.1) (sym e) (subst (λ (l : LeafRows). AreToJoin target pair.lower.1 l.1) (sym f) can))

pub to_join : {leaves : List LeafRows} {i : ℕ} (pair : Pair leaves i) (target : ℕ) (x y : LeafRows) (o : Option (List Version)) (rows : List Version) (new : List LeafRows) → x ≡ pair.lower → y ≡ pair.upper → IsJoinOf target x.1 y.1 o → o ≡ Some rows → new ≡ with_joined pair rows → JoinsPair target pair new true
to_join pair target x y None rows new e f j is n = absurd cc
to_join pair target x y (Some found) rows new e f j is n = (
  subst (λ (l : LeafRows). AreToJoin target pair.lower.1 l.1) f (subst (λ (l : LeafRows). AreToJoin target l.1 y.1) e j.0),
  n ∙ ap (with_joined pair) (same rows found (sym is) ∙ j.1 ∙ (λ k. (e k).1 ++ (f k).1)),
)
  where
    same : (a b : List Version) → ◌≡◌ {A = Option (List Version)} (Some a) (Some b) → a ≡ b
    same a b e = cc

-- ---- one leaf in the pair's place

removed : {X : Type 0} (before : List X) (x y : X) (after : List X) → take (length before + 1) (before ++ (x ∷ y ∷ after)) ++ drop (length before + 1 + 1) (before ++ (x ∷ y ∷ after)) ≡ before ++ (x ∷ after)
removed [] x y after = refl
removed (z ∷ before) x y after =
    let e : suc (length before) + 1 ≡ suc (length before + 1) = omega arith in
    let f : suc (length before) + 1 + 1 ≡ suc (length before + 1 + 1) = omega arith in
    (λ k. take (e k) (z ∷ (before ++ (x ∷ y ∷ after))) ++ drop (f k) (z ∷ (before ++ (x ∷ y ∷ after)))) ∙ ap (λ l. z ∷ l) (removed before x y after)

set_middle : {X : Type 0} (before : List X) (x y : X) (after : List X) → set (before ++ (x ∷ after)) (length before) y ≡ before ++ (y ∷ after)
set_middle [] x y after = refl
set_middle (z ∷ before) x y after = ap (λ l. z ∷ l) (set_middle before x y after)

map-set : {X Y : Type 0} (f : X → Y) (xs : List X) (i : ℕ) (x : X) → map f (set xs i x) ≡ set (map f xs) i (f x)
map-set f [] i x = refl
map-set f (y ∷ xs) zero x = refl
map-set f (y ∷ xs) (suc i) x = ap (λ l. f y ∷ l) (map-set f xs i x)

-- the rows without those of the upper one
without_upper : {A : Type 0} (leaves left : List (Leaf A)) {i : ℕ} (pair : Pair (map leaf_rows leaves) i) → left ≡ take (i + 1) leaves ++ drop (i + 1 + 1) leaves → map leaf_rows left ≡ pair.before ++ (pair.lower ∷ pair.after)
without_upper leaves left {i} pair e =
    ap (map leaf_rows) e
    ∙ map-append leaf_rows (take (i + 1) leaves) (drop (i + 1 + 1) leaves)
    ∙ (λ k. sym (take-map leaf_rows (i + 1) leaves) k ++ sym (drop-map leaf_rows (i + 1 + 1) leaves) k)
    ∙ (λ k. take (sym pair.place k + 1) (pair.are k) ++ drop (sym pair.place k + 1 + 1) (pair.are k))
    ∙ removed pair.before pair.lower pair.upper pair.after

-- the lower one, which is still there, gets rows
pub joined_as : {A : Type 0} (leaves left new : List (Leaf A)) {i : ℕ} (pair : Pair (map leaf_rows leaves) i) (x : Leaf A) (rows : List Version) → left ≡ take (i + 1) leaves ++ drop (i + 1 + 1) leaves → x ≡ get_or left i x → new ≡ set left i (record x { rows = rows }) → map leaf_rows new ≡ with_joined pair rows
joined_as leaves left new {i} pair x rows e here f =
    ap (map leaf_rows) f
    ∙ map-set leaf_rows left i (record x { rows = rows })
    ∙ (λ k. set (are k) (sym pair.place k) ((low k).0, rows))
    ∙ set_middle pair.before pair.lower (pair.lower.0, rows) pair.after
  where
    are : map leaf_rows left ≡ pair.before ++ (pair.lower ∷ pair.after)
    are = without_upper leaves left pair e

    low : leaf_rows x ≡ pair.lower
    low = ap leaf_rows here ∙ get-map leaf_rows left i x ∙ (λ k. get_or (are k) (sym pair.place k) (leaf_rows x)) ∙ middle_at pair.before pair.lower (leaf_rows x) pair.after

-- the cache forgot both
pub forgets_pair : {leaves : List LeafRows} {i : ℕ} (pair : Pair leaves i) (new : List LeafRows) (lower upper : List ℕ) (a b c : Cache) → new ≡ with_joined pair (pair.lower.1 ++ pair.upper.1) → lower ≡ pair.lower.0 → upper ≡ pair.upper.0
    → b.limit ≡ a.limit → b.leaves ≡ leaves_without lower a.leaves → rows_under lower b.leaves ≡ None → c.limit ≡ b.limit → c.leaves ≡ leaves_without upper b.leaves → rows_under upper c.leaves ≡ None
    → Forgets leaves new a c
forgets_pair {leaves} pair new lower upper a b c n l u limit without gone limit2 without2 gone2 =
    forgets_two lower upper leaves new a b c limit without gone limit2 without2 gone2
    (λ leaf o not_lower not_upper. subst (λ ls. Contains ls leaf) (sym n)
    (others_stay pair.before pair.lower pair.upper pair.after leaf (subst (λ ls. Contains ls leaf) pair.are o) (λ e. not_lower (e ∙ sym l)) (λ e. not_upper (e ∙ sym u))))

-- the cache lost both
pub loses_pair : {leaves : List LeafRows} {i : ℕ} (pair : Pair leaves i) (lower upper : List ℕ) (a b c : Cache) → lower ≡ pair.lower.0 → upper ≡ pair.upper.0
    → b.limit ≡ a.limit → b.leaves ≡ leaves_without lower a.leaves → c.limit ≡ b.limit → c.leaves ≡ leaves_without upper b.leaves → LosesPair pair a c true
loses_pair pair lower upper a b c l u limit without limit2 without2 =
    forgot pair.upper.0 b c limit2 (without2 ∙ ap (λ f. leaves_without f b.leaves) u)
    ∙ ap (cache_without (pair.upper.0 ∷ [])) (forgot pair.lower.0 a b limit (without ∙ ap (λ f. leaves_without f a.leaves) l))

-- ---- from the lowest on

-- the leaves up to this place are joined
pub record AreJoining (target : ℕ) (now : List LeafRows) (i : ℕ) : Type 0 where
  pub before : List LeafRows
  pub at : LeafRows
  pub after : List LeafRows
  pub place : length before ≡ i
  pub are : now ≡ before ++ (at ∷ after)
  pub tiled : LeavesTo top_key (before ++ (at ∷ after))
  pub settled : Settled target (before ++ (at ∷ []))

pub joining_first : (target : ℕ) (leaves : List LeafRows) → LeavesTo top_key leaves → 0 < length leaves → AreJoining target leaves 0
joining_first target [] t some = absurd (omega (arith, some))
joining_first target (l ∷ leaves) t some = record { before = []; at = l; after = leaves; place = refl; are = refl; tiled = t; settled = tt }

-- a leaf stands above the one that the joins came to
pub record HasNext {target : ℕ} {now : List LeafRows} {i : ℕ} (j : AreJoining target now i) : Type 0 where
  pub upper : LeafRows
  pub rest : List LeafRows
  pub is : j.after ≡ upper ∷ rest

pub count_is : {target : ℕ} {now : List LeafRows} {i : ℕ} (j : AreJoining target now i) → length now ≡ i + (length j.after + 1)
count_is j =
    let n = ap length j.are ∙ length-append j.before (j.at ∷ j.after) in
    let p = j.place in
    omega (arith, n, p)

pub has_next : {target : ℕ} {now : List LeafRows} {i : ℕ} (j : AreJoining target now i) → i + 1 < length now → HasNext j
has_next j more = by_after j.after refl where
  by_after : (after : List LeafRows) → j.after ≡ after → HasNext j
  by_after [] e = absurd (omega (arith, count_is j, ap length e, more))
  by_after (upper ∷ rest) e = record { upper = upper; rest = rest; is = e }

-- both
abbrev pub pair_of : {target : ℕ} {now : List LeafRows} {i : ℕ} (j : AreJoining target now i) → HasNext j → Pair now i
pair_of j n =
    record {
      before = j.before;
      lower = j.at;
      upper = n.upper;
      after = n.rest;
      place = j.place;
      are = j.are ∙ ap (λ ls. j.before ++ (j.at ∷ ls)) n.is;
      tiled = subst (λ ls. LeavesTo top_key (j.before ++ (j.at ∷ ls))) n.is j.tiled;
    }

-- they are not to join
joining_on : {target : ℕ} {now : List LeafRows} {i : ℕ} (j : AreJoining target now i) (n : HasNext j) (new : List LeafRows) → new ≡ now → (AreToJoin target j.at.1 n.upper.1 → ⊥) → AreJoining target new (i + 1)
joining_on {target} {now} {i} j n new e no_join = subst (λ ls. AreJoining target ls (i + 1)) (sym e) (record {
  before = j.before ++ (j.at ∷ []);
  at = n.upper;
  after = n.rest;
  place = omega (arith, length-append j.before (j.at ∷ []), j.place);
  are = (pair_of j n).are ∙ sym (append_assoc j.before (j.at ∷ []) (n.upper ∷ n.rest));
  tiled = subst (LeavesTo top_key) (sym (append_assoc j.before (j.at ∷ []) (n.upper ∷ n.rest))) (pair_of j n).tiled;
  settled = subst (Settled target) (sym (append_assoc j.before (j.at ∷ []) (n.upper ∷ []))) (settled_next target j.before j.at n.upper j.settled no_join);
})

-- they are joined
joining_joined : {target : ℕ} {now : List LeafRows} {i : ℕ} (j : AreJoining target now i) (n : HasNext j) (new : List LeafRows) → new ≡ with_joined (pair_of j n) (j.at.1 ++ n.upper.1) → AreJoining target new i
joining_joined {target} {now} {i} j n new e = record {
  before = j.before;
  at = (j.at.0, j.at.1 ++ n.upper.1);
  after = n.rest;
  place = j.place;
  are = e;
  tiled = both_tiles top_key j.before j.at n.upper n.rest (pair_of j n).tiled;
  settled = settled_grown target j.before j.at n.upper j.settled;
}

-- one pair more was joined, or none was
pub joins_more : {leaves : List LeafRows} {i : ℕ} (pair : Pair leaves i) (target : ℕ) (old new : List LeafRows) (a b c : Cache) (joins : Bool) → JoinsAll target old leaves a b → JoinsPair target pair new joins → LosesPair pair b c joins → JoinsAll target old new a c
joins_more {leaves} pair target old new a b c false all h same = subst (λ ls. JoinsAll target old ls a c) (sym h.0) (subst (JoinsAll target old leaves a) (sym same) all)
joins_more {leaves} pair target old new a b c true all h lost = record {
  joined = (
    suc all.joined.0,
    (
      leaves,
      all.joined.1,
      record { before = pair.before; lower = pair.lower; upper = pair.upper; after = pair.after; are_to_join = h.0; were = pair.are; are = h.1 },
    ),
  );
  lost = lost ∙ ap (cache_without (pair.upper.0 ∷ pair.lower.0 ∷ [])) all.lost;
}

pub joins_none : (target : ℕ) (leaves : List LeafRows) (cache : Cache) → JoinsAll target leaves leaves cache cache
joins_none target leaves cache = record { joined = (0, refl); lost = refl }

-- a join makes one leaf fewer
fewer : {leaves : List LeafRows} {i : ℕ} (pair : Pair leaves i) (rows : List Version) (new : List LeafRows) → new ≡ with_joined pair rows → length new + 1 ≡ length leaves
fewer pair rows new e =
    let n = ap length e ∙ length-append pair.before ((pair.lower.0, rows) ∷ pair.after) in
    omega (arith, n, pair_length pair, pair.place)

-- where a look at the next pair leads
pub record HasLooked (target : ℕ) (now new : List LeafRows) (next less : ℕ) : Type 0 where
  pub joining : AreJoining target new next
  pub count_is : length new + less ≡ length now

pub looked_on : {target : ℕ} {now : List LeafRows} {i : ℕ} (j : AreJoining target now i) (n : HasNext j) (new : List LeafRows) (joins : Bool) → JoinsPair target (pair_of j n) new joins → joins ≡ false → HasLooked target now new (i + 1) 0
looked_on j n new true h e = absurd cc
looked_on j n new false h e = record { joining = joining_on j n new h.0 h.1; count_is = let l = ap length h.0 in omega arith }

pub looked_joined : {target : ℕ} {now : List LeafRows} {i : ℕ} (j : AreJoining target now i) (n : HasNext j) (new : List LeafRows) (joins : Bool) → JoinsPair target (pair_of j n) new joins → joins ≡ true → HasLooked target now new i 1
looked_joined j n new true h e = record { joining = joining_joined j n new h.1; count_is = fewer (pair_of j n) (j.at.1 ++ n.upper.1) new h.1 }
looked_joined j n new false h e = absurd cc

-- the joins came to the last leaf
pub joining_done : {target : ℕ} {now : List LeafRows} {i : ℕ} (j : AreJoining target now i) → length now ≤ i + 1 → NoneToJoin target now
joining_done {target} {now} {i} j last = by_after j.after refl where
  by_after : (after : List LeafRows) → j.after ≡ after → NoneToJoin target now
  by_after (l ∷ rest) e = absurd (omega (arith, count_is j, ap length e, last))
  by_after [] e = none_to_join target now (subst (Settled target) (sym (j.are ∙ ap (λ ls. j.before ++ (j.at ∷ ls)) e)) j.settled)
