-- A row of leaves of which each gave way to others, with all messages merged.
use Rattle.std.proofs.Common.{zero, suc, ◌≡◌, ℕ, ◌≤◌, true, false, cond, List, [], ◌∷◌, ◌++◌, length, map, None, refl, sym, ap, ◌∙◌, subst, arith, ⊎_elim, inl, length-append, append_assoc, append-nil}
use Rattle.std.specs.List.{AllByRecursion}
use Rattle.std.specs.Ordering.{is_lt}
use Rattle.std.specs.Prelude.{IsSome, Contains}
use Rattle.std.proofs.lemmas.Grind.{flat_map-append}
use Rattle.stow_leaf_cache.specs.Cache.{Cache, rows_under, leaves_without}
use Rattle.stow_leaf.proofs.StowMerge.Lists.{all_split, all_join}
use Rattle.stow_leaf.proofs.StowMessage.RisingLists.{no_path, lt_is}
use Rattle.stow_leaf.specs.StowMessage.Rising.{in_range}
use Rattle.stow_leaf_cache.specs.StowTreeModel.Agreement.{TenantPins}
use Rattle.stow_leaf_cache.specs.StowTreeModel.Keys.{tenant_of}
use Rattle.stow_leaf_cache.specs.StowTreeModel.Merged.{row_message}
use Rattle.stow_leaf_cache.specs.StowTreeModel.Messages.{ops_in}
use Rattle.stow_leaf_cache.specs.StowTreeModel.Operations.{or_else}
use Rattle.stow_leaf_cache.specs.StowTreeModel.TreeMessage.{TreeMessage}
use Rattle.stow_leaf_cache.proofs.StowTreeModel.Latest.{contains_cases}
use Rattle.stow_leaf.specs.Intervals.{top_key, spans}
use Rattle.stow_leaf.specs.LeafRows.{LeafRows, row_messages, first_fence, IsLeafTile, LeavesTo}
use Rattle.stow_leaf.specs.Replacements.{IsLeafSize, AreThere, HasShortValues, MeanTheSame, ops_with, IsFence, TakePlace}
use Rattle.stow_leaf_cache.specs.StowBytes.Bytes.{bytes_cmp}
use Rattle.stow_leaf.proofs.Found.{none_or, or_none, some_or, some_left, some_right}
use Rattle.stow_leaf.proofs.Intervals.{lt, by_test, lt_self, lt_not, lt_le, le_le, under, beyond, not_spanned, span_low, span_high, spanned}
use Rattle.stow_leaf.proofs.Ops.{ops-append, ops-in_range}
use Rattle.stow_leaf.proofs.Over.{same_pointwise}
use Rattle.stow_leaves.specs.Absorbs.{ops_above}
use Rattle.stow_leaves.specs.AbsorbsAll.{CanAbsorbAll, CanGiveWay, Stays, IsReplaced, GivesWay, AllGiveWay, StandsForAll}
use Rattle.stow_leaves.specs.Forgets.{Forgets}
use Rattle.stow_leaves.specs.Joins.{AreJoined}
use Rattle.stow_leaves.proofs.Forgotten.{forgets_nothing, forgets_one, forgets_then, forgets_within}
use Rattle.stow_leaves.proofs.Joined.{SameRows, joined_same}
use Rattle.stow_leaves.proofs.Replaced.{first_fence-append, to_left, to_right, tiled_both, below_none, above_none, low_at_most}

-- ---- a leaf

stays_in_place : (leaf : LeafRows) (high : List ℕ) (ms : List TreeMessage) (pins : TenantPins) (target : ℕ) → IsLeafTile leaf high → IsLeafSize target leaf.1 → in_range leaf.0 high ms ≡ [] → TakePlace leaf high ms pins target (leaf ∷ [])
stays_in_place leaf high ms pins target tile size none = record {
  tiled = (tile, tt);
  first = refl;
  sizes = (size, tt);
  agrees = λ key s. (same_pointwise (pins (tenant_of key)) (ops_with ms leaf.1 key) (ops_in (row_messages (leaf ∷ [])) key) (λ n. sym (same key n s))).way;
  short = λ key s h. subst HasShortValues (λ j n. same key n s j) h;
  fences = (inl refl, tt);
  keys = λ key t. (t.0, some_right (ops_in ms key t.0) (ops_in (map row_message leaf.1) key t.0) (subst (λ l. IsSome (ops_in l key t.0)) (append-nil (map row_message leaf.1)) t.1));
}
  where
    nothing : (key : List ℕ) (n : ℕ) → spans leaf.0 high key ≡ true → ops_in ms key n ≡ None
    nothing key n s = sym (ops-in_range leaf.0 high ms key n ∙ ap (λ t. cond t (ops_in ms key n) None) s) ∙ ap (λ l. ops_in l key n) none

    same : (key : List ℕ) (n : ℕ) → spans leaf.0 high key ≡ true → ops_with ms leaf.1 key n ≡ ops_in (row_messages (leaf ∷ [])) key n
    same key n s = none_or (ops_in ms key n) (ops_in (map row_message leaf.1) key n) (nothing key n s) ∙ ap (λ l. ops_in l key n) (sym (append-nil (map row_message leaf.1)))

-- what came in its place means the same, also where it stayed
pub in_its_place : (leaf : LeafRows) (high : List ℕ) (ms : List TreeMessage) (pins : TenantPins) (target : ℕ) (others : List LeafRows) (cache cache' : Cache) → IsLeafTile leaf high → IsLeafSize target leaf.1 → GivesWay leaf high ms pins target others cache cache' → TakePlace leaf high ms pins target others
in_its_place leaf high ms pins target others cache cache' tile size way = ⊎_elim
    (λ (s : Stays leaf high ms others cache cache'). subst (TakePlace leaf high ms pins target) (sym s.are) (stays_in_place leaf high ms pins target tile size s.none))
    (λ (r : IsReplaced leaf high ms pins target others cache cache'). r.replaced.place) way

-- it was forgotten where others came
pub forgets_alone : (leaf : LeafRows) (others : List LeafRows) (low : List ℕ) (a b : Cache) → low ≡ leaf.0 → b.limit ≡ a.limit → b.leaves ≡ leaves_without low a.leaves → rows_under low b.leaves ≡ None → Forgets (leaf ∷ []) others a b
forgets_alone leaf others low a b l limit without gone = forgets_one low (leaf ∷ []) others a b limit without gone (λ x o ne. ⊎_elim
    (λ (e : leaf ≡ x). absurd (ne (ap (λ (k : LeafRows). k.0) (sym e) ∙ sym l)))
    (λ (d : Contains [] x). absurd (nothing_there x d))
    (contains_cases leaf x [] o))
  where
    nothing_there : (x : LeafRows) → Contains [] x → ⊥
    nothing_there x (zero, i, e) = absurd (omega arith)
    nothing_there x (suc k, i, e) = absurd (omega arith)

-- ---- the row

-- leaves begin where their keys may
fences_from : (low end : List ℕ) (ls : List LeafRows) → LeavesTo end ls → lt (first_fence end ls) low ≡ false → AllByRecursion (λ l. spans low end l.0 ≡ true) ls
fences_from low end [] t a = tt
fences_from low end (l ∷ ls) t a = (
  spanned low end l.0 a (lt_le l.0 (first_fence end ls) end (ap is_lt t.0.ordered) (low_at_most end ls t.1)),
  fences_from low end ls t.1 (le_le low l.0 (first_fence end ls) a (lt_not l.0 (first_fence end ls) (ap is_lt t.0.ordered))),
)

-- leaves that end further up
pub ends_above : (end high : List ℕ) (ls : List LeafRows) → lt high end ≡ false → LeavesTo end ls → LeavesTo high ls
ends_above end high [] a t = tt
ends_above end high (l ∷ []) a t = (
  record {
    ordered = lt_is (bytes_cmp l.0 high) (lt_le l.0 end high (ap is_lt t.0.ordered) a);
    rows = record {
      outside = λ key n o. not_spanned l.0 high key o
          (λ under_it. t.0.rows.outside key n (under l.0 end key under_it))
          (λ _ over. t.0.rows.outside key n (beyond l.0 end key (le_le end high key a over)));
    };
  },
  tt,
)
ends_above end high (l ∷ k ∷ ls) a t = (t.0, ends_above end high (k ∷ ls) a t.1)

-- what came in the place of all leaves of a row
pub record InPlace (leaves : List LeafRows) (end : List ℕ) (ms : List TreeMessage) (pins : TenantPins) (target : ℕ) (fresh : List LeafRows) : Type 0 where
  pub some : 1 ≤ length leaves → 1 ≤ length fresh
  pub first : first_fence end fresh ≡ first_fence end leaves
  pub tiled : LeavesTo end fresh
  pub sizes : AllByRecursion (λ l. IsLeafSize target l.1) fresh
  pub means : (key : List ℕ) → spans (first_fence end leaves) end key ≡ true → MeanTheSame (pins (tenant_of key)) (ops_above ms leaves key) (ops_above [] fresh key)
  pub fences : (low high : List ℕ) → AllByRecursion (λ l. spans low high l.0 ≡ true) leaves → ((key : List ℕ) → spans (first_fence end leaves) end key ≡ true → AreThere (ops_above ms leaves key) → spans low high key ≡ true) → AllByRecursion (λ l. spans low high l.0 ≡ true) fresh

none_in_place : (end : List ℕ) (ms : List TreeMessage) (pins : TenantPins) (target : ℕ) → InPlace [] end ms pins target []
none_in_place end ms pins target = record {
  some = λ l. l;
  first = refl;
  tiled = tt;
  sizes = tt;
  means = λ key s. absurd (no_path (sym (span_low end end key s) ∙ span_high end end key s));
  fences = λ low high old all. tt;
}

-- the rows of a leaf, or of what came in its place, and those above it
rows_with : (xs ys : List LeafRows) (key : List ℕ) (n : ℕ) → ops_in (row_messages (xs ++ ys)) key n ≡ or_else (ops_in (row_messages xs) key n) (ops_in (row_messages ys) key n)
rows_with xs ys key n = ap (λ l. ops_in l key n) (flat_map-append (λ (l : LeafRows). map row_message l.1) xs ys) ∙ ops-append (row_messages xs) (row_messages ys) key n

more_in_place : (leaf : LeafRows) (leaves others rest : List LeafRows) (end : List ℕ) (ms : List TreeMessage) (pins : TenantPins) (target : ℕ) → LeavesTo end (leaf ∷ leaves) → TakePlace leaf (first_fence end leaves) ms pins target others → InPlace leaves end ms pins target rest → InPlace (leaf ∷ leaves) end ms pins target (others ++ rest)
more_in_place leaf leaves others rest end ms pins target tiles p q = record {
  some = λ l. by_others others refl;
  first = first_fence-append end others rest ∙ ap (λ h. first_fence h others) q.first ∙ p.first;
  tiled = tiled_both end others rest (subst (λ h. LeavesTo h others) (sym q.first) p.tiled) q.tiled;
  sizes = all_join (λ (l : LeafRows). IsLeafSize target l.1) others rest p.sizes q.sizes;
  means = λ key s. by_test (lt key high)
      (λ b. let own = spanned leaf.0 high key (span_low leaf.0 end key s) b in
      subst (λ f. MeanTheSame (pins (tenant_of key)) f (ops_above [] (others ++ rest) key)) (λ j n. sym (old_own key n b) j)
      (subst (MeanTheSame (pins (tenant_of key)) (ops_with ms leaf.1 key)) (λ j n. sym (new_own key n b) j)
      (record { way = p.agrees key own; short = p.short key own; there = p.keys key })))
      (λ b.
      subst (λ f. MeanTheSame (pins (tenant_of key)) f (ops_above [] (others ++ rest) key)) (λ j n. sym (old_above key n b) j)
      (subst (MeanTheSame (pins (tenant_of key)) (ops_above ms leaves key)) (λ j n. sym (new_above key n b) j)
      (q.means key (spanned high end key b (span_high leaf.0 end key s)))));
  fences = λ low top old all. all_join (λ (l : LeafRows). spans low top l.0 ≡ true) others rest (each low top old.0 all others p.fences inside) (q.fences low top old.1 (λ key s t. all key (further key s) (there_above key t)));
}
  where
    high : List ℕ
    high = first_fence end leaves

    by_others : (ls : List LeafRows) → ls ≡ others → 1 ≤ length (others ++ rest)
    by_others [] e = absurd (no_path (sym (lt_self leaf.0) ∙ ap (lt leaf.0) (sym (ap (first_fence high) e ∙ p.first)) ∙ ap is_lt tiles.0.ordered))
    by_others (l ∷ ls) e =
        let n = length-append others rest in
        let k = ap length e in
        omega (arith, n, k)

    old_own : (key : List ℕ) (n : ℕ) → lt key high ≡ true → ops_above ms (leaf ∷ leaves) key n ≡ ops_with ms leaf.1 key n
    old_own key n b = ap (or_else (ops_in ms key n)) (ops-append (map row_message leaf.1) (row_messages leaves) key n ∙ or_none (ops_in (map row_message leaf.1) key n) (ops_in (row_messages leaves) key n) (below_none end leaves key n tiles.1 b))

    new_own : (key : List ℕ) (n : ℕ) → lt key high ≡ true → ops_above [] (others ++ rest) key n ≡ ops_in (row_messages others) key n
    new_own key n b = rows_with others rest key n ∙ or_none (ops_in (row_messages others) key n) (ops_in (row_messages rest) key n) (below_none end rest key n q.tiled (subst (λ h. lt key h ≡ true) (sym q.first) b))

    old_above : (key : List ℕ) (n : ℕ) → lt key high ≡ false → ops_above ms (leaf ∷ leaves) key n ≡ ops_above ms leaves key n
    old_above key n b = ap (or_else (ops_in ms key n)) (ops-append (map row_message leaf.1) (row_messages leaves) key n ∙ none_or (ops_in (map row_message leaf.1) key n) (ops_in (row_messages leaves) key n) (tiles.0.rows.outside key n (beyond leaf.0 high key b)))

    new_above : (key : List ℕ) (n : ℕ) → lt key high ≡ false → ops_above [] (others ++ rest) key n ≡ ops_above [] rest key n
    new_above key n b = rows_with others rest key n ∙ none_or (ops_in (row_messages others) key n) (ops_in (row_messages rest) key n) (above_none high others key n p.tiled b)

    -- what a leaf and the messages have, or those above it, the row has
    whole : (key : List ℕ) → AreThere (ops_with ms leaf.1 key) → AreThere (ops_above ms (leaf ∷ leaves) key)
    whole key t = (
      t.0,
      some_or (ops_in ms key t.0) (ops_in (map row_message leaf.1) key t.0)
          (λ s. some_left (ops_in ms key t.0) (ops_in (row_messages (leaf ∷ leaves)) key t.0) s)
          (λ s. some_right (ops_in ms key t.0) (ops_in (row_messages (leaf ∷ leaves)) key t.0)
          (subst IsSome (sym (ops-append (map row_message leaf.1) (row_messages leaves) key t.0)) (some_left (ops_in (map row_message leaf.1) key t.0) (ops_in (row_messages leaves) key t.0) s)))
          t.1,
    )

    there_above : (key : List ℕ) → AreThere (ops_above ms leaves key) → AreThere (ops_above ms (leaf ∷ leaves) key)
    there_above key t = (
      t.0,
      some_or (ops_in ms key t.0) (ops_in (row_messages leaves) key t.0)
          (λ s. some_left (ops_in ms key t.0) (ops_in (row_messages (leaf ∷ leaves)) key t.0) s)
          (λ s. some_right (ops_in ms key t.0) (ops_in (row_messages (leaf ∷ leaves)) key t.0)
          (subst IsSome (sym (ops-append (map row_message leaf.1) (row_messages leaves) key t.0)) (some_right (ops_in (map row_message leaf.1) key t.0) (ops_in (row_messages leaves) key t.0) s)))
          t.1,
    )

    further : (key : List ℕ) → spans high end key ≡ true → spans leaf.0 end key ≡ true
    further key s = spanned leaf.0 end key (le_le leaf.0 high key (lt_not leaf.0 high (ap is_lt tiles.0.ordered)) (span_low high end key s)) (span_high high end key s)

    inside : AllByRecursion (λ l. spans leaf.0 high l.0 ≡ true) others
    inside = fences_from leaf.0 high others p.tiled (subst (λ f. lt f leaf.0 ≡ false) (sym p.first) (lt_self leaf.0))

    each : (low top : List ℕ) → spans low top leaf.0 ≡ true → ((key : List ℕ) → spans leaf.0 end key ≡ true → AreThere (ops_above ms (leaf ∷ leaves) key) → spans low top key ≡ true) → (ls : List LeafRows) → AllByRecursion (λ (l : LeafRows). IsFence leaf ms l.0) ls → AllByRecursion (λ (l : LeafRows). spans leaf.0 high l.0 ≡ true) ls → AllByRecursion (λ (l : LeafRows). spans low top l.0 ≡ true) ls
    each low top s all [] f w = tt
    each low top s all (l ∷ ls) f w = (
      ⊎_elim (λ (e : l.0 ≡ leaf.0). ap (spans low top) e ∙ s)
          (λ (k : AreThere (ops_with ms leaf.1 l.0)). all l.0 (spanned leaf.0 end l.0 (span_low leaf.0 high l.0 w.0) (lt_le l.0 high end (span_high leaf.0 high l.0 w.0) (low_at_most end leaves tiles.1))) (whole l.0 k)) f.0,
      each low top s all ls f.1 w.1,
    )

pub in_place : (leaves : List LeafRows) (end : List ℕ) (ms : List TreeMessage) (pins : TenantPins) (target : ℕ) (cache : Cache) (fresh : List LeafRows) (cache' : Cache) → LeavesTo end leaves → AllByRecursion (λ (l : LeafRows). IsLeafSize target l.1) leaves → AllGiveWay leaves end ms pins target cache fresh cache' → InPlace leaves end ms pins target fresh
in_place [] end ms pins target cache fresh cache' tiles sizes all = subst (InPlace [] end ms pins target) (sym all.0) (none_in_place end ms pins target)
in_place (leaf ∷ leaves) end ms pins target cache fresh cache' tiles sizes all = subst (InPlace (leaf ∷ leaves) end ms pins target) (sym all.are)
    (more_in_place leaf leaves all.others all.rest end ms pins target tiles
    (in_its_place leaf (first_fence end leaves) ms pins target all.others all.between cache' tiles.0 sizes.0 all.way)
    (in_place leaves end ms pins target cache all.rest all.between tiles.1 sizes.1 all.done))

-- they stand for the leaves and all messages, also once small ones are joined
pub all_stand : (leaves : List LeafRows) (end : List ℕ) (ms : List TreeMessage) (pins : TenantPins) (target : ℕ) (middle fresh : List LeafRows) → CanAbsorbAll leaves end ms target → InPlace leaves end ms pins target middle → AreJoined target middle fresh → StandsForAll leaves end ms pins target fresh
all_stand leaves end ms pins target middle fresh can q joined =
    let same : SameRows target middle fresh = joined_same target middle fresh joined in
    record {
      some = same.some (q.some can.some);
      first = same.first end ∙ q.first;
      tiled = same.tiled end q.tiled;
      sizes = same.sizes q.sizes;
      means = λ key s. subst (MeanTheSame (pins (tenant_of key)) (ops_above ms leaves key)) (λ j n. ops_in (sym same.rows j) key n) (q.means key s);
      fences = λ low high old all. same.fences low high (q.fences low high old all);
    }

-- ---- one leaf after another

-- the highest ones gave way, and the others are still to come
pub record AreGivingWay (old now fresh : List LeafRows) (end : List ℕ) (ms : List TreeMessage) (pins : TenantPins) (target : ℕ) (cache cache' : Cache) : Type 0 where
  pub after : List LeafRows
  pub are : old ≡ now ++ after
  pub done : AllGiveWay after end ms pins target cache fresh cache'
  pub forgets : Forgets old (now ++ fresh) cache cache'

pub giving_first : (old now fresh : List LeafRows) (end : List ℕ) (ms : List TreeMessage) (pins : TenantPins) (target : ℕ) (cache : Cache) → now ≡ old → fresh ≡ [] → AreGivingWay old now fresh end ms pins target cache cache
giving_first old now fresh end ms pins target cache e none = record {
  after = [];
  are = sym (append-nil now ∙ e);
  done = (none, refl);
  forgets = forgets_nothing old (now ++ fresh) cache (ap (λ l. now ++ l) none ∙ append-nil now ∙ e);
}

-- a leaf that is next, with those below and above it
pub record IsNextLeaf (old rest after : List LeafRows) (leaf : LeafRows) (end : List ℕ) (ms : List TreeMessage) (target : ℕ) : Type 0 where
  pub can : CanGiveWay leaf (first_fence end after) ms target
  pub tiled : LeavesTo end after
  pub sizes : AllByRecursion (λ l. IsLeafSize target l.1) after

pub next_leaf : {now fresh : List LeafRows} {pins : TenantPins} {cache cache' : Cache} (old rest : List LeafRows) (leaf : LeafRows) (end : List ℕ) (ms : List TreeMessage) (target : ℕ) → CanAbsorbAll old end ms target → (g : AreGivingWay old now fresh end ms pins target cache cache') → now ≡ rest ++ leaf ∷ [] → IsNextLeaf old rest g.after leaf end ms target
next_leaf old rest leaf end ms target can g e = record {
  can = record {
    tile = right.0;
    size = sizes.0;
    short = λ key s. subst HasShortValues (λ j n. own key n s j) (can.short key (wider key s));
  };
  tiled = right.1;
  sizes = sizes.1;
}
  where
    are : old ≡ rest ++ (leaf ∷ g.after)
    are = g.are ∙ ap (λ l. l ++ g.after) e ∙ append_assoc rest (leaf ∷ []) g.after

    tiles : LeavesTo end (rest ++ (leaf ∷ g.after))
    tiles = subst (LeavesTo end) are can.tiled

    left : LeavesTo leaf.0 rest
    left = to_left end rest (leaf ∷ g.after) tiles

    right : LeavesTo end (leaf ∷ g.after)
    right = to_right end rest (leaf ∷ g.after) tiles

    sizes : AllByRecursion (λ (l : LeafRows). IsLeafSize target l.1) (leaf ∷ g.after)
    sizes = (all_split (λ (l : LeafRows). IsLeafSize target l.1) rest (leaf ∷ g.after) (subst (AllByRecursion (λ (l : LeafRows). IsLeafSize target l.1)) are can.sizes)).1

    wider : (key : List ℕ) → spans leaf.0 (first_fence end g.after) key ≡ true → spans (first_fence end old) end key ≡ true
    wider key s = spanned (first_fence end old) end key
        (subst (λ f. lt key f ≡ false) (sym (ap (first_fence end) are ∙ first_fence-append end rest (leaf ∷ g.after)))
        (le_le (first_fence leaf.0 rest) leaf.0 key (low_at_most leaf.0 rest left) (span_low leaf.0 (first_fence end g.after) key s)))
        (lt_le key (first_fence end g.after) end (span_high leaf.0 (first_fence end g.after) key s) (low_at_most end g.after right.1))

    rows : (key : List ℕ) (n : ℕ) → spans leaf.0 (first_fence end g.after) key ≡ true → ops_in (row_messages old) key n ≡ ops_in (map row_message leaf.1) key n
    rows key n s =
        ap (λ l. ops_in (row_messages l) key n) are
        ∙ rows_with rest (leaf ∷ g.after) key n
        ∙ none_or (ops_in (row_messages rest) key n) (ops_in (row_messages (leaf ∷ g.after)) key n) (above_none leaf.0 rest key n left (span_low leaf.0 (first_fence end g.after) key s))
        ∙ ops-append (map row_message leaf.1) (row_messages g.after) key n
        ∙ or_none (ops_in (map row_message leaf.1) key n) (ops_in (row_messages g.after) key n) (below_none end g.after key n right.1 (span_high leaf.0 (first_fence end g.after) key s))

    own : (key : List ℕ) (n : ℕ) → spans leaf.0 (first_fence end g.after) key ≡ true → ops_above ms old key n ≡ ops_with ms leaf.1 key n
    own key n s = ap (or_else (ops_in ms key n)) (rows key n s)

-- where its keys end
pub next_end : {now fresh : List LeafRows} {pins : TenantPins} {cache cache' : Cache} (old rest : List LeafRows) (leaf : LeafRows) (end : List ℕ) (ms : List TreeMessage) (target : ℕ) → CanAbsorbAll old end ms target → (g : AreGivingWay old now fresh end ms pins target cache cache') → now ≡ rest ++ leaf ∷ [] → first_fence end fresh ≡ first_fence end g.after
next_end {fresh = fresh} {pins = pins} {cache = cache} {cache' = cache'} old rest leaf end ms target can g e =
    let n = next_leaf old rest leaf end ms target can g e in
    (in_place g.after end ms pins target cache fresh cache' n.tiled n.sizes g.done).first

pub giving_next : {now fresh : List LeafRows} {pins : TenantPins} {cache cache' : Cache} (old rest others new : List LeafRows) (leaf : LeafRows) (high end : List ℕ) (ms : List TreeMessage) (target : ℕ) (cache'' : Cache) (g : AreGivingWay old now fresh end ms pins target cache cache') → now ≡ rest ++ leaf ∷ [] → high ≡ first_fence end g.after
    → GivesWay leaf high ms pins target others cache' cache'' → Forgets (leaf ∷ []) others cache' cache'' → new ≡ others ++ fresh → AreGivingWay old rest new end ms pins target cache cache''
giving_next {now} {fresh} {pins} {cache} {cache'} old rest others new leaf high end ms target cache'' g e h way f is = record {
  after = leaf ∷ g.after;
  are = g.are ∙ ap (λ l. l ++ g.after) e ∙ append_assoc rest (leaf ∷ []) g.after;
  done = record { others = others; rest = fresh; between = cache'; are = is; way = subst (λ up. GivesWay leaf up ms pins target others cache' cache'') h way; done = g.done };
  forgets = forgets_then old (now ++ fresh) (rest ++ new) cache cache' cache'' g.forgets
      (forgets_within rest (leaf ∷ []) others fresh (now ++ fresh) (rest ++ new) cache' cache'' f
      (ap (λ l. l ++ fresh) e ∙ append_assoc rest (leaf ∷ []) fresh) (ap (λ l. rest ++ l) is));
}

-- in the end all gave way
pub record AllGave (old fresh : List LeafRows) (end : List ℕ) (ms : List TreeMessage) (pins : TenantPins) (target : ℕ) (cache cache' : Cache) : Type 0 where
  pub each : AllGiveWay old end ms pins target cache fresh cache'
  pub place : InPlace old end ms pins target fresh
  pub tiled : LeavesTo top_key fresh
  pub forgets : Forgets old fresh cache cache'

pub giving_ends : {now fresh : List LeafRows} {pins : TenantPins} {cache cache' : Cache} (old : List LeafRows) (end : List ℕ) (ms : List TreeMessage) (target : ℕ) → CanAbsorbAll old end ms target → AreGivingWay old now fresh end ms pins target cache cache' → now ≡ [] → AllGave old fresh end ms pins target cache cache'
giving_ends {now} {fresh} {pins} {cache} {cache'} old end ms target can g none =
    let each : AllGiveWay old end ms pins target cache fresh cache' = subst (λ l. AllGiveWay l end ms pins target cache fresh cache') (sym (g.are ∙ ap (λ l. l ++ g.after) none)) g.done in
    let place : InPlace old end ms pins target fresh = in_place old end ms pins target cache fresh cache' can.tiled can.sizes each in
    record {
      each = each;
      place = place;
      tiled = ends_above end top_key fresh can.ends place.tiled;
      forgets = subst (λ l. Forgets old (l ++ fresh) cache cache') none g.forgets;
    }
