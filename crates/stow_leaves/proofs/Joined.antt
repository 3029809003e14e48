-- Leaves of which some were joined with a neighbour.
use Rattle.std.proofs.Common.{◌≡◌, ◌≢◌, ℕ, zero, suc, ◌≤◌, true, List, [], ◌∷◌, ◌++◌, length, map, refl, sym, ap, ◌∙◌, subst, arith, ⊎_elim, inl, inr, length-append, append_assoc}
use Rattle.std.specs.Prelude.{Contains}
use Rattle.std.specs.List.{AllByRecursion}
use Rattle.std.specs.List.Sorted.{IsStrictlySortedBy}
use Rattle.std.specs.Ordering.{is_lt, ordering_then, nat_cmp}
use Rattle.std.specs.declared.cmp.Ordering.TheVariants.{Less}
use Rattle.std.specs.Cmp.Lexicographic.{nat_list_cmp_total}
use Rattle.std.proofs.lemmas.List.{map-append}
use Rattle.std.proofs.lemmas.List.Elements.{Contains-append_left, Contains-append_right, Contains-append_cases}
use Rattle.stow_leaf_cache.specs.StowBytes.Bytes.{bytes_cmp}
use Rattle.stow_leaf.proofs.StowMerge.Lists.{all_split, all_join}
use Rattle.stow_leaf.proofs.StowMerge.Formats.{front_within}
use Rattle.stow_leaf.specs.StowMerge.Pages.{KeysBelow}
use Rattle.stow_leaf.proofs.StowMessage.RisingLists.{lt_is}
use Rattle.stow_leaf_cache.specs.StowPage.Format.{packed_page}
use Rattle.stow_leaf_cache.specs.StowTreeModel.Merged.{row_message}
use Rattle.stow_leaf_cache.specs.StowTreeModel.Messages.{ops_in}
use Rattle.stow_leaf_cache.specs.StowTreeModel.Order.{VersionPlace, place_cmp, version_place, VersionsRise}
use Rattle.stow_leaf_cache.specs.StowTreeModel.TreeMessage.{TreeMessage}
use Rattle.stow_leaf_cache.specs.StowTreeModel.Version.{Version}
use Rattle.stow_leaf_cache.proofs.StowTreeModel.Latest.{contains_cases}
use Rattle.stow_leaf_cache.proofs.StowTreeModel.Pruning.{contains_here, contains_there}
use Rattle.stow_leaf.specs.Intervals.{spans}
use Rattle.stow_leaf.specs.LeafRows.{LeafRows, row_messages, first_fence, IsLeafTile, LeavesTo}
use Rattle.stow_leaf.specs.Replacements.{IsLeafSize}
use Rattle.stow_leaf.proofs.Found.{both_none, keys_within}
use Rattle.stow_leaf.proofs.Intervals.{lt_trans, lt_not, lt_le, le_le, under, beyond, span_low, span_high, not_spanned}
use Rattle.stow_leaf.proofs.Tiles.{ops_parts}
use Rattle.stow_leaves.specs.Joins.{AreToJoin, Joins, JoinTimes, AreJoined, NoneToJoin}

-- ---- rows

all_above : (v : Version) (ws : List Version) → ((w : Version) → Contains ws w → bytes_cmp v.key w.key ≡ Less) → AllByRecursion (λ (q : VersionPlace). place_cmp (version_place v) q ≡ Less) (map version_place ws)
all_above v [] h = tt
all_above v (w ∷ ws) h = (ap (λ o. ordering_then o (nat_cmp v.number w.number)) (h w (contains_here w ws)), all_above v ws (λ x c. h x (contains_there w x ws c)))

pub rise_both : (vs ws : List Version) → VersionsRise vs → VersionsRise ws → KeysBelow vs ws → VersionsRise (vs ++ ws)
unfolding IsStrictlySortedBy
rise_both [] ws a b k = b
rise_both (v ∷ vs) ws a b k =
    let P : VersionPlace → Type 0 = λ q. place_cmp (version_place v) q ≡ Less in (
      subst (AllByRecursion P) (sym (map-append version_place vs ws)) (all_join P (map version_place vs) (map version_place ws) a.0 (all_above v ws (λ w d. k.are_below v w (contains_here v vs) d))),
      rise_both vs ws a.1 b (record { are_below = λ u w c d. k.are_below u w (contains_there v u vs c) d }),
    )

-- ---- leaves in a row

-- two leaves as one
abbrev pub both_of : LeafRows → LeafRows → LeafRows
both_of lower upper = (lower.0, lower.1 ++ upper.1)

both_tile : (lower upper : LeafRows) (high : List ℕ) → IsLeafTile lower upper.0 → IsLeafTile upper high → IsLeafTile (both_of lower upper) high
both_tile lower upper high a b = record {
  ordered = nat_list_cmp_total.trans lower.0 upper.0 high a.ordered b.ordered;
  rows = record {
    outside = λ key n o.
        ops_parts lower.1 upper.1 key n
        ∙ both_none (ops_in (map row_message lower.1) key n) (ops_in (map row_message upper.1) key n)
        (a.rows.outside key n (not_spanned lower.0 high key o (λ l. under lower.0 upper.0 key l) (λ _ h. beyond lower.0 upper.0 key (le_le upper.0 high key (lt_not upper.0 high (ap is_lt b.ordered)) h))))
        (b.rows.outside key n (not_spanned lower.0 high key o (λ l. under upper.0 high key (lt_trans key lower.0 upper.0 l (ap is_lt a.ordered))) (λ _ h. beyond upper.0 high key h)));
  };
}

same_fence : (high : List ℕ) (before : List LeafRows) (lower upper : LeafRows) (after : List LeafRows) → first_fence high (before ++ (both_of lower upper ∷ after)) ≡ first_fence high (before ++ (lower ∷ upper ∷ after))
same_fence high [] lower upper after = refl
same_fence high (x ∷ before) lower upper after = refl

pub both_tiles : (high : List ℕ) (before : List LeafRows) (lower upper : LeafRows) (after : List LeafRows) → LeavesTo high (before ++ (lower ∷ upper ∷ after)) → LeavesTo high (before ++ (both_of lower upper ∷ after))
both_tiles high [] lower upper after t = (both_tile lower upper (first_fence high after) t.0 t.1.0, t.1.1)
both_tiles high (x ∷ before) lower upper after t = (subst (IsLeafTile x) (sym (same_fence high before lower upper after)) t.0, both_tiles high before lower upper after t.1)

-- the keys of a leaf are below those of the one above it
pub keys_below : (high : List ℕ) (before : List LeafRows) (lower upper : LeafRows) (after : List LeafRows) → LeavesTo high (before ++ (lower ∷ upper ∷ after)) → KeysBelow lower.1 upper.1
keys_below high [] lower upper after t = record {
  are_below = λ v w c d. lt_is (bytes_cmp v.key w.key) (lt_le v.key upper.0 w.key
      (span_high lower.0 upper.0 v.key (keys_within lower.0 upper.0 lower.1 t.0.rows v c))
      (span_low upper.0 (first_fence high after) w.key (keys_within upper.0 (first_fence high after) upper.1 t.1.0.rows w d)));
}
keys_below high (x ∷ before) lower upper after t = keys_below high before lower upper after t.1

-- ---- what joins keep

-- the rows are the same, in fewer leaves or as many, which begin where some did
pub record SameRows (target : ℕ) (old new : List LeafRows) : Type 0 where
  pub rows : row_messages new ≡ row_messages old
  pub first : (high : List ℕ) → first_fence high new ≡ first_fence high old
  pub few : length new ≤ length old
  pub some : 1 ≤ length old → 1 ≤ length new
  pub fences : (low high : List ℕ) → AllByRecursion (λ (l : LeafRows). spans low high l.0 ≡ true) old → AllByRecursion (λ (l : LeafRows). spans low high l.0 ≡ true) new
  pub sizes : AllByRecursion (λ (l : LeafRows). IsLeafSize target l.1) old → AllByRecursion (λ (l : LeafRows). IsLeafSize target l.1) new
  pub tiled : (high : List ℕ) → LeavesTo high old → LeavesTo high new

same_then : {target : ℕ} {a b c : List LeafRows} → SameRows target a b → SameRows target b c → SameRows target a c
same_then s t = record {
  rows = t.rows ∙ s.rows;
  first = λ high. t.first high ∙ s.first high;
  few = let one = s.few in let two = t.few in omega arith;
  some = λ l. t.some (s.some l);
  fences = λ low high f. t.fences low high (s.fences low high f);
  sizes = λ z. t.sizes (s.sizes z);
  tiled = λ high l. t.tiled high (s.tiled high l);
}

both_rows : (before : List LeafRows) (lower upper : LeafRows) (after : List LeafRows) → row_messages (before ++ (both_of lower upper ∷ after)) ≡ row_messages (before ++ (lower ∷ upper ∷ after))
both_rows [] lower upper after = ap (λ (ms : List TreeMessage). ms ++ row_messages after) (map-append row_message lower.1 upper.1) ∙ append_assoc (map row_message lower.1) (map row_message upper.1) (row_messages after)
both_rows (x ∷ before) lower upper after = ap (λ (ms : List TreeMessage). map row_message x.1 ++ ms) (both_rows before lower upper after)

both_same : (target : ℕ) (before : List LeafRows) (lower upper : LeafRows) (after : List LeafRows) → AreToJoin target lower.1 upper.1 → SameRows target (before ++ (lower ∷ upper ∷ after)) (before ++ (both_of lower upper ∷ after))
both_same target before lower upper after can = record {
  rows = both_rows before lower upper after;
  first = λ high. same_fence high before lower upper after;
  few = omega (arith, length-append before (lower ∷ upper ∷ after), length-append before (both_of lower upper ∷ after));
  some = λ l. omega (arith, length-append before (both_of lower upper ∷ after));
  fences = λ low high f.
      let P : LeafRows → Type 0 = λ l. spans low high l.0 ≡ true in
      let s = all_split P before (lower ∷ upper ∷ after) f in
      all_join P before (both_of lower upper ∷ after) s.0 (s.1.0, s.1.1.1);
  sizes = λ z.
      let P : LeafRows → Type 0 = λ l. IsLeafSize target l.1 in
      let s = all_split P before (lower ∷ upper ∷ after) z in
      all_join P before (both_of lower upper ∷ after) s.0 ((λ above. let fits = can.1 in absurd (omega (arith, above, fits))), s.1.1.1);
  tiled = λ high t. both_tiles high before lower upper after t;
}

same_itself : (target : ℕ) (old new : List LeafRows) → new ≡ old → SameRows target old new
same_itself target old new e = subst (SameRows target old) (sym e) (record { rows = refl; first = λ high. refl; few = omega arith; some = λ l. l; fences = λ low high f. f; sizes = λ z. z; tiled = λ high t. t })

joins_same : (target : ℕ) (old new : List LeafRows) → Joins target old new → SameRows target old new
joins_same target old new j =
    subst (λ ls. SameRows target ls new) (sym j.were) (subst (SameRows target (j.before ++ (j.lower ∷ j.upper ∷ j.after))) (sym j.are) (both_same target j.before j.lower j.upper j.after j.are_to_join))

times_same : (n target : ℕ) (old new : List LeafRows) → JoinTimes n target old new → SameRows target old new
times_same zero target old new e = same_itself target old new e
times_same (suc n) target old new j = same_then (times_same n target old j.0 j.1) (joins_same target j.0 new j.2)

pub joined_same : (target : ℕ) (old new : List LeafRows) → AreJoined target old new → SameRows target old new
joined_same target old new j = times_same j.0 target old new j.1

-- all leaves but the two are still there
pub others_stay : (before : List LeafRows) (lower upper : LeafRows) (after : List LeafRows) (leaf : LeafRows) → Contains (before ++ (lower ∷ upper ∷ after)) leaf → leaf.0 ≢ lower.0 → leaf.0 ≢ upper.0 → Contains (before ++ (both_of lower upper ∷ after)) leaf
others_stay before lower upper after leaf c not_lower not_upper = ⊎_elim
    (λ (b : Contains before leaf). Contains-append_left before (both_of lower upper ∷ after) leaf b)
    (λ (b : Contains (lower ∷ upper ∷ after) leaf). ⊎_elim
    (λ (e : lower ≡ leaf). absurd (not_lower (ap (λ (l : LeafRows). l.0) (sym e))))
    (λ (d : Contains (upper ∷ after) leaf). ⊎_elim
    (λ (e : upper ≡ leaf). absurd (not_upper (ap (λ (l : LeafRows). l.0) (sym e))))
    (λ (f : Contains after leaf). Contains-append_right before (both_of lower upper ∷ after) leaf (contains_there (both_of lower upper) leaf after f))
    (contains_cases upper leaf after d))
    (contains_cases lower leaf (upper ∷ after) b))
    (Contains-append_cases before (lower ∷ upper ∷ after) leaf c)

-- ---- until none are to join

-- no two neighbours in the row are to join
abbrev pub Settled : ℕ → List LeafRows → Type 0
Settled target [] = Unit {0}
Settled target (x ∷ []) = Unit {0}
Settled target (x ∷ y ∷ leaves) = (AreToJoin target x.1 y.1 → ⊥) × Settled target (y ∷ leaves)

pub none_to_join : (target : ℕ) (leaves : List LeafRows) → Settled target leaves → NoneToJoin target leaves
none_to_join target leaves s new j = none j.before j.lower j.upper j.after (subst (Settled target) j.were s) j.are_to_join where
  none : (before : List LeafRows) (lower upper : LeafRows) (after : List LeafRows) → Settled target (before ++ (lower ∷ upper ∷ after)) → AreToJoin target lower.1 upper.1 → ⊥
  none [] lower upper after t can = t.0 can
  none (x ∷ []) lower upper after t can = t.1.0 can
  none (x ∷ y ∷ before) lower upper after t can = none (y ∷ before) lower upper after t.1 can

-- rows that are to join with more than some are to join with those
with_fewer : (target : ℕ) (x xs ys : List Version) → AreToJoin target x (xs ++ ys) → AreToJoin target x xs
with_fewer target x xs ys can =
    let own = front_within xs ys in
    let both : length (packed_page (x ++ xs)) ≤ length (packed_page (x ++ (xs ++ ys))) = subst (λ vs. length (packed_page (x ++ xs)) ≤ length (packed_page vs)) (append_assoc x xs ys) (front_within (x ++ xs) ys) in
    let fits = can.1 in (
      ⊎_elim (λ s. inl s) (λ s. inr (omega (arith, s, own))) can.0,
      omega (arith, both, fits),
    )

-- a last leaf that grew is no more to join with the one below it
pub settled_grown : (target : ℕ) (before : List LeafRows) (lower upper : LeafRows) → Settled target (before ++ (lower ∷ [])) → Settled target (before ++ (both_of lower upper ∷ []))
settled_grown target [] lower upper s = tt
settled_grown target (x ∷ []) lower upper s = ((λ can. s.0 (with_fewer target x.1 lower.1 upper.1 can)), tt)
settled_grown target (x ∷ y ∷ before) lower upper s = (s.0, settled_grown target (y ∷ before) lower upper s.1)

pub settled_next : (target : ℕ) (before : List LeafRows) (lower upper : LeafRows) → Settled target (before ++ (lower ∷ [])) → (AreToJoin target lower.1 upper.1 → ⊥) → Settled target (before ++ (lower ∷ upper ∷ []))
settled_next target [] lower upper s no_join = (no_join, tt)
settled_next target (x ∷ []) lower upper s no_join = (s.0, (no_join, tt))
settled_next target (x ∷ y ∷ before) lower upper s no_join = (s.0, settled_next target (y ∷ before) lower upper s.1 no_join)
