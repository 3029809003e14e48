-- The messages right above the leaves, of nodes in a row.
use Rattle.std.proofs.Common.{zero, suc, ◌≡◌, ℕ, ◌≤◌, arith, true, false, cond, List, [], ◌∷◌, ◌++◌, None, refl, sym, ap, ◌∙◌, subst}
use Rattle.std.specs.Prelude.{IsSome, not, ◌&&◌}
use Rattle.std.specs.Ordering.{is_lt}
use Rattle.stow_leaves.specs.StowMessage.Rising.{in_range}
use Rattle.stow_tree_model.specs.Messages.{ops_in}
use Rattle.stow_tree_model.specs.Operations.{or_else}
use Rattle.stow_tree_model.specs.TreeMessage.{TreeMessage}
use Rattle.stow_leaves.specs.StowLeaf.Intervals.{top_key, spans}
use Rattle.stow_leaves.proofs.StowLeaf.Found.{none_or, both_none, none_some, some_or, some_left, some_right}
use Rattle.stow_leaves.proofs.StowLeaf.Intervals.{lt, by_test, lt_self, lt_not, lt_trans, lt_le, le_le, span_low, span_high, spanned, under, beyond}
use Rattle.stow_leaves.proofs.StowLeaf.Ops.{ops-append, ops-in_range}
use Rattle.stow_leaves.proofs.StowLeaf.Over.{or_none_left}
use Rattle.stow_node.specs.declared.child.Child.{Child}
use Rattle.stow_node.specs.declared.child.Child.TheVariants as in_child
use Rattle.stow_node.specs.Halves.{AreHalves}
use Rattle.stow_node.specs.Nodes.{part_of, parts_of, nearest_of, nearest_in, AreAmong}
use Rattle.stow_node.specs.Parts.{low_or, TiledTo}
use Rattle.stow_node.specs.Subtree.{Subtree, nearest_at, right_above_leaves}
use Rattle.stow_node.proofs.Row.{message_taken, messages_apart, low_at_most}

pub in_own : (low high : List ℕ) (ms : List TreeMessage) (key : List ℕ) (n : ℕ) → spans low high key ≡ true → ops_in (in_range low high ms) key n ≡ ops_in ms key n
in_own low high ms key n s = ops-in_range low high ms key n ∙ ap (λ b. cond b (ops_in ms key n) None) s

pub out_of_own : (low high : List ℕ) (ms : List TreeMessage) (key : List ℕ) (n : ℕ) → spans low high key ≡ false → ops_in (in_range low high ms) key n ≡ None
out_of_own low high ms key n s = ops-in_range low high ms key n ∙ ap (λ b. cond b (ops_in ms key n) None) s

pub none_nearest : {A : Type 0} (cs : List (Child A)) (key : List ℕ) (n : ℕ) → TiledTo top_key (parts_of cs) → lt key (low_or top_key (parts_of cs)) ≡ true → ops_in (nearest_in cs) key n ≡ None
none_nearest [] key n t l = refl
none_nearest (c ∷ cs) key n t l =
    ops-append (in_range (part_of c).low (low_or top_key (parts_of cs)) (nearest_of c)) (nearest_in cs) key n
    ∙ both_none (ops_in (in_range (part_of c).low (low_or top_key (parts_of cs)) (nearest_of c)) key n) (ops_in (nearest_in cs) key n)
    (out_of_own (part_of c).low (low_or top_key (parts_of cs)) (nearest_of c) key n (under (part_of c).low (low_or top_key (parts_of cs)) key l))
    (none_nearest cs key n t.1 (lt_trans key (part_of c).low (low_or top_key (parts_of cs)) l (ap is_lt t.0.ordered)))

-- a row begins no later than its end does
begins_before : {A : Type 0} (xs ys : List (Child A)) → TiledTo top_key (parts_of (xs ++ ys)) → lt (low_or top_key (parts_of ys)) (low_or top_key (parts_of (xs ++ ys))) ≡ false
begins_before [] ys t = lt_self (low_or top_key (parts_of ys))
begins_before (x ∷ xs) ys t = lt_not (part_of x).low (low_or top_key (parts_of ys)) (lt_le (part_of x).low (low_or top_key (parts_of (xs ++ ys))) (low_or top_key (parts_of ys)) (ap is_lt t.0.ordered) (begins_before xs ys t.1))

pub rest_tiled : {A : Type 0} (xs ys : List (Child A)) → TiledTo top_key (parts_of (xs ++ ys)) → TiledTo top_key (parts_of ys)
rest_tiled [] ys t = t
rest_tiled (x ∷ xs) ys t = rest_tiled xs ys t.1

-- of a key below the upper ones they are those of the lower ones
pub nearest_front : {A : Type 0} (xs ys : List (Child A)) (key : List ℕ) (n : ℕ) → TiledTo top_key (parts_of (xs ++ ys)) → lt key (low_or top_key (parts_of ys)) ≡ true → ops_in (nearest_in (xs ++ ys)) key n ≡ ops_in (nearest_in xs) key n
nearest_front [] ys key n t l = none_nearest ys key n t l
nearest_front {A} (x ∷ xs) ys key n t l =
    ops-append (in_range (part_of x).low (low_or top_key (parts_of (xs ++ ys))) (nearest_of x)) (nearest_in (xs ++ ys)) key n
    ∙ (λ j. or_else (ops-in_range (part_of x).low (low_or top_key (parts_of (xs ++ ys))) (nearest_of x) key n j) (nearest_front xs ys key n t.1 l j))
    ∙ ap (λ b. or_else (cond (not (lt key (part_of x).low) && b) (ops_in (nearest_of x) key n) None) (ops_in (nearest_in xs) key n)) (same_end xs)
    ∙ ap (λ o. or_else o (ops_in (nearest_in xs) key n)) (sym (ops-in_range (part_of x).low (low_or top_key (parts_of xs)) (nearest_of x) key n))
    ∙ sym (ops-append (in_range (part_of x).low (low_or top_key (parts_of xs)) (nearest_of x)) (nearest_in xs) key n)
  where
    same_end : (zs : List (Child A)) → lt key (low_or top_key (parts_of (zs ++ ys))) ≡ lt key (low_or top_key (parts_of zs))
    same_end [] = l ∙ sym (lt_le key (low_or top_key (parts_of ys)) top_key l (low_at_most message_taken top_key (parts_of ys) (messages_apart top_key (parts_of ys) (rest_tiled (x ∷ xs) ys t))))
    same_end (z ∷ zs) = refl

-- .. and of one from the upper ones on those of the upper ones
pub nearest_behind : {A : Type 0} (xs ys : List (Child A)) (key : List ℕ) (n : ℕ) → TiledTo top_key (parts_of (xs ++ ys)) → lt key (low_or top_key (parts_of ys)) ≡ false → ops_in (nearest_in (xs ++ ys)) key n ≡ ops_in (nearest_in ys) key n
nearest_behind [] ys key n t l = refl
nearest_behind (x ∷ xs) ys key n t l =
    ops-append (in_range (part_of x).low (low_or top_key (parts_of (xs ++ ys))) (nearest_of x)) (nearest_in (xs ++ ys)) key n
    ∙ none_or (ops_in (in_range (part_of x).low (low_or top_key (parts_of (xs ++ ys))) (nearest_of x)) key n) (ops_in (nearest_in (xs ++ ys)) key n)
    (out_of_own (part_of x).low (low_or top_key (parts_of (xs ++ ys))) (nearest_of x) key n (beyond (part_of x).low (low_or top_key (parts_of (xs ++ ys))) key (le_le (low_or top_key (parts_of (xs ++ ys))) (low_or top_key (parts_of ys)) key (begins_before xs ys t.1) l)))
    ∙ nearest_behind xs ys key n t.1 l

-- the same of a node, by what it has itself and below it
pub nearest_same : (height : ℕ) (own own' below below' : List TreeMessage) (key : List ℕ) (n : ℕ) → ops_in own key n ≡ ops_in own' key n → ops_in below key n ≡ ops_in below' key n → ops_in (nearest_at height own below) key n ≡ ops_in (nearest_at height own' below') key n
nearest_same zero own own' below below' key n o b = b
nearest_same (suc zero) own own' below below' key n o b = o
nearest_same (suc (suc height)) own own' below below' key n o b = b

pub nearest_up : (height : ℕ) (own below : List TreeMessage) → 2 ≤ height → nearest_at height own below ≡ below
nearest_up zero own below l = refl
nearest_up (suc zero) own below l = absurd (omega (arith, l))
nearest_up (suc (suc height)) own below l = refl

pub nearest_lowest : (height : ℕ) (own below : List TreeMessage) → height ≡ 1 → nearest_at height own below ≡ own
nearest_lowest height own below e = ap (λ h. nearest_at h own below) e

-- ---- halves, and one alone

some_in_range : (low high : List ℕ) (ms : List TreeMessage) (key : List ℕ) (n : ℕ) → IsSome (ops_in (in_range low high ms) key n) → (spans low high key ≡ true) × IsSome (ops_in ms key n)
some_in_range low high ms key n h = by_test (spans low high key)
    (λ s. (s, subst IsSome (in_own low high ms key n s) h))
    (λ s. absurd (none_some (ops_in (in_range low high ms) key n) (out_of_own low high ms key n s) h))

in_range_some : (low high : List ℕ) (ms : List TreeMessage) (key : List ℕ) (n : ℕ) → spans low high key ≡ true → IsSome (ops_in ms key n) → IsSome (ops_in (in_range low high ms) key n)
in_range_some low high ms key n s h = subst IsSome (sym (in_own low high ms key n s)) h

-- halves in the place of a node bring no message
pub nearest_halves : {A : Type 0} (now lower upper : Subtree) (rest : List (Child A)) → AreHalves now lower upper → lt upper.low (low_or top_key (parts_of rest)) ≡ true → AreAmong (nearest_in (in_child.Node lower ∷ in_child.Node upper ∷ rest)) (nearest_in (in_child.Node now ∷ rest))
nearest_halves now lower upper rest h second key n there =
    subst IsSome (sym (ops-append (in_range now.low end (right_above_leaves now)) (nearest_in rest) key n))
    (some_or (ops_in (in_range lower.low upper.low (right_above_leaves lower)) key n) (ops_in (in_range upper.low end (right_above_leaves upper) ++ nearest_in rest) key n)
    of_lower
    (λ s. some_or (ops_in (in_range upper.low end (right_above_leaves upper)) key n) (ops_in (nearest_in rest) key n)
    of_upper
    (λ t. some_right (ops_in (in_range now.low end (right_above_leaves now)) key n) (ops_in (nearest_in rest) key n) t)
    (subst IsSome (ops-append (in_range upper.low end (right_above_leaves upper)) (nearest_in rest) key n) s))
    (subst IsSome (ops-append (in_range lower.low upper.low (right_above_leaves lower)) (in_range upper.low end (right_above_leaves upper) ++ nearest_in rest) key n) there))
  where
    end : List ℕ
    end = low_or top_key (parts_of rest)

    first : lt now.low upper.low ≡ true
    first = ap (λ l. lt l upper.low) (sym h.low) ∙ ap is_lt h.below.ordered

    of_lower : IsSome (ops_in (in_range lower.low upper.low (right_above_leaves lower)) key n) → IsSome (or_else (ops_in (in_range now.low end (right_above_leaves now)) key n) (ops_in (nearest_in rest) key n))
    of_lower s =
        let own = some_in_range lower.low upper.low (right_above_leaves lower) key n s in
        let up = span_high lower.low upper.low key own.0 in
        some_left (ops_in (in_range now.low end (right_above_leaves now)) key n) (ops_in (nearest_in rest) key n)
        (in_range_some now.low end (right_above_leaves now) key n
        (spanned now.low end key (ap (lt key) (sym h.low) ∙ span_low lower.low upper.low key own.0) (lt_trans key upper.low end up second))
        (subst IsSome (h.lower_nearest key n up) own.1))

    of_upper : IsSome (ops_in (in_range upper.low end (right_above_leaves upper)) key n) → IsSome (or_else (ops_in (in_range now.low end (right_above_leaves now)) key n) (ops_in (nearest_in rest) key n))
    of_upper s =
        let own = some_in_range upper.low end (right_above_leaves upper) key n s in
        let low = span_low upper.low end key own.0 in
        some_left (ops_in (in_range now.low end (right_above_leaves now)) key n) (ops_in (nearest_in rest) key n)
        (in_range_some now.low end (right_above_leaves now) key n
        (spanned now.low end key (le_le now.low upper.low key (lt_not now.low upper.low first) low) (span_high upper.low end key own.0))
        (subst IsSome (h.upper_nearest key n low) own.1))

pub nearest_alone : (A : Type 0) (x : Subtree) → AreAmong (nearest_in {A = A} (in_child.Node x ∷ [])) (right_above_leaves x)
nearest_alone A x key n there =
    some_or (ops_in (in_range x.low top_key (right_above_leaves x)) key n) (ops_in [] key n)
    (λ s. (some_in_range x.low top_key (right_above_leaves x) key n s).1)
    (λ s. absurd (none_some (ops_in [] key n) refl s))
    (subst IsSome (ops-append (in_range x.low top_key (right_above_leaves x)) [] key n) there)

pub none_alone : (A : Type 0) (x : Subtree) (key : List ℕ) (n : ℕ) → spans x.low top_key key ≡ true → ops_in (nearest_in {A = A} (in_child.Node x ∷ [])) key n ≡ None → ops_in (right_above_leaves x) key n ≡ None
none_alone A x key n s e =
    sym (in_own x.low top_key (right_above_leaves x) key n s)
    ∙ or_none_left (ops_in (in_range x.low top_key (right_above_leaves x)) key n) (ops_in [] key n) (sym (ops-append (in_range x.low top_key (right_above_leaves x)) [] key n) ∙ e)
