-- The next key of an interval, below a node and in it.
use Rattle.std.proofs.Common.{◌≡◌, ℕ, zero, suc, ◌+◌, ◌<◌, ◌≤◌, Bool, true, false, List, [], ◌∷◌, ◌++◌, length, drop, get_or, map, Option, Some, None, refl, ap, ◌∙◌, sym, subst, arith}
use Rattle.std.specs.Prelude.{IsSome, is_some, not, nat_lt}
use Rattle.std.specs.Ordering.{is_lt}
use Rattle.std.specs.Option.{option_map}
use Rattle.std.proofs.lemmas.Bool.Decides.{nat_tests}
use Rattle.std.proofs.lemmas.List.{length-map, get_or-map}
use Rattle.stow_tree_model.specs.Messages.{ops_in}
use Rattle.stow_tree_model.specs.Operations.{Operations, or_else}
use Rattle.stow_node.specs.StowLeaf.Intervals.{top_key, spans}
use Rattle.stow_node.specs.StowLeaf.LeafRows.{row_messages}
use Rattle.stow_node.proofs.StowLeaf.Found.{both_none, none_some, or_none, some_left, some_right}
use Rattle.stow_node.proofs.StowLeaf.Intervals.{lt, by_test, lt_trans, lt_le, lt_not, lt_self, spanned, span_low, span_high, beyond}
use Rattle.stow_node.proofs.StowLeaf.Ops.{ops-append}
use Rattle.stow_node.specs.Nodes.{AreChildren, part_of, parts_of}
use Rattle.stow_node.specs.declared.child.Child.{Child}
use Rattle.stow_node.specs.declared.child.Child.TheVariants as in_child
use Rattle.stow_node.specs.StowLeaf.declared.leaf.Leaf.{Leaf}
use Rattle.stow_tree_model.specs.Merged.{row_message}
use Rattle.stow_tree_model.specs.Op.{Op}
use Rattle.stow_node.specs.Parts.{Part, IsTile, TiledTo, low_or, high_of, messages_in, leaves_in, IsFor}
use Rattle.stow_node.specs.Subtree.{Subtree, messages_of}
use Rattle.stow_node.proofs.Lowered.{end_at_most}
use Rattle.stow_node.proofs.Stayed.{level_at}
use Rattle.std.proofs.lemmas.Option.{slice_get-get_or}
use Rattle.stow_node.proofs.Row.{message_taken, messages_apart, tile_at}
use Rattle.stow_read.specs.Descent.{part_messages}
use Rattle.stow_read.specs.NextKey.{is_from, fence_at, IsFromPart, IsSearchEnd, HaveNone, IsLowest, IsNextKey}
use Rattle.stow_read.proofs.Below.{row_has}
use Rattle.stow_read.proofs.NextKeys.{apart, not_is, not_under, from_above, drop_past}
use Rattle.stow_read.proofs.Walked.{ops_over, none_outside}

fence_is : (ps : List Part) (i : ℕ) (d : Part) → i < length ps → fence_at ps i ≡ (get_or ps i d).low
fence_is [] i d l = absurd (omega arith)
fence_is (p ∷ ps) zero d l = refl
fence_is (p ∷ ps) (suc i) d l = fence_is ps i d (omega arith)

high_is : (ps : List Part) (i : ℕ) → i < length ps → high_of ps i ≡ fence_at ps (i + 1)
high_is [] i l = absurd (omega arith)
high_is (p ∷ ps) zero l = refl
high_is (p ∷ ps) (suc i) l =
    let e : suc i + 1 ≡ suc (i + 1) = omega arith in
    high_is ps i (omega arith) ∙ sym (ap (λ k. low_or top_key (drop k (p ∷ ps))) e)

-- the keys of the interval before the part at the place have nothing, and the start is before it unless it is the first
pub record IsClear (ps : List Part) (start : List ℕ) (after : Bool) (end : List ℕ) (first i : ℕ) : Type 0 where
  pub none : (key : List ℕ) → is_from start after key ≡ true → lt key end ≡ true → lt key (fence_at ps i) ≡ true → (n : ℕ) → ops_in (messages_in ps ++ row_messages (leaves_in ps)) key n ≡ None
  pub past : first < i → lt start (fence_at ps i) ≡ true
  pub from : first ≤ i

pub clear_first : (ps : List Part) (start : List ℕ) (after : Bool) (end : List ℕ) (first : ℕ) (d : Part) → IsFor ps start first → IsClear ps start after end first first
clear_first ps start after end first d for = record {
  none = λ key f l u n. apart
      (lt_le key (fence_at ps first) start u (ap (lt start) (fence_is ps first d for.inside) ∙ span_low (get_or ps first d).low (high_of ps first) start (for.spanned d)))
      (not_under start after key f);
  past = λ l. absurd (omega arith);
  from = omega arith;
}

-- the key is the part's where it is between its fence and the next
part_for : (ps : List Part) (i : ℕ) (key : List ℕ) → i < length ps → lt key (fence_at ps i) ≡ false → lt key (fence_at ps (i + 1)) ≡ true → IsFor ps key i
part_for ps i key l low high = record {
  inside = l;
  spanned = λ d. spanned (get_or ps i d).low (high_of ps i) key (ap (lt key) (sym (fence_is ps i d l)) ∙ low) (ap (lt key) (high_is ps i l) ∙ high);
}

fence_rises : (ps : List Part) (i : ℕ) (d : Part) → TiledTo top_key ps → i < length ps → lt (fence_at ps i) (fence_at ps (i + 1)) ≡ true
fence_rises ps i d tiled l =
    ap (λ low. lt low (fence_at ps (i + 1))) (fence_is ps i d l)
    ∙ ap (lt (get_or ps i d).low) (sym (high_is ps i l))
    ∙ (let t = tile_at top_key ps i d tiled l in ap is_lt t.ordered)

down : (ps : List Part) (start : List ℕ) (after : Bool) (end : List ℕ) (first i : ℕ) (from : List ℕ) (own : Bool) (key : List ℕ) → IsClear ps start after end first i → IsFromPart ps start after first i from own
    → is_from start after key ≡ true → lt key (fence_at ps i) ≡ false → is_from from own key ≡ true
down ps start after end first i from own key c p f l = by_test (nat_lt first i)
    (λ t. let is = p.later_is (grind (arith, nat_tests, t)) in subst (λ (q : List ℕ × Bool). is_from q.0 q.1 key ≡ true) (λ j. (sym is.0 j, sym is.1 j)) (ap not l))
    (λ t. let is = p.first_is (let g = c.from in grind (arith, nat_tests, t, g)) in subst (λ (q : List ℕ × Bool). is_from q.0 q.1 key ≡ true) (λ j. (sym is.0 j, sym is.1 j)) f)

up : (ps : List Part) (start : List ℕ) (after : Bool) (end : List ℕ) (first i : ℕ) (from : List ℕ) (own : Bool) (key : List ℕ) → IsClear ps start after end first i → IsFromPart ps start after first i from own
    → is_from from own key ≡ true → is_from start after key ≡ true
up ps start after end first i from own key c p f = by_test (nat_lt first i)
    (λ t. let less : first < i = grind (arith, nat_tests, t) in
    let is = p.later_is less in
    let low : lt key (fence_at ps i) ≡ false = not_is (lt key (fence_at ps i)) (subst (λ (q : List ℕ × Bool). is_from q.0 q.1 key ≡ true) (λ j. (is.0 j, is.1 j)) f) in
    from_above start after (fence_at ps i) key (below_from after (c.past less)) low)
    (λ t. let is = p.first_is (let g = c.from in grind (arith, nat_tests, t, g)) in subst (λ (q : List ℕ × Bool). is_from q.0 q.1 key ≡ true) (λ j. (is.0 j, is.1 j)) f)
  where
    below_from : (b : Bool) → lt start (fence_at ps i) ≡ true → is_from start b (fence_at ps i) ≡ true
    below_from true l = l
    below_from false l = ap not (lt_not start (fence_at ps i) l)

-- a part without a key of the interval
pub clear_next : (ps : List Part) (start : List ℕ) (after : Bool) (end : List ℕ) (first i : ℕ) (from : List ℕ) (own : Bool) (d : Part) → TiledTo top_key ps → IsFor ps start first → i < length ps → IsClear ps start after end first i → IsFromPart ps start after first i from own
    → HaveNone (ops_in (part_messages (get_or ps i d))) from own end → IsClear ps start after end first (i + 1)
clear_next ps start after end first i from own d tiled for l c p none = record {
  none = λ key f below u n. by_test (lt key (fence_at ps i))
      (λ t. c.none key f below t n)
      (λ t. row_has ps i d key n tiled (part_for ps i key l t u) ∙ none key (down ps start after end first i from own key c p f t) below n);
  past = λ g. by_test (nat_lt first i)
      (λ t. lt_trans start (fence_at ps i) (fence_at ps (i + 1)) (c.past (grind (arith, nat_tests, t))) (fence_rises ps i d tiled l))
      (λ t. let e : first ≡ i = (let h = c.from in grind (arith, nat_tests, t, h)) in
      subst (λ k. lt start (fence_at ps (k + 1)) ≡ true) e
      (ap (lt start) (sym (high_is ps first for.inside)) ∙ span_high (get_or ps first d).low (high_of ps first) start (for.spanned d)));
  from = let g = c.from in omega arith;
}

-- the next key stands in this part
pub found_below : (ps : List Part) (start : List ℕ) (after : Bool) (end : List ℕ) (first i : ℕ) (from : List ℕ) (own : Bool) (d : Part) (key : List ℕ) → TiledTo top_key ps → i < length ps → IsClear ps start after end first i → IsFromPart ps start after first i from own
    → IsLowest (ops_in (part_messages (get_or ps i d))) from own end key → IsLowest (ops_in (messages_in ps ++ row_messages (leaves_in ps))) start after end key
found_below ps start after end first i from own d key tiled l c p low = record {
  from = up ps start after end first i from own key c p low.from;
  below = low.below;
  number = low.number;
  there = subst IsSome (sym (row_has ps i d key low.number tiled own_part)) low.there;
  none = λ other f u n. by_test (lt other (fence_at ps i))
      (λ t. c.none other f (lt_trans other key end u low.below) t n)
      (λ t. row_has ps i d other n tiled (part_for ps i other l t (lt_trans other key (fence_at ps (i + 1)) u (ap (lt key) (sym (high_is ps i l)) ∙ span_high (get_or ps i d).low (high_of ps i) key inside)))
      ∙ low.none other (down ps start after end first i from own other c p f t) u n);
}
  where
    tile : IsTile (get_or ps i d) (high_of ps i)
    tile = tile_at top_key ps i d tiled l

    inside : spans (get_or ps i d).low (high_of ps i) key ≡ true
    inside = by_test (spans (get_or ps i d).low (high_of ps i) key) (λ e. e)
        (λ e. absurd (none_some (ops_in (part_messages (get_or ps i d)) key low.number)
        (ops-append (get_or ps i d).messages (row_messages (get_or ps i d).leaves) key low.number
        ∙ both_none (ops_in (get_or ps i d).messages key low.number) (ops_in (row_messages (get_or ps i d).leaves) key low.number) (tile.messages.outside key low.number e) (tile.rows.outside key low.number e))
        low.there))

    own_part : IsFor ps key i
    own_part = part_for ps i key l (ap (lt key) (fence_is ps i d l) ∙ span_low (get_or ps i d).low (high_of ps i) key inside) (ap (lt key) (sym (high_is ps i l)) ∙ span_high (get_or ps i d).low (high_of ps i) key inside)

-- no part has a key of the interval
pub none_below : (ps : List Part) (start : List ℕ) (after : Bool) (end : List ℕ) (first i : ℕ) → IsClear ps start after end first i → lt (fence_at ps i) end ≡ false → HaveNone (ops_in (messages_in ps ++ row_messages (leaves_in ps))) start after end
none_below ps start after end first i c l key f below n = c.none key f below (lt_le key end (fence_at ps i) below l) n

-- ---- a node's own messages, and those below

-- of both the own key is the next one, or there is none
pub own_next : (own rest all : List ℕ → Operations) (start : List ℕ) (after : Bool) (to end : List ℕ) (found : Option (List ℕ)) → ((key : List ℕ) (n : ℕ) → all key n ≡ or_else (own key n) (rest key n)) → IsNextKey own start after to found → IsSearchEnd to found end
    → HaveNone rest start after end → IsNextKey all start after to found
own_next own rest all start after to end None same next is none =
    λ key f l n. same key n ∙ both_none (own key n) (rest key n) (next key f l n) (none key f (ap (lt key) is ∙ l) n)
own_next own rest all start after to end (Some k) same next is none = record {
  from = next.from;
  below = next.below;
  number = next.number;
  there = subst IsSome (sym (same k next.number)) (some_left (own k next.number) (rest k next.number) next.there);
  none = λ key f l n. same key n ∙ both_none (own key n) (rest key n) (next.none key f l n) (none key f (ap (lt key) is ∙ l) n);
}

-- of both the key below is the next one
pub below_next : (own rest all : List ℕ → Operations) (start : List ℕ) (after : Bool) (to end : List ℕ) (found : Option (List ℕ)) (key : List ℕ) → ((k : List ℕ) (n : ℕ) → all k n ≡ or_else (own k n) (rest k n)) → IsNextKey own start after to found → IsSearchEnd to found end
    → IsLowest rest start after end key → IsLowest all start after to key
below_next own rest all start after to end None key same next is low = record {
  from = low.from;
  below = ap (lt key) (sym is) ∙ low.below;
  number = low.number;
  there = subst IsSome (sym (same key low.number)) (some_right (own key low.number) (rest key low.number) low.there);
  none = λ k f l n. same k n ∙ both_none (own k n) (rest k n) (next k f (lt_trans k key to l (ap (lt key) (sym is) ∙ low.below)) n) (low.none k f l n);
}
below_next own rest all start after to end (Some o) key same next is low = record {
  from = low.from;
  below = lt_trans key o to (ap (lt key) (sym is) ∙ low.below) next.below;
  number = low.number;
  there = subst IsSome (sym (same key low.number)) (some_right (own key low.number) (rest key low.number) low.there);
  none = λ k f l n. same k n ∙ both_none (own k n) (rest k n) (next.none k f (lt_trans k key o l (ap (lt key) (sym is) ∙ low.below)) n) (low.none k f l n);
}

-- a child's low fence is where its keys begin
pub fence_of_child : {A : Type 0} (cs : List (Child A)) (i : ℕ) (c : Child A) → i < length cs → c ≡ get_or cs i c → (part_of c).low ≡ fence_at (parts_of cs) i
fence_of_child cs i c l e =
    ap (λ d. (part_of d).low) e
    ∙ ap (λ (p : Part). p.low) (sym (get_or-map part_of cs i c (part_of c) l))
    ∙ sym (fence_is (parts_of cs) i (part_of c) (omega (arith, length-map cs part_of)))

pub from_fence : (ps : List Part) (start : List ℕ) (after : Bool) (first i : ℕ) (key : List ℕ) → first < i → key ≡ fence_at ps i → IsFromPart ps start after first i key false
from_fence ps start after first i key l e = record { first_is = λ s. absurd (omega arith); later_is = λ _. (e, refl) }

pub from_the_start : (ps : List Part) (start : List ℕ) (after : Bool) (first i : ℕ) → i ≤ first → IsFromPart ps start after first i start after
from_the_start ps start after first i l = record { first_is = λ _. (refl, refl); later_is = λ s. absurd (omega arith) }

-- what a child has of the interval, for the row
pub child_part : {A : Type 0} (cs : List (Child A)) (i : ℕ) (c : Child A) → i < length cs → c ≡ get_or cs i c → get_or (parts_of cs) i (part_of c) ≡ part_of c
child_part cs i c l e = get_or-map part_of cs i c (part_of c) l ∙ ap part_of (sym e)

-- ---- a node's children

pub same_next : (f g : List ℕ → Operations) (start : List ℕ) (after : Bool) (to : List ℕ) (found : Option (List ℕ)) → ((key : List ℕ) (n : ℕ) → f key n ≡ g key n) → IsNextKey f start after to found → IsNextKey g start after to found
same_next f g start after to None same none = λ key h l n. sym (same key n) ∙ none key h l n
same_next f g start after to (Some key) same low = record {
  from = low.from;
  below = low.below;
  number = low.number;
  there = subst IsSome (same key low.number) low.there;
  none = λ k h l n. sym (same k n) ∙ low.none k h l n;
}

pub leaf_next : {A : Type 0} (c : Child A) (leaf : Leaf A) (start : List ℕ) (after : Bool) (to : List ℕ) (found : Option (List ℕ)) → c ≡ in_child.Leaf leaf → IsNextKey (ops_in (map row_message leaf.rows)) start after to found → IsNextKey (ops_in (part_messages (part_of c))) start after to found
leaf_next {A} c leaf start after to found is next = subst (λ (d : Child A). IsNextKey (ops_in (part_messages (part_of d))) start after to found) (sym is)
    (same_next (ops_in (map row_message leaf.rows)) (ops_in (map row_message leaf.rows ++ [])) start after to found
    (λ key n. sym (ops-append (map row_message leaf.rows) [] key n ∙ or_none (ops_in (map row_message leaf.rows) key n) None refl)) next)

pub node_next : {A : Type 0} (c : Child A) (lower : Subtree) (start : List ℕ) (after : Bool) (to : List ℕ) (found : Option (List ℕ)) → c ≡ in_child.Node lower → IsNextKey (ops_in (messages_of lower)) start after to found → IsNextKey (ops_in (part_messages (part_of c))) start after to found
node_next {A} c lower start after to found is next = subst (λ (d : Child A). IsNextKey (ops_in (part_messages (part_of d))) start after to found) (sym is) next

rest_of : {A : Type 0} (t : Subtree) (cs : List (Child A)) (key : List ℕ) (n : ℕ) → AreChildren t cs → ops_in (messages_of t) key n ≡ or_else (ops_in t.buffer.messages key n) (ops_in (messages_in (parts_of cs) ++ row_messages (leaves_in (parts_of cs))) key n)
rest_of t cs key n are = ops_over t key n ∙ (λ i. or_else (ops_in t.buffer.messages key n) (ops_in (are.deeper i ++ row_messages (are.leaves i)) key n))

-- a child without a key of the interval
pub child_clear : {A : Type 0} (t : Subtree) (cs : List (Child A)) (start : List ℕ) (after : Bool) (end : List ℕ) (first i : ℕ) (c : Child A) (from : List ℕ) (own : Bool) (found : Option (List ℕ)) → AreChildren t cs → IsFor (parts_of cs) start first → i < length cs → c ≡ get_or cs i c
    → IsClear (parts_of cs) start after end first i → IsFromPart (parts_of cs) start after first i from own → IsNextKey (ops_in (part_messages (part_of c))) from own end found → is_some found ≡ false → IsClear (parts_of cs) start after end first (i + 1)
child_clear t cs start after end first i c from own None are for l e clear p none e' =
    clear_next (parts_of cs) start after end first i from own (part_of c) are.tiled for (omega (arith, length-map cs part_of)) clear p
    (subst (λ (q : Part). HaveNone (ops_in (part_messages q)) from own end) (sym (child_part cs i c l e)) none)
child_clear t cs start after end first i c from own (Some key) are for l e clear p low e' = absurd (let z : true ≡ false = e' in cc)

-- the next key stands in this child
pub child_found : {A : Type 0} (t : Subtree) (cs : List (Child A)) (start : List ℕ) (after : Bool) (to end : List ℕ) (first i : ℕ) (c : Child A) (from : List ℕ) (own : Bool) (here found : Option (List ℕ)) → AreChildren t cs → i < length cs → c ≡ get_or cs i c
    → IsClear (parts_of cs) start after end first i → IsFromPart (parts_of cs) start after first i from own → IsNextKey (ops_in t.buffer.messages) start after to here → IsSearchEnd to here end → IsNextKey (ops_in (part_messages (part_of c))) from own end found → is_some found ≡ true
    → IsNextKey (ops_in (messages_of t)) start after to found
child_found t cs start after to end first i c from own here None are l e clear p next is low e' = absurd (let z : false ≡ true = e' in cc)
child_found t cs start after to end first i c from own here (Some key) are l e clear p next is low e' =
    below_next (ops_in t.buffer.messages) (ops_in (messages_in (parts_of cs) ++ row_messages (leaves_in (parts_of cs)))) (ops_in (messages_of t)) start after to end here key (λ k n. rest_of t cs k n are) next is
    (found_below (parts_of cs) start after end first i from own (part_of c) key are.tiled (omega (arith, length-map cs part_of)) clear p
    (subst (λ (q : Part). IsLowest (ops_in (part_messages q)) from own end key) (sym (child_part cs i c l e)) low))

-- the next child begins where the search ends
pub children_end : {A : Type 0} (t : Subtree) (cs : List (Child A)) (start : List ℕ) (after : Bool) (to end : List ℕ) (first i : ℕ) (c : Child A) (here : Option (List ℕ)) → AreChildren t cs → i < length cs → c ≡ get_or cs i c
    → IsClear (parts_of cs) start after end first i → IsNextKey (ops_in t.buffer.messages) start after to here → IsSearchEnd to here end → lt (part_of c).low end ≡ false → IsNextKey (ops_in (messages_of t)) start after to here
children_end t cs start after to end first i c here are l e clear next is low =
    own_next (ops_in t.buffer.messages) (ops_in (messages_in (parts_of cs) ++ row_messages (leaves_in (parts_of cs)))) (ops_in (messages_of t)) start after to end here (λ k n. rest_of t cs k n are) next is
    (none_below (parts_of cs) start after end first i clear (ap (λ k. lt k end) (sym (fence_of_child cs i c l e)) ∙ low))

pub none_right : (a b : Option Op) → or_else a b ≡ None → b ≡ None
none_right None b e = e
none_right (Some op) b e = absurd cc

-- no child is left
pub children_done : {A : Type 0} (t : Subtree) (cs : List (Child A)) (start : List ℕ) (after : Bool) (to end : List ℕ) (first i : ℕ) (here : Option (List ℕ)) → AreChildren t cs → length cs ≤ i
    → IsClear (parts_of cs) start after end first i → IsNextKey (ops_in t.buffer.messages) start after to here → IsSearchEnd to here end → IsNextKey (ops_in (messages_of t)) start after to here
children_done t cs start after to end first i here are l clear next is =
    own_next (ops_in t.buffer.messages) (ops_in (messages_in (parts_of cs) ++ row_messages (leaves_in (parts_of cs)))) (ops_in (messages_of t)) start after to end here (λ k n. rest_of t cs k n are) next is
    (λ key f below n. by_test (lt key top_key)
    (λ u. clear.none key f below (ap (λ ps. lt key (low_or top_key ps)) (drop_past (parts_of cs) i (omega (arith, length-map cs part_of))) ∙ u) n)
    (λ u. none_right (ops_in t.buffer.messages key n) (ops_in (messages_in (parts_of cs) ++ row_messages (leaves_in (parts_of cs))) key n)
    (sym (rest_of t cs key n are) ∙ none_outside t cs key n are (beyond t.low top_key key u))))

-- a child is searched from a key that it may hold
pub from_inside : {A : Type 0} (t : Subtree) (cs : List (Child A)) (start : List ℕ) (after : Bool) (first i : ℕ) (c : Child A) (from : List ℕ) (own : Bool) → AreChildren t cs → IsFor (parts_of cs) start first → first ≤ i → i < length cs → c ≡ get_or cs i c → IsFromPart (parts_of cs) start after first i from own
    → spans (part_of c).low top_key from ≡ true
from_inside t cs start after first i c from own are for f l e p = by_test (nat_lt first i)
    (λ u. let is = p.later_is (grind (arith, nat_tests, u)) in
    ap (spans (part_of c).low top_key) (is.0 ∙ sym (fence_of_child cs i c l e)) ∙ spanned (part_of c).low top_key (part_of c).low (lt_self (part_of c).low) low_top)
    (λ u. let same : i ≡ first = grind (arith, nat_tests, u, f) in
    ap (spans (part_of c).low top_key) (p.first_is same).0
    ∙ spanned (part_of c).low top_key start
    (ap (lt start) (sym here) ∙ ap (λ k. lt start (get_or (parts_of cs) k (part_of c)).low) same ∙ span_low (get_or (parts_of cs) first (part_of c)).low (high_of (parts_of cs) first) start (for.spanned (part_of c)))
    (lt_le start (high_of (parts_of cs) first) top_key (span_high (get_or (parts_of cs) first (part_of c)).low (high_of (parts_of cs) first) start (for.spanned (part_of c))) (end_at_most message_taken top_key (parts_of cs) first (messages_apart top_key (parts_of cs) are.tiled) for.inside)))
  where
    inside : i < length (parts_of cs)
    inside = omega (arith, length-map cs part_of)

    here : (get_or (parts_of cs) i (part_of c)).low ≡ (part_of c).low
    here = ap (λ (q : Part). q.low) (child_part cs i c l e)

    low_top : lt (part_of c).low top_key ≡ true
    low_top = ap (λ low. lt low top_key) (sym here) ∙ lt_le (get_or (parts_of cs) i (part_of c)).low (high_of (parts_of cs) i) top_key
        (let t' = tile_at top_key (parts_of cs) i (part_of c) are.tiled inside in ap is_lt t'.ordered)
        (end_at_most message_taken top_key (parts_of cs) i (messages_apart top_key (parts_of cs) are.tiled) inside)

-- a node among the children is lower
pub child_lower : {A : Type 0} (t : Subtree) (cs : List (Child A)) (i : ℕ) (c : Child A) (lower : Subtree) → AreChildren t cs → i < length cs → c ≡ get_or cs i c → c ≡ in_child.Node lower → lower.height < t.height
child_lower t cs i c lower are l e is =
    let level = (level_at t.height t.shape cs i c are.level (slice_get-get_or cs i c l ∙ ap (λ x. Some x) (sym e))).level in
    let same : (part_of c).height ≡ lower.height = ap (λ d. (part_of d).height) is in
    omega (arith, level, same)

pub some_mapped : {X Y : Type 0} (f : X → Y) (o : Option X) → is_some (option_map f o) ≡ is_some o
some_mapped f None = refl
some_mapped f (Some x) = refl
