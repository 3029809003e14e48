-- A node some of whose messages moved towards the leaves, where none of a batch does.
use Rattle.std.proofs.Common.{zero, suc, ◌≡◌, ◌≢◌, ℕ, ◌≤◌, true, false, List, [], ◌∷◌, set, Option, Some, None, refl, sym, ap, ◌∙◌, subst, arith, ⊎_elim}
use Rattle.std.specs.Prelude.{slice_get, IsSome}
use Rattle.std.specs.List.{AllByRecursion}
use Rattle.std.specs.Ordering.{is_eq, eq_by_cmp}
use Rattle.std.specs.Vec.{with_item}
use Rattle.std.specs.declared.vec.Vec.{Vec}
use Rattle.stow_leaves.proofs.StowMessage.Placed.{AllOther, all_other}
use Rattle.stow_leaves.proofs.StowMessage.RisingLaws.{rests_rise}
use Rattle.stow_leaves.specs.StowMessage.MessageBuf.{MessageList}
use Rattle.stow_leaves.specs.StowMessage.Rising.{all_placed, in_range, AreNew}
use Rattle.stow_tree_model.proofs.Histories.{ops_in-skip}
use Rattle.stow_tree_model.proofs.Orders.{place_cases}
use Rattle.stow_tree_model.specs.Agreement.{TenantPins}
use Rattle.stow_tree_model.specs.Keys.{tenant_of}
use Rattle.stow_tree_model.specs.Messages.{ops_in}
use Rattle.stow_tree_model.specs.Operations.{or_else}
use Rattle.stow_tree_model.specs.Order.{VersionPlace, MessagesRise, place_cmp, place_of}
use Rattle.stow_tree_model.specs.TreeMessage.{TreeMessage}
use Rattle.stow_leaves.specs.StowLeaf.Intervals.{top_key, spans}
use Rattle.stow_leaves.specs.StowLeaf.LeafRows.{row_messages}
use Rattle.stow_leaves.proofs.StowLeaf.Found.{both_none, some_left}
use Rattle.stow_leaves.proofs.StowLeaf.Intervals.{by_test}
use Rattle.stow_leaves.proofs.StowLeaf.Ops.{Other, ops-append, ops-all_placed}
use Rattle.stow_leaves.proofs.StowLeaf.Over.{or_none_left, or_none_right, same_pointwise, same_then}
use Rattle.stow_node.specs.declared.child.Child.{Child}
use Rattle.stow_node.specs.declared.child.Child.TheVariants as in_child
use Rattle.stow_node.specs.declared.node.Node.TheInside.{Inside}
use Rattle.stow_node.specs.Eases.{Eases}
use Rattle.stow_node.specs.Flushes.{KeepsRoot}
use Rattle.stow_node.specs.Moves.{accepted, CanAccept, IsReallocated, StaysInMeaning, HandsDown}
use Rattle.stow_node.specs.Nodes.{part_of, parts_of, nearest_of, nearest_in, subtree_of, IsBelow, IsNode}
use Rattle.stow_node.specs.Parts.{low_or, high_of}
use Rattle.stow_node.specs.Subtree.{Subtree, nearest_at, buffered, messages_of, right_above_leaves}
use Rattle.stow_node.proofs.Down.{stays_itself, MadeRoom, WentInto}
use Rattle.stow_node.proofs.Reallocated.{StaysLike, like_then, reallocated_same, stays_like}
use Rattle.stow_node.proofs.HandedDown.{same_node}
use Rattle.stow_node.proofs.Nearest.{in_own, out_of_own, nearest_up}
use Rattle.stow_node.proofs.Newer.{all_new_to, newer_than_part}
use Rattle.stow_node.proofs.PlanSteps.{same_messages}
use Rattle.stow_node.proofs.Stayed.{ChildStays, child_stays, level_at}

-- ---- messages

apart : (p q : VersionPlace) → is_eq (place_cmp p q) ≡ false → p ≡ q → ⊥
apart p q o e = ⊎_elim
    (λ (h : (p ≡ q) × (eq_by_cmp place_cmp p q ≡ true)). absurd cc)
    (λ (h : (p ≡ q → ⊥) × (eq_by_cmp place_cmp p q ≡ false)). absurd (h.0 e))
    (place_cases p q)

-- a key and number that some messages have, messages of no such place lack
none_of_new : (ms ns : List TreeMessage) (key : List ℕ) (n : ℕ) → AllOther ms ns → IsSome (ops_in ms key n) → ops_in ns key n ≡ None
none_of_new [] ns key n all s = absurd cc
none_of_new (m ∷ ms) ns key n all s = ⊎_elim
    (λ (e : (◌≡◌ {A = VersionPlace} (key, n) (place_of m)) × (eq_by_cmp place_cmp (key, n) (place_of m) ≡ true)). at_place e.0 ns all.0)
    (λ (e : (◌≢◌ {A = VersionPlace} (key, n) (place_of m)) × (eq_by_cmp place_cmp (key, n) (place_of m) ≡ false)).
    none_of_new ms ns key n all.1 (subst IsSome (ops_in-skip m ms key n e.0) s))
    (place_cases (key, n) (place_of m))
  where
    at_place : ◌≡◌ {A = VersionPlace} (key, n) (place_of m) → (xs : List TreeMessage) → AllByRecursion (Other m) xs → ops_in xs key n ≡ None
    at_place e [] a = refl
    at_place e (x ∷ xs) a = ops_in-skip x xs key n (λ (f : ◌≡◌ {A = VersionPlace} (key, n) (place_of x)). apart (place_of x) (place_of m) a.0 (sym f ∙ e)) ∙ at_place e xs a.1

-- ---- right above the leaves

-- with another node at a place only what that node brings comes
pub nearest-set : {A : Type 0} (cs : List (Child A)) (i : ℕ) (x z : Subtree) (key : List ℕ) (n : ℕ) → slice_get cs i ≡ Some (in_child.Node x) → z.low ≡ x.low
    → (spans x.low (high_of (parts_of cs) i) key ≡ true → ops_in (right_above_leaves x) key n ≡ None → ops_in (right_above_leaves z) key n ≡ None)
    → ops_in (nearest_in cs) key n ≡ None → ops_in (nearest_in (set cs i (in_child.Node z))) key n ≡ None
nearest-set [] i x z key n at low f none = absurd cc
nearest-set {A} (c ∷ cs) zero x z key n at low f none =
    ops-append (in_range z.low end (right_above_leaves z)) (nearest_in cs) key n
    ∙ both_none (ops_in (in_range z.low end (right_above_leaves z)) key n) (ops_in (nearest_in cs) key n)
    (by_test (spans z.low end key)
    (λ s. in_own z.low end (right_above_leaves z) key n s ∙ f (own s) (sym (in_own x.low end (right_above_leaves x) key n (own s)) ∙ first))
    (λ s. out_of_own z.low end (right_above_leaves z) key n s))
    (or_none_right (ops_in (in_range x.low end (right_above_leaves x)) key n) (ops_in (nearest_in cs) key n) parts)
  where
    end : List ℕ
    end = low_or top_key (parts_of cs)

    own : spans z.low end key ≡ true → spans x.low end key ≡ true
    own s = ap (λ l. spans l end key) (sym low) ∙ s

    is : c ≡ in_child.Node x
    is = same c (in_child.Node x) at where
      same : (c d : Child A) → ◌≡◌ {A = Option (Child A)} (Some c) (Some d) → c ≡ d
      same c d e = cc

    parts : or_else (ops_in (in_range x.low end (right_above_leaves x)) key n) (ops_in (nearest_in cs) key n) ≡ None
    parts = sym (ops-append (in_range x.low end (right_above_leaves x)) (nearest_in cs) key n) ∙ subst (λ (d : Child A). ops_in (nearest_in (d ∷ cs)) key n ≡ None) is none

    first : ops_in (in_range x.low end (right_above_leaves x)) key n ≡ None
    first = or_none_left (ops_in (in_range x.low end (right_above_leaves x)) key n) (ops_in (nearest_in cs) key n) parts
nearest-set {A} (c ∷ cs) (suc i) x z key n at low f none =
    ops-append (in_range (part_of c).low (low_or top_key (parts_of (set cs i (in_child.Node z)))) (nearest_of c)) (nearest_in (set cs i (in_child.Node z))) key n
    ∙ both_none (ops_in (in_range (part_of c).low (low_or top_key (parts_of (set cs i (in_child.Node z)))) (nearest_of c)) key n) (ops_in (nearest_in (set cs i (in_child.Node z))) key n)
    (ap (λ end. ops_in (in_range (part_of c).low end (nearest_of c)) key n) (same_end cs i at) ∙ or_none_left (ops_in (in_range (part_of c).low (low_or top_key (parts_of cs)) (nearest_of c)) key n) (ops_in (nearest_in cs) key n) parts)
    (nearest-set cs i x z key n at low f (or_none_right (ops_in (in_range (part_of c).low (low_or top_key (parts_of cs)) (nearest_of c)) key n) (ops_in (nearest_in cs) key n) parts))
  where
    parts : or_else (ops_in (in_range (part_of c).low (low_or top_key (parts_of cs)) (nearest_of c)) key n) (ops_in (nearest_in cs) key n) ≡ None
    parts = sym (ops-append (in_range (part_of c).low (low_or top_key (parts_of cs)) (nearest_of c)) (nearest_in cs) key n) ∙ none

    same_end : (ds : List (Child A)) (j : ℕ) → slice_get ds j ≡ Some (in_child.Node x) → low_or top_key (parts_of (set ds j (in_child.Node z))) ≡ low_or top_key (parts_of ds)
    same_end [] j e = absurd cc
    same_end (d ∷ ds) zero e = low ∙ ap (λ (k : Child A). (part_of k).low) (sym (same d (in_child.Node x) e)) where
      same : (c d : Child A) → ◌≡◌ {A = Option (Child A)} (Some c) (Some d) → c ≡ d
      same c d e = cc
    same_end (d ∷ ds) (suc j) e = refl

-- of more messages of its own a node right above leaves has those more
nearest_grown : (height : ℕ) (own own' below : List TreeMessage) (key : List ℕ) (n : ℕ) → (ops_in own key n ≡ None → ops_in own' key n ≡ None) → ops_in (nearest_at height own below) key n ≡ None → ops_in (nearest_at height own' below) key n ≡ None
nearest_grown zero own own' below key n f none = none
nearest_grown (suc zero) own own' below key n f none = f none
nearest_grown (suc (suc height)) own own' below key n f none = none

accepted_none : (ms : List TreeMessage) (y : Subtree) (key : List ℕ) (n : ℕ) → CanAccept ms y → MessagesRise ms → ops_in ms key n ≡ None → ops_in (right_above_leaves y) key n ≡ None → ops_in (right_above_leaves (accepted ms y)) key n ≡ None
accepted_none ms y key n can rise none = nearest_grown y.height y.buffer.messages (all_placed ms y.buffer.messages) y.nearest key n
    (λ own. ops-all_placed ms y.buffer.messages key n rise (all_new_to ms y.buffer.messages (newer_than_part ms (messages_of y) y.buffer.messages there can.newer))
    ∙ both_none (ops_in ms key n) (ops_in y.buffer.messages key n) none own)
  where
    there : (k : List ℕ) (j : ℕ) → IsSome (ops_in y.buffer.messages k j) → IsSome (ops_in (messages_of y) k j)
    there k j s = subst IsSome (sym (ops-append (buffered y) (row_messages y.leaves) k j))
        (some_left (ops_in (buffered y) k j) (ops_in (row_messages y.leaves) k j)
        (subst IsSome (sym (ops-append y.buffer.messages y.deeper k j)) (some_left (ops_in y.buffer.messages k j) (ops_in y.deeper k j) s)))

-- ---- a node whose child is eased, or takes messages

pub eased_itself : (batch : List TreeMessage) (x : Subtree) → Eases batch x x
eased_itself batch x = record { stays = stays_itself x; nearer = omega arith; apart = λ key n s none. none }

pub record EasedBelow {A : Type 0} (a : Inside A) (v : Vec (Child A) A) (batch : List TreeMessage) : Type 0 where
  pub is_node : IsNode (record a { children = v })
  pub eases : Eases batch (subtree_of a) (subtree_of (record a { children = v }))

-- no node that has a node below it stands right above leaves
above_node : {A : Type 0} (a : Inside A) (i : ℕ) (x : Subtree) → IsNode a → slice_get a.children.items i ≡ Some (in_child.Node x) → 2 ≤ a.height
above_node {A} a i x node at =
    let level : IsBelow {A = A} a.height a.shape (in_child.Node x) = level_at a.height a.shape a.children.items i (in_child.Node x) node.level at in
    let l = level.level in let h = level.same.2 in omega (arith, l, h)

-- another block leaves what stands right above the leaves
reallocated_none : (x y : Subtree) (key : List ℕ) (n : ℕ) → IsReallocated x y → ops_in (right_above_leaves x) key n ≡ None → ops_in (right_above_leaves y) key n ≡ None
reallocated_none x y key n q none = ap (λ (t : Subtree). ops_in (right_above_leaves t) key n) q.is ∙ none

pub eased_below : {A : Type 0} (a : Inside A) (i : ℕ) (x y z : Subtree) (batch : List TreeMessage) → IsNode a → slice_get a.children.items i ≡ Some (in_child.Node x) → IsReallocated x y → Eases batch y z → EasedBelow a (with_item a.children i (in_child.Node z)) batch
eased_below {A} a i x y z batch node at q e = record {
  is_node = made.is_node;
  eases = record {
    stays = made.stays;
    nearer = let w = made.weight in let l = e.nearer in let s = (reallocated_same x y q).1 in omega (arith, w, l, s);
    apart = λ key n s none.
        ap (λ ms. ops_in ms key n) (nearest_up a.height a.buffer.messages (nearest_in (set a.children.items i (in_child.Node z))) up)
        ∙ nearest-set a.children.items i x z key n at kept.low
        (λ own old. e.apart key n s (reallocated_none x y key n q old))
        (ap (λ ms. ops_in ms key n) (sym (nearest_up a.height a.buffer.messages (nearest_in a.children.items) up)) ∙ none);
  };
}
  where
    kept : StaysLike x z
    kept = like_then (reallocated_same x y q).0 (stays_like e.stays)

    made : ChildStays a x z (with_item a.children i (in_child.Node z))
    made = child_stays a (with_item a.children i (in_child.Node z)) i x z node at refl kept

    up : 2 ≤ a.height
    up = above_node a i x node at

-- of the batch none is in the buffer above the child
pub eased_into : {A : Type 0} (a : Inside A) (i : ℕ) (x y : Subtree) (v : Vec (Child A) A) (b : MessageList) (batch : List TreeMessage) → IsNode a → MessagesRise a.buffer.messages → slice_get a.children.items i ≡ Some (in_child.Node x) → IsReallocated x y → MadeRoom a i x y → WentInto a v b
    → HandsDown (set a.children.items i (in_child.Node y)) i a.buffer v.items b → AreNew (in_range y.low (high_of (parts_of (set a.children.items i (in_child.Node y))) i) batch) a.buffer.messages
    → Eases batch (subtree_of a) (subtree_of (record a { children = v; buffer = b }))
eased_into {A} a i x y v b batch node rise at q m went h new = record {
  stays = went.stays;
  nearer = let w = went.weight in omega (arith, w);
  apart = λ key n s none.
      ap (λ ms. ops_in ms key n) (nearest_up a.height b.messages (nearest_in v.items) up)
      ∙ ap (λ cs. ops_in (nearest_in cs) key n) into
      ∙ nearest-set cs i y (accepted ms y) key n m.at refl
      (λ own old. accepted_none ms y key n m.can rising (moved key n own s) old)
      (nearest-set a.children.items i x y key n at (reallocated_same x y q).0.low
      (λ own old. reallocated_none x y key n q old)
      (ap (λ l. ops_in l key n) (sym (nearest_up a.height a.buffer.messages (nearest_in a.children.items) up)) ∙ none));
}
  where
    cs : List (Child A)
    cs = set a.children.items i (in_child.Node y)

    high : List ℕ
    high = high_of (parts_of cs) i

    ms : List TreeMessage
    ms = in_range y.low high a.buffer.messages

    up : 2 ≤ a.height
    up = above_node a i x node at

    into : v.items ≡ set cs i (in_child.Node (accepted ms y))
    into = h.into ∙ ap (λ (t : Subtree). set cs i (in_child.Node (accepted (in_range t.low high a.buffer.messages) t))) (same_node h.node y (sym h.at ∙ m.at))

    rising : MessagesRise ms
    rising = (rests_rise y.low high [] a.buffer.messages rise).0

    moved : (key : List ℕ) (n : ℕ) → spans y.low high key ≡ true → IsSome (ops_in batch key n) → ops_in ms key n ≡ None
    moved key n own s = in_own y.low high a.buffer.messages key n own
        ∙ none_of_new (in_range y.low high batch) a.buffer.messages key n (all_other (in_range y.low high batch) a.buffer.messages new) (subst IsSome (sym (in_own y.low high batch key n own)) s)

-- ---- a root

pub root_eased : (pins : TenantPins) (x y z : Subtree) (batch : List TreeMessage) → KeepsRoot pins x y → Eases batch y z → KeepsRoot pins x z
root_eased pins x y z batch k e = record {
  low = s.low ∙ k.low;
  shape = s.shape ∙ k.shape;
  capacity = s.capacity ∙ k.capacity;
  few = let w = s.width in let f = k.few in let o = ap (λ h. h.fan_out) s.shape in omega (arith, w, f, o);
  means = λ key. same_then (pins (tenant_of key)) (ops_in (messages_of x) key) (ops_in (messages_of y) key) (ops_in (messages_of z) key) (k.means key)
      (same_pointwise (pins (tenant_of key)) (ops_in (messages_of y) key) (ops_in (messages_of z) key) (λ n. sym (same_messages y z s key n)));
}
  where
    s : StaysInMeaning y z
    s = e.stays
