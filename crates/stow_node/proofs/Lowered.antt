-- A node whose messages for one child went into that child's buffer.
use Rattle.std.proofs.Common.{zero, suc, ◌≡◌, ℕ, ◌+◌, ◌*◌, ◌<◌, ◌≤◌, Bool, true, false, cond, List, [], ◌∷◌, ◌++◌, length, map, get_or, set, Option, Some, None, refl, sym, ap, ◌∙◌, subst, arith, length-append, append_assoc}
use Rattle.std.specs.Prelude.{slice_get, IsSome, not}
use Rattle.std.specs.List.{flat_map, sum_by, AllByRecursion}
use Rattle.std.specs.declared.vec.Vec.{Vec}
use Rattle.std.proofs.lemmas.List.{map-set, length-map, length-set, get_or-set_same}
use Rattle.std.proofs.lemmas.List.Filters.{length-filter_both}
use Rattle.std.proofs.lemmas.List.Sums.{sum_by-set}
use Rattle.std.proofs.lemmas.Grind.{flat_map-append}
use Rattle.stow_tree_model.specs.Merged.{row_message}
use Rattle.stow_tree_model.specs.Op.{Op}
use Rattle.stow_tree_model.specs.Operations.{or_else}
use Rattle.stow_tree_model.specs.Messages.{ops_in}
use Rattle.stow_tree_model.specs.Order.{MessagesRise}
use Rattle.stow_tree_model.specs.TreeMessage.{TreeMessage}
use Rattle.stow_leaves.specs.StowMessage.MessageBuf.{MessageList, without_range}
use Rattle.stow_leaves.specs.StowMessage.Packed.{message_size}
use Rattle.stow_leaves.specs.StowMessage.Rising.{is_between, all_placed, in_range, out_of_range}
use Rattle.stow_leaves.proofs.StowMessage.RisingLaws.{rests_rise}
use Rattle.stow_leaves.proofs.StowMessage.Placed.{AllOther}
use Rattle.stow_node.specs.declared.child.Child.{Child}
use Rattle.stow_node.specs.declared.child.Child.TheVariants as in_child
use Rattle.stow_node.specs.declared.node.Node.TheInside.{Inside}
use Rattle.stow_node.specs.Subtree.{Subtree, buffered, messages_of}
use Rattle.stow_leaves.specs.StowLeaf.LeafRows.{LeafRows, row_messages}
use Rattle.stow_node.specs.Parts.{Part, low_or, end_of, high_of, IsTile, TiledTo, messages_in, leaves_in, weight_in}
use Rattle.stow_leaves.specs.StowLeaf.Intervals.{top_key, spans}
use Rattle.stow_node.specs.Nodes.{part_of, node_part, parts_of, IsBelow, subtree_of, IsNode, AreLeafSizes}
use Rattle.stow_node.specs.Moves.{accepted, CanAccept, StaysInMeaning}
use Rattle.stow_node.proofs.Accepted.{length-all_placed, below_of}
use Rattle.stow_leaves.proofs.StowLeaf.Found.{none_some, some_left}
use Rattle.stow_node.proofs.Newer.{all_new_to, newer_than_part}
use Rattle.stow_leaves.proofs.StowLeaf.Ops.{ops-append, ops-in_range, ops-out_of_range, ops-all_placed}
use Rattle.stow_node.proofs.Row.{Taken, Apart, message_taken, row_taken, messages_apart, rows_apart, at_part, same_at, low_or-set, tiled-set, tile_at, low_at_most}
use Rattle.stow_leaves.proofs.StowLeaf.Intervals.{lt, by_test, lt_le, span_low, span_high, spanned}
use Rattle.stow_leaves.proofs.StowLeaf.Steps.{inside_of}
use Rattle.stow_node.proofs.Stayed.{part_at, level-set, level_at, leaves-set, count-set}

pub row_messages-append : (xs ys : List LeafRows) → row_messages (xs ++ ys) ≡ row_messages xs ++ row_messages ys
row_messages-append xs ys = flat_map-append (λ (leaf : LeafRows). map row_message leaf.1) xs ys

pub rows_by_part : (ps : List Part) → row_messages (leaves_in ps) ≡ flat_map row_taken ps
rows_by_part [] = refl
rows_by_part (p ∷ ps) = row_messages-append p.leaves (leaves_in ps) ∙ ap (λ (l : List TreeMessage). row_messages p.leaves ++ l) (rows_by_part ps)

-- no part ends above the row
pub end_at_most : (f : Taken) (high : List ℕ) (ps : List Part) (i : ℕ) → Apart f high ps → i < length ps → lt high (end_of high ps i) ≡ false
end_at_most f high [] i a h = absurd (omega arith)
end_at_most f high (p ∷ ps) zero a h = low_at_most f high ps a.1
end_at_most f high (p ∷ ps) (suc i) a h = end_at_most f high ps i a.1 (omega arith)

pub end_of-set : (high : List ℕ) (ps : List Part) (i : ℕ) (p : Part) → end_of high (set ps i p) i ≡ end_of high ps i
end_of-set high [] i p = refl
end_of-set high (q ∷ ps) zero p = refl
end_of-set high (q ∷ ps) (suc i) p = end_of-set high ps i p

or_assoc : (p q r : Option Op) → or_else (or_else p q) r ≡ or_else p (or_else q r)
or_assoc None q r = refl
or_assoc (Some p) q r = refl

swapped : (s : Bool) (o m : Option Op) → or_else (cond (not s) o None) (or_else (cond s o None) m) ≡ or_else o m
swapped true o m = refl
swapped false o m = refl

pub record AtChild {A : Type 0} (a : Inside A) (i : ℕ) (x : Subtree) : Type 0 where
  pub inside : i < length (parts_of a.children.items)
  pub here : get_or (parts_of a.children.items) i (node_part x) ≡ node_part x
  pub tile : IsTile (node_part x) (high_of (parts_of a.children.items) i)
  pub level : IsBelow {A = A} a.height a.shape (in_child.Node x)

pub at_child : {A : Type 0} (a : Inside A) (i : ℕ) (x : Subtree) → IsNode a → slice_get a.children.items i ≡ Some (in_child.Node x) → AtChild a i x
at_child {A} a i x node at =
    let inside : i < length (parts_of a.children.items) = omega (arith, inside_of a.children.items i (in_child.Node x) at, length-map a.children.items part_of) in
    let here : get_or (parts_of a.children.items) i (node_part x) ≡ node_part x = part_at a.children.items i (in_child.Node x) (node_part x) at in
    record {
      inside = inside;
      here = here;
      tile = subst (λ p. IsTile p (high_of (parts_of a.children.items) i)) here (tile_at top_key (parts_of a.children.items) i (node_part x) node.tiled inside);
      level = level_at a.height a.shape a.children.items i (in_child.Node x) node.level at;
    }

abbrev pub for_child : {A : Type 0} → Inside A → ℕ → Subtree → List TreeMessage
for_child a i x = in_range x.low (high_of (parts_of a.children.items) i) a.buffer.messages

-- what the child has of a key is what stands below the node, where the key is the child's
below_at : {A : Type 0} (a : Inside A) (i : ℕ) (x : Subtree) → IsNode a → AtChild a i x → (key : List ℕ) (n : ℕ) → spans x.low (high_of (parts_of a.children.items) i) key ≡ true
    → (ops_in (messages_in (parts_of a.children.items)) key n ≡ ops_in (buffered x) key n) × (ops_in (row_messages (leaves_in (parts_of a.children.items))) key n ≡ ops_in (row_messages x.leaves) key n)
below_at a i x node c key n s =
    let ps = parts_of a.children.items in
    let own : spans (get_or ps i (node_part x)).low (high_of ps i) key ≡ true = ap (λ (p : Part). spans p.low (high_of ps i) key) c.here ∙ s in (
      at_part message_taken top_key ps i (node_part x) key n (messages_apart top_key ps node.tiled) c.inside own ∙ ap (λ (p : Part). ops_in p.messages key n) c.here,
      ap (λ l. ops_in l key n) (rows_by_part ps) ∙ at_part row_taken top_key ps i (node_part x) key n (rows_apart top_key ps node.tiled) c.inside own ∙ ap (λ (p : Part). ops_in (row_messages p.leaves) key n) c.here,
    )

-- a child can take its messages where they fit
pub can_hand : {A : Type 0} (a : Inside A) (i : ℕ) (x : Subtree) → IsNode a → slice_get a.children.items i ≡ Some (in_child.Node x) → x.buffer.used + sum_by message_size (for_child a i x) ≤ x.buffer.capacity → CanAccept (for_child a i x) x
can_hand {A} a i x node at room = record {
  room = room;
  newer = record {
    above = λ key n k u l. by_test (spans x.low high key)
        (λ s. node.newer.above key n k (subst IsSome (ops-in_range x.low high a.buffer.messages key n ∙ ap (λ b. cond b (ops_in a.buffer.messages key n) None) s) u)
        (subst IsSome (sym (below key k s)) (subst IsSome (ops-append (buffered x) (row_messages x.leaves) key k) l)))
        (λ s. absurd (none_some _ (ops-in_range x.low high a.buffer.messages key n ∙ ap (λ b. cond b (ops_in a.buffer.messages key n) None) s) u));
  };
  within = record {
    outside = λ key n o. ops-in_range x.low high a.buffer.messages key n ∙ by_test (spans x.low high key)
        (λ s. absurd (both_ways key o s))
        (λ s. ap (λ b. cond b (ops_in a.buffer.messages key n) None) s);
  };
}
  where
    high : List ℕ
    high = high_of (parts_of a.children.items) i

    c : AtChild a i x
    c = at_child a i x node at

    below : (key : List ℕ) (k : ℕ) → spans x.low high key ≡ true → ops_in (below_of a) key k ≡ or_else (ops_in (buffered x) key k) (ops_in (row_messages x.leaves) key k)
    below key k s =
        let both = below_at a i x node c key k s in
        ops-append (messages_in (parts_of a.children.items)) (row_messages (leaves_in (parts_of a.children.items))) key k
        ∙ ap (λ (o : Option Op). or_else o (ops_in (row_messages (leaves_in (parts_of a.children.items))) key k)) both.0
        ∙ ap (or_else (ops_in (buffered x) key k)) both.1

    both_ways : (key : List ℕ) → spans x.low top_key key ≡ false → spans x.low high key ≡ true → ⊥
    both_ways key o s =
        let under = lt_le key high top_key (span_high x.low high key s) (end_at_most message_taken top_key (parts_of a.children.items) i (messages_apart top_key (parts_of a.children.items) node.tiled) c.inside) in
        cc (o, spanned x.low top_key key (span_low x.low high key s) under)

-- the node once its messages for the child at the place are the child's
pub record Lowered {A : Type 0} (a : Inside A) (ms : List TreeMessage) (v : Vec (Child A) A) (b : MessageList) : Type 0 where
  pub is_node : IsNode (record a { children = v; buffer = b })
  pub stays : StaysInMeaning (subtree_of a) (subtree_of (record a { children = v; buffer = b }))
  pub weight : (subtree_of (record a { children = v; buffer = b })).weight + length ms ≡ (subtree_of a).weight

-- what a row of children keeps where one of them takes these messages
record RowTakes {A : Type 0} (a : Inside A) (low high : List ℕ) (ms : List TreeMessage) (l : List (Child A)) : Type 0 where
  tiled : TiledTo top_key (parts_of l)
  first : low_or top_key (parts_of l) ≡ a.low
  level : AllByRecursion (IsBelow a.height a.shape) l
  width : length l ≡ length a.children.items
  leaves : leaves_in (parts_of l) ≡ leaves_in (parts_of a.children.items)
  messages : (key : List ℕ) (n : ℕ) → ops_in (messages_in (parts_of l)) key n ≡ or_else (cond (spans low high key) (ops_in a.buffer.messages key n) None) (ops_in (messages_in (parts_of a.children.items)) key n)
  count : length (messages_in (parts_of l)) ≡ length (messages_in (parts_of a.children.items)) + length ms
  weight : weight_in (parts_of l) + length ms ≡ weight_in (parts_of a.children.items) + a.height * length ms

row_takes : {A : Type 0} (a : Inside A) (i : ℕ) (x : Subtree) → IsNode a → slice_get a.children.items i ≡ Some (in_child.Node x) → MessagesRise a.buffer.messages → CanAccept (for_child a i x) x
    → RowTakes a x.low (high_of (parts_of a.children.items) i) (for_child a i x) (set a.children.items i (in_child.Node (accepted (for_child a i x) x)))
row_takes {A} a i x node at rise can = record {
  tiled = subst (TiledTo top_key) (sym parts) (tiled-set top_key ps i (node_part x) (node_part y) node.tiled c.inside low tile);
  first = ap (low_or top_key) parts ∙ low_or-set top_key ps i (node_part x) (node_part y) c.inside low ∙ node.first;
  level = level-set a.height a.shape a.children.items i (in_child.Node y) node.level (record { level = c.level.level; same = c.level.same });
  width = length-set a.children.items i (in_child.Node y);
  leaves = ap leaves_in parts ∙ leaves-set ps i (node_part x) (node_part y) c.inside (ap (λ (p : Part). p.leaves) (sym c.here));
  messages = λ key n. ap (λ qs. ops_in (messages_in qs) key n) parts ∙ by_test (spans x.low high key) (inside_child key n) (outside_child key n);
  count = ap (λ qs. length (messages_in qs)) parts ∙ counted;
  weight = ap (λ qs. weight_in qs + length ms) parts ∙ weighed;
}
  where
    ps : List Part
    ps = parts_of a.children.items

    high : List ℕ
    high = high_of ps i

    ms : List TreeMessage
    ms = for_child a i x

    y : Subtree
    y = accepted ms x

    c : AtChild a i x
    c = at_child a i x node at

    parts : parts_of (set a.children.items i (in_child.Node y)) ≡ set ps i (node_part y)
    parts = map-set part_of a.children.items i (in_child.Node y)

    low : (node_part y).low ≡ (get_or ps i (node_part x)).low
    low = ap (λ (p : Part). p.low) (sym c.here)

    others : AllOther ms x.buffer.messages
    others = all_new_to ms x.buffer.messages (newer_than_part ms (messages_of x) x.buffer.messages
        (λ key k s. subst IsSome (sym (ap (λ l. ops_in l key k) (append_assoc x.buffer.messages x.deeper (row_messages x.leaves)) ∙ ops-append x.buffer.messages (x.deeper ++ row_messages x.leaves) key k)) (some_left (ops_in x.buffer.messages key k) (ops_in (x.deeper ++ row_messages x.leaves) key k) s))
        can.newer)

    taken : (key : List ℕ) (n : ℕ) → ops_in (buffered y) key n ≡ or_else (ops_in ms key n) (ops_in (buffered x) key n)
    taken key n =
        ops-append (all_placed ms x.buffer.messages) x.deeper key n
        ∙ ap (λ o. or_else o (ops_in x.deeper key n)) (ops-all_placed ms x.buffer.messages key n (rests_rise x.low high [] a.buffer.messages rise).0 others)
        ∙ or_assoc (ops_in ms key n) (ops_in x.buffer.messages key n) (ops_in x.deeper key n)
        ∙ ap (or_else (ops_in ms key n)) (sym (ops-append x.buffer.messages x.deeper key n))

    in_child_ops : (key : List ℕ) (n : ℕ) (s : Bool) → spans x.low high key ≡ s → ops_in ms key n ≡ cond s (ops_in a.buffer.messages key n) None
    in_child_ops key n s e = ops-in_range x.low high a.buffer.messages key n ∙ ap (λ b. cond b (ops_in a.buffer.messages key n) None) e

    tile : IsTile (node_part y) high
    tile = record {
      fences = c.tile.fences;
      first = c.tile.first;
      ordered = c.tile.ordered;
      messages = record { outside = λ key n o. taken key n ∙ ap (λ p. or_else p (ops_in (buffered x) key n)) (in_child_ops key n false o) ∙ c.tile.messages.outside key n o };
      rows = c.tile.rows;
    }

    own : (key : List ℕ) → spans x.low high key ≡ true → spans (get_or (set ps i (node_part y)) i (node_part y)).low (end_of top_key (set ps i (node_part y)) i) key ≡ true
    own key s = rw (get_or-set_same ps i (node_part y) (node_part y) c.inside, end_of-set top_key ps i (node_part y)) s

    inside_child : (key : List ℕ) (n : ℕ) → spans x.low high key ≡ true → ops_in (messages_in (set ps i (node_part y))) key n ≡ or_else (cond (spans x.low high key) (ops_in a.buffer.messages key n) None) (ops_in (messages_in ps) key n)
    inside_child key n s =
        at_part message_taken top_key (set ps i (node_part y)) i (node_part y) key n (messages_apart top_key (set ps i (node_part y)) (tiled-set top_key ps i (node_part x) (node_part y) node.tiled c.inside low tile)) (let l = length-set ps i (node_part y) in let h = c.inside in omega arith) (own key s)
        ∙ ap (λ (p : Part). ops_in p.messages key n) (get_or-set_same ps i (node_part y) (node_part y) c.inside)
        ∙ taken key n
        ∙ ap (λ p. or_else p (ops_in (buffered x) key n)) (ops-in_range x.low high a.buffer.messages key n)
        ∙ ap (or_else (cond (spans x.low high key) (ops_in a.buffer.messages key n) None)) (sym (below_at a i x node c key n s).0)

    outside_child : (key : List ℕ) (n : ℕ) → spans x.low high key ≡ false → ops_in (messages_in (set ps i (node_part y))) key n ≡ or_else (cond (spans x.low high key) (ops_in a.buffer.messages key n) None) (ops_in (messages_in ps) key n)
    outside_child key n s =
        same_at message_taken ps i (node_part x) (node_part y) key n c.inside (taken key n ∙ ap (λ p. or_else p (ops_in (buffered x) key n)) (in_child_ops key n false s) ∙ ap (λ (p : Part). ops_in p.messages key n) (sym c.here))
        ∙ ap (λ b. or_else (cond b (ops_in a.buffer.messages key n) None) (ops_in (messages_in ps) key n)) (sym s)

    counted : length (messages_in (set ps i (node_part y))) ≡ length (messages_in ps) + length ms
    counted =
        let all = count-set ps i (node_part x) (node_part y) c.inside in
        let old = ap (λ (p : Part). length p.messages) c.here in
        omega (arith, all, old, length-append (all_placed ms x.buffer.messages) x.deeper, length-append x.buffer.messages x.deeper, length-all_placed ms x.buffer.messages)

    weighed : weight_in (set ps i (node_part y)) + length ms ≡ weight_in ps + a.height * length ms
    weighed =
        let all = sum_by-set (λ (p : Part). p.weight) ps i (node_part y) (node_part x) c.inside in
        let old = ap (λ (p : Part). p.weight) c.here in
        let level : x.height + 1 ≡ a.height = c.level.level in
        let lower : a.height * length ms ≡ x.height * length ms + length ms = ap (λ h. h * length ms) (sym level) ∙ grind arith in
        omega (arith, all, old, lower)

pub lowered : {A : Type 0} (a : Inside A) (v : Vec (Child A) A) (b : MessageList) (i : ℕ) (x : Subtree) → IsNode a → slice_get a.children.items i ≡ Some (in_child.Node x) → MessagesRise a.buffer.messages → CanAccept (for_child a i x) x
    → v.items ≡ set a.children.items i (in_child.Node (accepted (for_child a i x) x)) → b ≡ without_range x.low (high_of (parts_of a.children.items) i) a.buffer → Lowered a (for_child a i x) v b
lowered {A} a v b i x node at rise can items is = rw is (record {
  is_node = record {
    tiled = row.tiled;
    first = row.first;
    level = row.level;
    some = let w = node.some in let same = row.width in omega arith;
    block = node.block;
    from = record { outside = λ key n o. ops-out_of_range x.low high a.buffer.messages key n ∙ none_of (not (spans x.low high key)) (ops_in a.buffer.messages key n) (node.from.outside key n o) };
    sizes = subst (AreLeafSizes a.shape.leaf) (sym row.leaves) node.sizes;
    newer = record {
      above = λ key n k u l. by_test (spans x.low high key)
          (λ s. absurd (none_some _ (ops-out_of_range x.low high a.buffer.messages key n ∙ ap (λ t. cond (not t) (ops_in a.buffer.messages key n) None) s) u))
          (λ s. node.newer.above key n k
          (subst IsSome (ops-out_of_range x.low high a.buffer.messages key n ∙ ap (λ t. cond (not t) (ops_in a.buffer.messages key n) None) s) u)
          (subst IsSome (lower key k ∙ ap (λ t. or_else (cond t (ops_in a.buffer.messages key k) None) (ops_in (below_of a) key k)) s) l));
    };
  };
  stays = record {
    low = refl;
    height = refl;
    width = row.width;
    shape = refl;
    capacity = refl;
    leaves = row.leaves;
    messages = λ key n.
        ops-append (out_of_range x.low high a.buffer.messages) (messages_in (parts_of v.items)) key n
        ∙ ap (λ o. or_else o (ops_in (messages_in (parts_of v.items)) key n)) (ops-out_of_range x.low high a.buffer.messages key n)
        ∙ ap (or_else (cond (not (spans x.low high key)) (ops_in a.buffer.messages key n) None)) (row.messages key n)
        ∙ swapped (spans x.low high key) (ops_in a.buffer.messages key n) (ops_in (messages_in (parts_of a.children.items)) key n)
        ∙ sym (ops-append a.buffer.messages (messages_in (parts_of a.children.items)) key n);
    count = let c = row.count in omega (arith, c, split, length-append (out_of_range x.low high a.buffer.messages) (messages_in (parts_of v.items)), length-append a.buffer.messages (messages_in (parts_of a.children.items)));
  };
  weight = let w = row.weight in omega (arith, w, spread);
})
  where
    high : List ℕ
    high = high_of (parts_of a.children.items) i

    row : RowTakes a x.low high (for_child a i x) v.items
    row = subst (RowTakes a x.low high (for_child a i x)) (sym items) (row_takes a i x node at rise can)

    none_of : (t : Bool) (o : Option Op) → o ≡ None → cond t o None ≡ None
    none_of true o e = e
    none_of false o e = refl

    lower : (key : List ℕ) (k : ℕ) → ops_in (messages_in (parts_of v.items) ++ row_messages (leaves_in (parts_of v.items))) key k ≡ or_else (cond (spans x.low high key) (ops_in a.buffer.messages key k) None) (ops_in (below_of a) key k)
    lower key k =
        ops-append (messages_in (parts_of v.items)) (row_messages (leaves_in (parts_of v.items))) key k
        ∙ ap (λ o. or_else o (ops_in (row_messages (leaves_in (parts_of v.items))) key k)) (row.messages key k)
        ∙ ap (λ l. or_else (or_else (cond (spans x.low high key) (ops_in a.buffer.messages key k) None) (ops_in (messages_in (parts_of a.children.items)) key k)) (ops_in (row_messages l) key k)) row.leaves
        ∙ or_assoc (cond (spans x.low high key) (ops_in a.buffer.messages key k) None) (ops_in (messages_in (parts_of a.children.items)) key k) (ops_in (row_messages (leaves_in (parts_of a.children.items))) key k)
        ∙ ap (or_else (cond (spans x.low high key) (ops_in a.buffer.messages key k) None)) (sym (ops-append (messages_in (parts_of a.children.items)) (row_messages (leaves_in (parts_of a.children.items))) key k))

    split : length (in_range x.low high a.buffer.messages) + length (out_of_range x.low high a.buffer.messages) ≡ length a.buffer.messages
    split = length-filter_both (is_between x.low high) (λ m. not (is_between x.low high m)) (λ m. refl) a.buffer.messages

    spread : a.height * length a.buffer.messages ≡ a.height * length (out_of_range x.low high a.buffer.messages) + a.height * length (in_range x.low high a.buffer.messages)
    spread = ap (λ c. a.height * c) (sym split) ∙ grind arith
