-- A node with nodes in the place of one of its children.
use Rattle.std.proofs.Common.{suc, ◌≡◌, ℕ, ◌+◌, ◌<◌, ◌≤◌, true, false, List, [], ◌∷◌, ◌++◌, length, take, drop, Option, Some, None, refl, sym, ap, ◌∙◌, subst, arith, length-append, append-nil, length-drop}
use Rattle.std.specs.Prelude.{slice_get}
use Rattle.std.specs.List.{flat_map, AllByRecursion}
use Rattle.std.specs.Ordering.{is_lt}
use Rattle.std.specs.declared.vec.Vec.{Vec}
use Rattle.std.proofs.lemmas.Grind.{flat_map-append}
use Rattle.std.proofs.lemmas.List.{length-map, map-append, take-map, drop-map, drop_more, take-append-drop, length-take-le}
use Rattle.std.proofs.lemmas.List.Sums.{sum_by-append, sum_by-cons}
use Rattle.stow_leaves.proofs.StowMerge.Lists.{all_split, all_join}
use Rattle.stow_leaves.proofs.StowMessage.RisingLists.{no_path}
use Rattle.stow_tree_model.specs.Agreement.{TenantPins}
use Rattle.stow_tree_model.specs.Keys.{tenant_of}
use Rattle.stow_tree_model.specs.Messages.{ops_in}
use Rattle.stow_tree_model.specs.Op.{Op}
use Rattle.stow_tree_model.specs.Operations.{Operations, or_else, over}
use Rattle.stow_leaves.specs.StowLeaf.Intervals.{top_key, spans}
use Rattle.stow_leaves.specs.StowLeaf.LeafRows.{LeafRows, row_messages, first_fence}
use Rattle.stow_leaves.specs.StowLeaf.Replacements.{IsLeafSize, HasShortValues, MeanTheSame}
use Rattle.stow_leaves.proofs.StowLeaf.Found.{or_none, none_or}
use Rattle.stow_leaves.proofs.StowLeaf.Intervals.{lt, by_test, lt_self, beyond, span_low, span_high}
use Rattle.stow_leaves.proofs.StowLeaf.Ops.{ops-append}
use Rattle.stow_leaves.proofs.StowLeaf.Steps.{inside_of}
use Rattle.stow_node.specs.declared.child.Child.{Child}
use Rattle.stow_node.specs.declared.child.Child.TheVariants as in_child
use Rattle.stow_node.specs.declared.node.Node.TheInside.{Inside}
use Rattle.stow_node.specs.declared.shape.Shape.{Shape}
use Rattle.stow_node.specs.Flushes.{AreShort, KeepsMeaning}
use Rattle.stow_node.specs.Halves.{IsLike, AreHalves}
use Rattle.stow_node.specs.Regroups.{nodes, run_parts, run_messages, TakePlace, AreFew}
use Rattle.stow_node.specs.Nodes.{part_of, node_part, parts_of, AreLeafSizes, IsBelow, subtree_of, IsNode}
use Rattle.stow_node.specs.Parts.{Part, low_or, IsTile, TiledTo, messages_in, leaves_in, weight_in}
use Rattle.stow_node.specs.Subtree.{Subtree, buffered, messages_of}
use Rattle.stow_node.proofs.Accepted.{below_of, whole_ops}
use Rattle.stow_node.proofs.Cut.{low_or-append, tiled-left, tiled-right}
use Rattle.stow_node.proofs.Lowered.{rows_by_part, row_messages-append}
use Rattle.stow_leaves.proofs.StowLeaf.Over.{Above, or_none_left, or_none_right, nothing_short, same_pointwise, above_same, over_same, short_under}
use Rattle.stow_node.proofs.Raised.{wider, row_fences, whole_tile}
use Rattle.stow_node.proofs.Row.{Taken, message_taken, row_taken, messages_apart, rows_apart, none_before, none_from, row_out, low_at_most}
use Rattle.stow_node.proofs.Standing.{parts_ops, outside_tile, stands, narrowed}
use Rattle.stow_node.proofs.Stayed.{part_at, level_at}

-- ---- nodes in a row

pub record Spliced {A : Type 0} (a : Inside A) (v : Vec (Child A) A) (x : Subtree) (run : List Subtree) (pins : TenantPins) : Type 0 where
  pub is_node : IsNode (record a { children = v })
  pub keeps : KeepsMeaning pins (subtree_of a) (subtree_of (record a { children = v }))
  pub weight : (subtree_of (record a { children = v })).weight + x.weight ≡ (subtree_of a).weight + weight_in (run_parts run)
  -- the leaves below and above stay
  pub before : List LeafRows
  pub after : List LeafRows
  pub leaves_were : leaves_in (parts_of a.children.items) ≡ before ++ (x.leaves ++ after)
  pub leaves_are : leaves_in (parts_of v.items) ≡ before ++ (leaves_in (run_parts run) ++ after)

-- nodes in the place of a child
abbrev pub with_nodes : {A : Type 0} → List (Child A) → ℕ → List Subtree → List (Child A)
with_nodes {A} children i run = take i children ++ (nodes A run ++ drop (i + 1) children)

parts_of_nodes : (A : Type 0) (ts : List Subtree) → parts_of (nodes A ts) ≡ run_parts ts
parts_of_nodes A [] = refl
parts_of_nodes A (t ∷ ts) = ap (λ ps. node_part t ∷ ps) (parts_of_nodes A ts)

length-nodes : (A : Type 0) (ts : List Subtree) → length (nodes A ts) ≡ length ts
length-nodes A [] = refl
length-nodes A (t ∷ ts) = ap suc (length-nodes A ts)

pub new_parts : {A : Type 0} (cs : List (Child A)) (i : ℕ) (run : List Subtree) → parts_of (with_nodes cs i run) ≡ take i (parts_of cs) ++ (run_parts run ++ drop (i + 1) (parts_of cs))
new_parts {A} cs i run =
    map-append part_of (take i cs) (nodes A run ++ drop (i + 1) cs)
    ∙ (λ j. sym (take-map part_of i cs) j ++ ((map-append part_of (nodes A run) (drop (i + 1) cs)) ∙ (λ k. parts_of_nodes A run k ++ sym (drop-map part_of (i + 1) cs) k)) j)

-- ---- what stands beside and in the place

tiled-join : (high : List ℕ) (xs ys : List Part) → TiledTo (low_or high ys) xs → TiledTo high ys → TiledTo high (xs ++ ys)
tiled-join high [] ys t u = u
tiled-join high (x ∷ xs) ys t u = (subst (IsTile x) (sym (low_or-append high xs ys)) t.0, tiled-join high xs ys t.1 u)

-- what is taken of three pieces of a row
three : (f : Taken) (xs zs ys : List Part) (key : List ℕ) (n : ℕ) → ops_in (flat_map f (xs ++ (zs ++ ys))) key n ≡ or_else (ops_in (flat_map f xs) key n) (or_else (ops_in (flat_map f zs) key n) (ops_in (flat_map f ys) key n))
three f xs zs ys key n =
    ap (λ l. ops_in l key n) (flat_map-append f xs (zs ++ ys)) ∙ ops-append (flat_map f xs) (flat_map f (zs ++ ys)) key n
    ∙ ap (or_else (ops_in (flat_map f xs) key n)) (ap (λ l. ops_in l key n) (flat_map-append f zs ys) ∙ ops-append (flat_map f zs) (flat_map f ys) key n)

pub old_parts : {A : Type 0} (a : Inside A) (i : ℕ) (c : Child A) → slice_get a.children.items i ≡ Some c → parts_of a.children.items ≡ take i (parts_of a.children.items) ++ (part_of c ∷ drop (i + 1) (parts_of a.children.items))
old_parts a i c at =
    let inside : i < length (parts_of a.children.items) = omega (arith, inside_of a.children.items i c at, length-map a.children.items part_of) in
    sym (take-append-drop i (parts_of a.children.items))
    ∙ ap (λ l. take i (parts_of a.children.items) ++ l) (drop_more (parts_of a.children.items) i (part_of c) inside ∙ ap (λ p. p ∷ drop (i + 1) (parts_of a.children.items)) (part_at a.children.items i c (part_of c) at))

-- the parts below and above a child
abbrev pub before_of : {A : Type 0} → Inside A → ℕ → List Part
before_of a i = take i (parts_of a.children.items)

abbrev pub after_of : {A : Type 0} → Inside A → ℕ → List Part
after_of a i = drop (i + 1) (parts_of a.children.items)

-- a child's place among its neighbours
pub record Neighbours {A : Type 0} (a : Inside A) (i : ℕ) (x : Subtree) : Type 0 where
  pub are : parts_of a.children.items ≡ before_of a i ++ (node_part x ∷ after_of a i)
  pub left : TiledTo x.low (before_of a i)
  pub right : TiledTo top_key (after_of a i)
  pub here : IsTile (node_part x) (low_or top_key (after_of a i))
  pub below : IsBelow {A = A} a.height a.shape (in_child.Node x)
  pub to_top : lt top_key (low_or top_key (after_of a i)) ≡ false

place : {A : Type 0} (a : Inside A) (i : ℕ) (x : Subtree) → IsNode a → slice_get a.children.items i ≡ Some (in_child.Node x) → Neighbours a i x
place {A} a i x node at = record {
  are = old;
  left = tiled-left top_key xs (node_part x ∷ ys) all;
  right = (tiled-right top_key xs (node_part x ∷ ys) all).1;
  here = (tiled-right top_key xs (node_part x ∷ ys) all).0;
  below = level_at a.height a.shape a.children.items i (in_child.Node x) node.level at;
  to_top = low_at_most message_taken top_key ys (messages_apart top_key ys (tiled-right top_key xs (node_part x ∷ ys) all).1);
}
  where
    xs : List Part
    xs = take i (parts_of a.children.items)

    ys : List Part
    ys = drop (i + 1) (parts_of a.children.items)

    old : parts_of a.children.items ≡ xs ++ (node_part x ∷ ys)
    old = old_parts a i (in_child.Node x) at

    all : TiledTo top_key (xs ++ (node_part x ∷ ys))
    all = subst (TiledTo top_key) old node.tiled

-- what a row of parts has of a key
abbrev row_ops : List Part → List ℕ → Operations
row_ops ps key n = or_else (ops_in (messages_in ps) key n) (ops_in (row_messages (leaves_in ps)) key n)

pub row_ops_are : (ps : List Part) (key : List ℕ) (n : ℕ) → ops_in (messages_in ps ++ row_messages (leaves_in ps)) key n ≡ row_ops ps key n
row_ops_are ps key n = ops-append (messages_in ps) (row_messages (leaves_in ps)) key n

middle : (p q r : Option Op) → p ≡ None → r ≡ None → or_else p (or_else q r) ≡ q
middle p q r e f = none_or p (or_else q r) e ∙ or_none q r f

-- a key of the middle part has nothing beside it
only_middle : (low : List ℕ) (xs zs ys : List Part) (key : List ℕ) (n : ℕ) → TiledTo low xs → TiledTo top_key ys → spans low (low_or top_key ys) key ≡ true → row_ops (xs ++ (zs ++ ys)) key n ≡ row_ops zs key n
only_middle low xs zs ys key n left right s = λ i. or_else (of_messages i) (of_rows i) where
  of_messages : ops_in (messages_in (xs ++ (zs ++ ys))) key n ≡ ops_in (messages_in zs) key n
  of_messages = three message_taken xs zs ys key n ∙ middle (ops_in (messages_in xs) key n) (ops_in (messages_in zs) key n) (ops_in (messages_in ys) key n)
      (none_from message_taken low xs key n (messages_apart low xs left) (span_low low (low_or top_key ys) key s))
      (none_before message_taken top_key ys key n (messages_apart top_key ys right) (span_high low (low_or top_key ys) key s))

  of_rows : ops_in (row_messages (leaves_in (xs ++ (zs ++ ys)))) key n ≡ ops_in (row_messages (leaves_in zs)) key n
  of_rows =
      ap (λ l. ops_in l key n) (rows_by_part (xs ++ (zs ++ ys)))
      ∙ three row_taken xs zs ys key n
      ∙ middle (ops_in (flat_map row_taken xs) key n) (ops_in (flat_map row_taken zs) key n) (ops_in (flat_map row_taken ys) key n)
      (none_from row_taken low xs key n (rows_apart low xs left) (span_low low (low_or top_key ys) key s))
      (none_before row_taken top_key ys key n (rows_apart top_key ys right) (span_high low (low_or top_key ys) key s))
      ∙ ap (λ l. ops_in l key n) (sym (rows_by_part zs))

-- a key outside the middle part is as it is with another in its place
beside_middle : (low : List ℕ) (xs zs ws ys : List Part) (key : List ℕ) (n : ℕ) → TiledTo (low_or top_key ys) zs → low_or (low_or top_key ys) zs ≡ low → TiledTo (low_or top_key ys) ws → low_or (low_or top_key ys) ws ≡ low → spans low (low_or top_key ys) key ≡ false
    → row_ops (xs ++ (zs ++ ys)) key n ≡ row_ops (xs ++ (ws ++ ys)) key n
beside_middle low xs zs ws ys key n tz fz tw fw o = λ i. or_else (of_messages i) (of_rows i) where
  high : List ℕ
  high = low_or top_key ys

  of_messages : ops_in (messages_in (xs ++ (zs ++ ys))) key n ≡ ops_in (messages_in (xs ++ (ws ++ ys))) key n
  of_messages =
      three message_taken xs zs ys key n
      ∙ ap (λ q. or_else (ops_in (messages_in xs) key n) (or_else q (ops_in (messages_in ys) key n)))
      (row_out message_taken low high zs key n (messages_apart high zs tz) fz o ∙ sym (row_out message_taken low high ws key n (messages_apart high ws tw) fw o))
      ∙ sym (three message_taken xs ws ys key n)

  of_rows : ops_in (row_messages (leaves_in (xs ++ (zs ++ ys)))) key n ≡ ops_in (row_messages (leaves_in (xs ++ (ws ++ ys)))) key n
  of_rows =
      ap (λ l. ops_in l key n) (rows_by_part (xs ++ (zs ++ ys)))
      ∙ three row_taken xs zs ys key n
      ∙ ap (λ q. or_else (ops_in (flat_map row_taken xs) key n) (or_else q (ops_in (flat_map row_taken ys) key n)))
      (row_out row_taken low high zs key n (rows_apart high zs tz) fz o ∙ sym (row_out row_taken low high ws key n (rows_apart high ws tw) fw o))
      ∙ sym (three row_taken xs ws ys key n)
      ∙ ap (λ l. ops_in l key n) (sym (rows_by_part (xs ++ (ws ++ ys))))

one_part : (x : Subtree) (key : List ℕ) (n : ℕ) → row_ops (node_part x ∷ []) key n ≡ ops_in (messages_of x) key n
one_part x key n = (λ i. or_else (ops_in (append-nil (buffered x) i) key n) (ops_in (row_messages (append-nil x.leaves i)) key n)) ∙ sym (parts_ops x key n)

-- what a node has of a key of its child
pub at_own : {A : Type 0} (a : Inside A) (i : ℕ) (x : Subtree) (p : Neighbours a i x) (key : List ℕ) (n : ℕ) → spans x.low (low_or top_key (after_of a i)) key ≡ true → ops_in (below_of a) key n ≡ ops_in (messages_of x) key n
at_own a i x p key n s =
    row_ops_are (parts_of a.children.items) key n
    ∙ ap (λ ps. row_ops ps key n) p.are
    ∙ only_middle x.low (before_of a i) (node_part x ∷ []) (after_of a i) key n p.left p.right s
    ∙ one_part x key n

-- ---- nodes in the place of the child

pub spliced : {A : Type 0} (a : Inside A) (v : Vec (Child A) A) (i : ℕ) (x : Subtree) (run : List Subtree) (pins : TenantPins) → IsNode a → slice_get a.children.items i ≡ Some (in_child.Node x) → TakePlace pins x run → AllByRecursion (IsLike x) run → AreFew run → 1 ≤ length run
    → v.items ≡ with_nodes a.children.items i run → Spliced a v x run pins
spliced {A} a v i x run pins node at r like few filled items = record {
  is_node = is_node;
  keeps = record {
    low = refl;
    height = refl;
    shape = refl;
    capacity = refl;
    sizes = is_node.sizes;
    tile = λ h t. stands (subtree_of a) (subtree_of (record a { children = v })) top_key h refl t (whole_tile (record a { children = v }) is_node) (fences h t) (λ key. (means key).there);
    means = means;
  };
  weight = weight;
  before = leaves_in xs;
  after = leaves_in ys;
  leaves_were = leaves_were;
  leaves_are = leaves_are;
}
  where
    p : Neighbours a i x
    p = place a i x node at

    xs : List Part
    xs = before_of a i

    ys : List Part
    ys = after_of a i

    qs : List Part
    qs = run_parts run

    high : List ℕ
    high = low_or top_key ys

    inside : i < length a.children.items
    inside = inside_of a.children.items i (in_child.Node x) at

    parts : parts_of v.items ≡ xs ++ (qs ++ ys)
    parts = ap parts_of items ∙ new_parts a.children.items i run

    run_tiled : TiledTo high qs × (low_or high qs ≡ x.low)
    run_tiled = r.tiled high p.here

    count : length v.items + 1 ≡ length a.children.items + length run
    count =
        let t = length-take-le i a.children.items (omega (arith, inside)) in
        let d = length-drop (i + 1) a.children.items in
        let l = ap length items ∙ length-append (take i a.children.items) (nodes A run ++ drop (i + 1) a.children.items) in
        let m = length-append (nodes A run) (drop (i + 1) a.children.items) in
        let k = length-nodes A run in
        omega (arith, t, d, l, m, k, inside)

    begins : low_or top_key (qs ++ ys) ≡ x.low
    begins = low_or-append top_key qs ys ∙ run_tiled.1

    level : AllByRecursion (IsBelow {A = A} a.height a.shape) (with_nodes a.children.items i run)
    level =
        let front = subst (AllByRecursion (IsBelow {A = A} a.height a.shape)) (sym (take-append-drop i a.children.items)) node.level in
        let sides = all_split (IsBelow {A = A} a.height a.shape) (take i a.children.items) (drop i a.children.items) front in
        let behind = subst (AllByRecursion (IsBelow {A = A} a.height a.shape)) (drop_more a.children.items i (in_child.Node x) inside) sides.1 in
        all_join (IsBelow {A = A} a.height a.shape) (take i a.children.items) (nodes A run ++ drop (i + 1) a.children.items) sides.0
        (all_join (IsBelow {A = A} a.height a.shape) (nodes A run) (drop (i + 1) a.children.items) (each run like few) behind.1)
      where
        each : (ts : List Subtree) → AllByRecursion (IsLike x) ts → AreFew ts → AllByRecursion (IsBelow {A = A} a.height a.shape) (nodes A ts)
        each [] h f = tt
        each (t ∷ ts) h f = (
          record {
            level = ap (λ k. k + 1) h.0.height ∙ p.below.level;
            same = (h.0.shape ∙ p.below.same.0, h.0.block, let e = h.0.height in let l = p.below.same.2 in omega (arith, e, l), subst (λ (s : Shape). t.width ≤ s.fan_out) (h.0.shape ∙ p.below.same.0) f.0);
          },
          each ts h.1 f.1,
        )

    leaves_are : leaves_in (parts_of v.items) ≡ leaves_in xs ++ (leaves_in qs ++ leaves_in ys)
    leaves_are = ap leaves_in parts ∙ flat_map-append (λ (q : Part). q.leaves) xs (qs ++ ys) ∙ ap (λ l. leaves_in xs ++ l) (flat_map-append (λ (q : Part). q.leaves) qs ys)

    leaves_were : leaves_in (parts_of a.children.items) ≡ leaves_in xs ++ (x.leaves ++ leaves_in ys)
    leaves_were = ap leaves_in p.are ∙ flat_map-append (λ (q : Part). q.leaves) xs (node_part x ∷ ys)

    sizes : AreLeafSizes a.shape.leaf (leaves_in (parts_of v.items))
    sizes =
        let P : LeafRows → Type 0 = λ l. IsLeafSize a.shape.leaf l.1 in
        let all = all_split P (leaves_in xs) (x.leaves ++ leaves_in ys) (subst (AllByRecursion P) leaves_were node.sizes) in
        let rest = all_split P x.leaves (leaves_in ys) all.1 in
        let own : AllByRecursion P (leaves_in qs) = subst (λ (s : Shape). AreLeafSizes s.leaf (leaves_in qs)) p.below.same.0 r.sizes in
        subst (AllByRecursion P) (sym leaves_are) (all_join P (leaves_in xs) (leaves_in qs ++ leaves_in ys) all.0 (all_join P (leaves_in qs) (leaves_in ys) own rest.1))

    below_new : (key : List ℕ) (n : ℕ) → ops_in (below_of (record a { children = v })) key n ≡ row_ops (xs ++ (qs ++ ys)) key n
    below_new key n = row_ops_are (parts_of v.items) key n ∙ ap (λ ps. row_ops ps key n) parts

    below_old : (key : List ℕ) (n : ℕ) → ops_in (below_of a) key n ≡ row_ops (xs ++ ((node_part x ∷ []) ++ ys)) key n
    below_old key n = row_ops_are (parts_of a.children.items) key n ∙ ap (λ ps. row_ops ps key n) p.are

    below_means : (key : List ℕ) → MeanTheSame (pins (tenant_of key)) (ops_in (below_of a) key) (ops_in (below_of (record a { children = v })) key)
    below_means key = by_test (spans x.low high key)
        (λ s. subst (λ f. MeanTheSame (pins (tenant_of key)) f (ops_in (below_of (record a { children = v })) key)) (λ j n. sym (at_own a i x p key n s) j)
        (subst (MeanTheSame (pins (tenant_of key)) (ops_in (messages_of x) key))
        (λ j n. sym (below_new key n ∙ only_middle x.low xs qs ys key n p.left p.right s ∙ sym (row_ops_are qs key n)) j) (r.means key)))
        (λ s. same_pointwise (pins (tenant_of key)) (ops_in (below_of a) key) (ops_in (below_of (record a { children = v })) key)
        (λ n. below_new key n ∙ beside_middle x.low xs qs (node_part x ∷ []) ys key n run_tiled.0 run_tiled.1 (p.here, tt) refl s ∙ sym (below_old key n)))

    means : (key : List ℕ) → MeanTheSame (pins (tenant_of key)) (ops_in (messages_of (subtree_of a)) key) (ops_in (messages_of (subtree_of (record a { children = v }))) key)
    means key =
        subst (λ f. MeanTheSame (pins (tenant_of key)) f (ops_in (messages_of (subtree_of (record a { children = v }))) key)) (λ j n. sym (whole_ops a key n) j)
        (subst (MeanTheSame (pins (tenant_of key)) (over (ops_in a.buffer.messages key) (ops_in (below_of a) key))) (λ j n. sym (whole_ops (record a { children = v }) key n) j)
        (over_same (pins (tenant_of key)) (ops_in a.buffer.messages key) (ops_in (below_of a) key) (ops_in (below_of (record a { children = v })) key) (node.newer.above key) (below_means key)))

    is_node : IsNode (record a { children = v })
    is_node = record {
      tiled = subst (TiledTo top_key) (sym parts) (tiled-join top_key xs (qs ++ ys) (subst (λ low. TiledTo low xs) (sym begins) p.left) (tiled-join top_key qs ys run_tiled.0 p.right));
      first = ap (low_or top_key) parts ∙ low_or-append top_key xs (qs ++ ys) ∙ ap (λ low. low_or low xs) begins ∙ sym (low_or-append top_key xs (node_part x ∷ ys)) ∙ ap (low_or top_key) (sym p.are) ∙ node.first;
      level = subst (AllByRecursion (IsBelow {A = A} a.height a.shape)) (sym items) level;
      some = omega (arith, count, filled, inside);
      block = node.block;
      from = node.from;
      newer = record { above = λ key n k u l. above_same (pins (tenant_of key)) (ops_in a.buffer.messages key) (ops_in (below_of a) key) (ops_in (below_of (record a { children = v })) key) (node.newer.above key) (below_means key) n k u l };
      sizes = sizes;
    }

    fences : (h : List ℕ) → IsTile (node_part (subtree_of a)) h → AllByRecursion (λ (l : LeafRows). spans a.low h l.0 ≡ true) (leaves_in (parts_of v.items))
    fences h t =
        let P : LeafRows → Type 0 = λ l. spans a.low h l.0 ≡ true in
        let all = all_split P (leaves_in xs) (x.leaves ++ leaves_in ys) (subst (AllByRecursion P) leaves_were t.fences) in
        let rest = all_split P x.leaves (leaves_in ys) all.1 in
        let own : IsTile (node_part x) h = narrowed (node_part x) high h p.here (highs x.leaves rest.0)
        (λ key n l. no_messages key n (outside_tile (subtree_of a) h key n t (beyond a.low h key l)))
        (λ key n l. no_rows key n (outside_tile (subtree_of a) h key n t (beyond a.low h key l))) in
        let new = r.tiled h own in
        let low_is : lt x.low a.low ≡ false = first_low x.leaves p.here.first rest.0 in
        let mid : AllByRecursion P (leaves_in qs) = wider (low_or h qs) h a.low h (leaves_in qs) (ap (λ low. lt low a.low) new.1 ∙ low_is) (lt_self h) (row_fences h qs new.0) in
        subst (AllByRecursion P) (sym leaves_are) (all_join P (leaves_in xs) (leaves_in qs ++ leaves_in ys) all.0 (all_join P (leaves_in qs) (leaves_in ys) mid rest.1))
      where
        highs : (ls : List LeafRows) → AllByRecursion (λ (l : LeafRows). spans a.low h l.0 ≡ true) ls → AllByRecursion (λ (l : LeafRows). lt l.0 h ≡ true) ls
        highs [] g = tt
        highs (l ∷ ls) g = (span_high a.low h l.0 g.0, highs ls g.1)

        first_low : (ls : List LeafRows) → first_fence high ls ≡ x.low → AllByRecursion (λ (l : LeafRows). spans a.low h l.0 ≡ true) ls → lt x.low a.low ≡ false
        first_low [] e g = absurd (no_path (sym (lt_self x.low) ∙ ap (lt x.low) (sym e) ∙ ap is_lt p.here.ordered))
        first_low (l ∷ ls) e g = ap (λ k. lt k a.low) (sym e) ∙ span_low a.low h l.0 g.0

        part_none : (q r s : Option Op) → or_else q (or_else r s) ≡ None → r ≡ None
        part_none (Some q) r s e = absurd cc
        part_none None None s e = refl
        part_none None (Some r) s e = absurd cc

        -- what the node hasn't, its child hasn't
        no_messages : (key : List ℕ) (n : ℕ) → ops_in (messages_of (subtree_of a)) key n ≡ None → ops_in (buffered x) key n ≡ None
        no_messages key n e =
            part_none (ops_in (messages_in xs) key n) (ops_in (buffered x) key n) (ops_in (messages_in ys) key n)
            (ap (λ l. or_else (ops_in (messages_in xs) key n) (or_else (ops_in l key n) (ops_in (messages_in ys) key n))) (sym (append-nil (buffered x)))
            ∙ sym (three message_taken xs (node_part x ∷ []) ys key n) ∙ ap (λ ps. ops_in (messages_in ps) key n) (sym p.are)
            ∙ or_none_left (ops_in (messages_in (parts_of a.children.items)) key n) (ops_in (row_messages (leaves_in (parts_of a.children.items))) key n)
            (sym (row_ops_are (parts_of a.children.items) key n) ∙ or_none_right (ops_in a.buffer.messages key n) (ops_in (below_of a) key n) (sym (whole_ops a key n) ∙ e)))

        no_rows : (key : List ℕ) (n : ℕ) → ops_in (messages_of (subtree_of a)) key n ≡ None → ops_in (row_messages x.leaves) key n ≡ None
        no_rows key n e =
            part_none (ops_in (flat_map row_taken xs) key n) (ops_in (row_messages x.leaves) key n) (ops_in (flat_map row_taken ys) key n)
            (ap (λ l. or_else (ops_in (flat_map row_taken xs) key n) (or_else (ops_in l key n) (ops_in (flat_map row_taken ys) key n))) (sym (append-nil (row_messages x.leaves)))
            ∙ sym (three row_taken xs (node_part x ∷ []) ys key n) ∙ ap (λ l. ops_in l key n) (sym (rows_by_part (xs ++ (node_part x ∷ ys)))) ∙ ap (λ ps. ops_in (row_messages (leaves_in ps)) key n) (sym p.are)
            ∙ or_none_right (ops_in (messages_in (parts_of a.children.items)) key n) (ops_in (row_messages (leaves_in (parts_of a.children.items))) key n)
            (sym (row_ops_are (parts_of a.children.items) key n) ∙ or_none_right (ops_in a.buffer.messages key n) (ops_in (below_of a) key n) (sym (whole_ops a key n) ∙ e)))

    weight : (subtree_of (record a { children = v })).weight + x.weight ≡ (subtree_of a).weight + weight_in (run_parts run)
    weight =
        let after = ap weight_in parts ∙ sum_by-append (λ (q : Part). q.weight) xs (qs ++ ys) in
        let after_rest = sum_by-append (λ (q : Part). q.weight) qs ys in
        let before = ap weight_in p.are ∙ sum_by-append (λ (q : Part). q.weight) xs (node_part x ∷ ys) in
        let before_rest = sum_by-cons (λ (q : Part). q.weight) (node_part x) ys in
        omega (arith, after, after_rest, before, before_rest)

-- a child has short values where its node has
pub child_short : {A : Type 0} (a : Inside A) (i : ℕ) (x : Subtree) → IsNode a → slice_get a.children.items i ≡ Some (in_child.Node x) → AreShort (messages_of (subtree_of a)) → AreShort (messages_of x)
child_short a i x node at short key = by_test (spans x.low (low_or top_key (after_of a i)) key)
    (λ s. short_under (ops_in a.buffer.messages key) (ops_in (messages_of x) key) (subst (Above (ops_in a.buffer.messages key)) (own key s) (node.newer.above key))
    (subst HasShortValues (λ j n. (whole_ops a key n ∙ ap (or_else (ops_in a.buffer.messages key n)) (at_own a i x p key n s)) j) (short key)))
    (λ o. nothing_short (ops_in (messages_of x) key) (λ n. outside_tile x (low_or top_key (after_of a i)) key n p.here o))
  where
    p : Neighbours a i x
    p = place a i x node at

    own : (key : List ℕ) → spans x.low (low_or top_key (after_of a i)) key ≡ true → ops_in (below_of a) key ≡ ops_in (messages_of x) key
    own key s = λ j n. at_own a i x p key n s j

-- ---- one node in the place

pub one_takes_place : (pins : TenantPins) (x y : Subtree) → KeepsMeaning pins x y → TakePlace pins x (y ∷ [])
one_takes_place pins x y k = record {
  tiled = λ high t. ((k.tile high t, tt), k.low);
  sizes = subst (λ (s : Shape). AreLeafSizes s.leaf (leaves_in (run_parts (y ∷ [])))) k.shape (subst (AreLeafSizes y.shape.leaf) (sym (append-nil y.leaves)) k.sizes);
  means = λ key. subst (MeanTheSame (pins (tenant_of key)) (ops_in (messages_of x) key)) (λ j n. sym (row_ops_are (run_parts (y ∷ [])) key n ∙ one_part y key n) j) (k.means key);
}

-- ---- the halves of a node in its place

pub halves_take_place : (pins : TenantPins) (x lower upper : Subtree) → AreLeafSizes x.shape.leaf x.leaves → AreHalves x lower upper → TakePlace pins x (lower ∷ upper ∷ [])
halves_take_place pins x lower upper sizes h = record {
  tiled = λ high t. ((h.below, (upper_tile high t, tt)), h.low);
  sizes = subst (AreLeafSizes x.shape.leaf) (h.leaves ∙ ap (λ l. lower.leaves ++ l) (sym (append-nil upper.leaves))) sizes;
  means = λ key. same_pointwise (pins (tenant_of key)) (ops_in (messages_of x) key) (ops_in (run_messages (lower ∷ upper ∷ [])) key) (λ n. same key n);
}
  where
    buffers : (key : List ℕ) (n : ℕ) → ops_in (messages_in (run_parts (lower ∷ upper ∷ []))) key n ≡ ops_in (buffered x) key n
    buffers key n =
        ops-append (buffered lower) (buffered upper ++ []) key n
        ∙ ap (λ l. or_else (ops_in (buffered lower) key n) (ops_in l key n)) (append-nil (buffered upper))
        ∙ sym (h.messages key n)

    rows_are : (key : List ℕ) (n : ℕ) → ops_in (row_messages x.leaves) key n ≡ or_else (ops_in (row_messages lower.leaves) key n) (ops_in (row_messages upper.leaves) key n)
    rows_are key n = ap (λ l. ops_in (row_messages l) key n) h.leaves ∙ ap (λ l. ops_in l key n) (row_messages-append lower.leaves upper.leaves) ∙ ops-append (row_messages lower.leaves) (row_messages upper.leaves) key n

    same : (key : List ℕ) (n : ℕ) → ops_in (run_messages (lower ∷ upper ∷ [])) key n ≡ ops_in (messages_of x) key n
    same key n =
        row_ops_are (run_parts (lower ∷ upper ∷ [])) key n
        ∙ (λ j. or_else (buffers key n j) (ops_in (row_messages ((ap (λ l. lower.leaves ++ l) (append-nil upper.leaves) ∙ sym h.leaves) j)) key n))
        ∙ sym (parts_ops x key n)

    none_of : (q r : Option Op) → or_else q r ≡ None → r ≡ None
    none_of None r e = e
    none_of (Some q) r e = absurd cc

    upper_tile : (high : List ℕ) → IsTile (node_part x) high → IsTile (node_part upper) high
    upper_tile high t = narrowed (node_part upper) top_key high h.above
        (highs upper.leaves (all_split (λ (l : LeafRows). spans x.low high l.0 ≡ true) lower.leaves upper.leaves (subst (AllByRecursion (λ (l : LeafRows). spans x.low high l.0 ≡ true)) h.leaves t.fences)).1)
        (λ key n l. none_of (ops_in (buffered lower) key n) (ops_in (buffered upper) key n) (sym (h.messages key n) ∙ t.messages.outside key n (beyond x.low high key l)))
        (λ key n l. none_of (ops_in (row_messages lower.leaves) key n) (ops_in (row_messages upper.leaves) key n) (sym (rows_are key n) ∙ t.rows.outside key n (beyond x.low high key l)))
      where
        highs : (ls : List LeafRows) → AllByRecursion (λ (l : LeafRows). spans x.low high l.0 ≡ true) ls → AllByRecursion (λ (l : LeafRows). lt l.0 high ≡ true) ls
        highs [] g = tt
        highs (l ∷ ls) g = (span_high x.low high l.0 g.0, highs ls g.1)
