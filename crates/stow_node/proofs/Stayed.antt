-- A node with a child in the place of one that means the same.
use Rattle.std.proofs.Common.{zero, suc, ◌≡◌, ℕ, ◌+◌, ◌<◌, List, [], ◌∷◌, ◌++◌, length, get_or, set, Option, Some, refl, sym, ap, ◌∙◌, subst, arith, length-append}
use Rattle.std.specs.Prelude.{slice_get, IsSome}
use Rattle.std.specs.List.{AllByRecursion}
use Rattle.std.specs.declared.vec.Vec.{Vec}
use Rattle.std.proofs.lemmas.List.{map-set, length-map, length-set, get_or-map}
use Rattle.std.proofs.lemmas.List.Sums.{sum_by-set}
use Rattle.std.proofs.lemmas.Option.{get_or_from_slice_get}
use Rattle.stow_tree_model.specs.Op.{Op}
use Rattle.stow_tree_model.specs.Operations.{or_else}
use Rattle.stow_tree_model.specs.Messages.{ops_in}
use Rattle.stow_node.specs.declared.child.Child.{Child}
use Rattle.stow_node.specs.declared.child.Child.TheVariants as in_child
use Rattle.stow_node.specs.declared.node.Node.TheInside.{Inside}
use Rattle.stow_node.specs.declared.shape.Shape.{Shape}
use Rattle.stow_node.specs.Subtree.{Subtree}
use Rattle.stow_leaves.specs.StowLeaf.LeafRows.{LeafRows, row_messages}
use Rattle.stow_node.specs.Parts.{Part, low_or, high_of, IsTile, TiledTo, messages_in, leaves_in, weight_in}
use Rattle.stow_leaves.specs.StowLeaf.Intervals.{top_key}
use Rattle.stow_node.specs.Nodes.{part_of, node_part, parts_of, IsBelow, subtree_of, IsNode, AreLeafSizes}
use Rattle.stow_node.specs.Moves.{StaysInMeaning}
use Rattle.stow_leaves.proofs.StowLeaf.Ops.{ops-append}
use Rattle.stow_leaves.proofs.StowLeaf.Steps.{inside_of}
use Rattle.stow_node.proofs.Reallocated.{StaysLike}
use Rattle.stow_node.proofs.Row.{message_taken, same_at, low_or-set, tiled-set, tile_at}

-- the part at the place is the child's
pub part_at : {A : Type 0} (cs : List (Child A)) (i : ℕ) (c : Child A) (d : Part) → slice_get cs i ≡ Some c → get_or (parts_of cs) i d ≡ part_of c
part_at cs i c d e = get_or-map part_of cs i c d (inside_of cs i c e) ∙ ap part_of (get_or_from_slice_get cs i c c e)

pub leaves-set : (ps : List Part) (i : ℕ) (d p : Part) → i < length ps → p.leaves ≡ (get_or ps i d).leaves → leaves_in (set ps i p) ≡ leaves_in ps
leaves-set [] i d p h e = absurd (omega arith)
leaves-set (q ∷ ps) zero d p h e = ap (λ (l : List LeafRows). l ++ leaves_in ps) e
leaves-set (q ∷ ps) (suc i) d p h e = ap (λ (l : List LeafRows). q.leaves ++ l) (leaves-set ps i d p (omega arith) e)

pub count-set : (ps : List Part) (i : ℕ) (d p : Part) → i < length ps → length (messages_in (set ps i p)) + length (get_or ps i d).messages ≡ length (messages_in ps) + length p.messages
count-set [] i d p h = absurd (omega arith)
count-set (q ∷ ps) zero d p h = omega (arith, length-append p.messages (messages_in ps), length-append q.messages (messages_in ps))
count-set (q ∷ ps) (suc i) d p h = omega (arith, count-set ps i d p (omega arith), length-append q.messages (messages_in (set ps i p)), length-append q.messages (messages_in ps))

pub level-set : {A : Type 0} (height : ℕ) (shape : Shape) (cs : List (Child A)) (i : ℕ) (c : Child A) → AllByRecursion (IsBelow height shape) cs → IsBelow height shape c → AllByRecursion (IsBelow height shape) (set cs i c)
level-set height shape [] i c all b = tt
level-set height shape (d ∷ cs) zero c all b = (b, all.1)
level-set height shape (d ∷ cs) (suc i) c all b = (all.0, level-set height shape cs i c all.1 b)

pub level_at : {A : Type 0} (height : ℕ) (shape : Shape) (cs : List (Child A)) (i : ℕ) (c : Child A) → AllByRecursion (IsBelow height shape) cs → slice_get cs i ≡ Some c → IsBelow height shape c
level_at height shape [] i c all e = absurd cc
level_at height shape (d ∷ cs) zero c all e = subst (IsBelow height shape) (some_is d c e) all.0 where
  some_is : {X : Type 0} (x y : X) → ◌≡◌ {A = Option X} (Some x) (Some y) → x ≡ y
  some_is x y e = cc
level_at height shape (d ∷ cs) (suc i) c all e = level_at height shape cs i c all.1 e

-- a child that means the same is a tile where the other was one
pub same_tile : (x y : Subtree) (high : List ℕ) → StaysLike x y → IsTile (node_part x) high → IsTile (node_part y) high
same_tile x y high s t = record {
  fences = rw (s.leaves, s.low) t.fences;
  first = rw (s.leaves, s.low) t.first;
  ordered = rw s.low t.ordered;
  messages = record { outside = λ key n o. s.messages key n ∙ t.messages.outside key n (rw (← s.low) o) };
  rows = record { outside = λ key n o. rw s.leaves (t.rows.outside key n (rw (← s.low) o)) };
}

-- what a row of children keeps, by the messages in their buffers, one child standing in the place of another
pub record RowStays {A : Type 0} (a : Inside A) (x y : Subtree) (l : List (Child A)) : Type 0 where
  pub tiled : TiledTo top_key (parts_of l)
  pub first : low_or top_key (parts_of l) ≡ a.low
  pub level : AllByRecursion (IsBelow a.height a.shape) l
  pub width : length l ≡ length a.children.items
  pub leaves : leaves_in (parts_of l) ≡ leaves_in (parts_of a.children.items)
  pub messages : (key : List ℕ) (n : ℕ) → ops_in (messages_in (parts_of l)) key n ≡ ops_in (messages_in (parts_of a.children.items)) key n
  pub count : length (messages_in (parts_of l)) ≡ length (messages_in (parts_of a.children.items))
  pub weight : weight_in (parts_of l) + x.weight ≡ weight_in (parts_of a.children.items) + y.weight

row_stays : {A : Type 0} (a : Inside A) (i : ℕ) (x y : Subtree) → IsNode a → slice_get a.children.items i ≡ Some (in_child.Node x) → StaysLike x y → RowStays a x y (set a.children.items i (in_child.Node y))
row_stays {A} a i x y node at s = record {
  tiled = subst (TiledTo top_key) (sym parts) (tiled-set top_key ps i (node_part x) (node_part y) node.tiled inside low (same_tile x y (high_of ps i) s tile));
  first = ap (low_or top_key) parts ∙ low_or-set top_key ps i (node_part x) (node_part y) inside low ∙ node.first;
  level = level-set a.height a.shape a.children.items i (in_child.Node y) node.level below;
  width = length-set a.children.items i (in_child.Node y);
  leaves = ap leaves_in parts ∙ leaves-set ps i (node_part x) (node_part y) inside (s.leaves ∙ ap (λ (p : Part). p.leaves) (sym here));
  messages = λ key n. ap (λ qs. ops_in (messages_in qs) key n) parts ∙ same_at message_taken ps i (node_part x) (node_part y) key n inside (s.messages key n ∙ ap (λ (p : Part). ops_in p.messages key n) (sym here));
  count = ap (λ qs. length (messages_in qs)) parts ∙ counted;
  weight = ap (λ qs. weight_in qs + x.weight) parts ∙ ap (λ w. weight_in (set ps i (node_part y)) + w) (ap (λ (p : Part). p.weight) (sym here)) ∙ sum_by-set (λ (p : Part). p.weight) ps i (node_part y) (node_part x) inside;
}
  where
    ps : List Part
    ps = parts_of a.children.items

    inside : i < length ps
    inside = omega (arith, inside_of a.children.items i (in_child.Node x) at, length-map a.children.items part_of)

    here : get_or ps i (node_part x) ≡ node_part x
    here = part_at a.children.items i (in_child.Node x) (node_part x) at

    parts : parts_of (set a.children.items i (in_child.Node y)) ≡ set ps i (node_part y)
    parts = map-set part_of a.children.items i (in_child.Node y)

    low : y.low ≡ (get_or ps i (node_part x)).low
    low = s.low ∙ ap (λ (p : Part). p.low) (sym here)

    tile : IsTile (node_part x) (high_of ps i)
    tile = subst (λ p. IsTile p (high_of ps i)) here (tile_at top_key ps i (node_part x) node.tiled inside)

    old : IsBelow {A = A} a.height a.shape (in_child.Node x)
    old = level_at a.height a.shape a.children.items i (in_child.Node x) node.level at

    below : IsBelow {A = A} a.height a.shape (in_child.Node y)
    below = record { level = ap (λ h. h + 1) s.height ∙ old.level; same = (s.shape ∙ old.same.0, s.block old.same.1, let h = s.height in let l = old.same.2 in omega (arith, h, l), let w = s.width in let f = old.same.3 in omega (arith, w, f)) }

    counted : length (messages_in (set ps i (node_part y))) ≡ length (messages_in ps)
    counted = let c = count-set ps i (node_part x) (node_part y) inside in let e = ap (λ (p : Part). length p.messages) here in let f = s.count in omega arith

-- the node with the other child
pub record ChildStays {A : Type 0} (a : Inside A) (x y : Subtree) (v : Vec (Child A) A) : Type 0 where
  pub is_node : IsNode (record a { children = v })
  pub stays : StaysInMeaning (subtree_of a) (subtree_of (record a { children = v }))
  pub weight : (subtree_of (record a { children = v })).weight + x.weight ≡ (subtree_of a).weight + y.weight

pub child_stays : {A : Type 0} (a : Inside A) (v : Vec (Child A) A) (i : ℕ) (x y : Subtree) → IsNode a → slice_get a.children.items i ≡ Some (in_child.Node x) → v.items ≡ set a.children.items i (in_child.Node y) → StaysLike x y → ChildStays a x y v
child_stays {A} a v i x y node at e s = record {
  is_node = record {
    tiled = row.tiled;
    first = row.first;
    level = row.level;
    some = let w = node.some in let same = row.width in omega arith;
    block = node.block;
    from = node.from;
    sizes = subst (AreLeafSizes a.shape.leaf) (sym row.leaves) node.sizes;
    newer = record { above = λ key n k u l. node.newer.above key n k u (subst IsSome (lower key k) l) };
  };
  stays = record {
    low = refl;
    height = refl;
    width = row.width;
    shape = refl;
    capacity = refl;
    leaves = row.leaves;
    messages = λ key n.
        ops-append a.buffer.messages (messages_in (parts_of v.items)) key n
        ∙ ap (or_else (ops_in a.buffer.messages key n)) (row.messages key n)
        ∙ sym (ops-append a.buffer.messages (messages_in (parts_of a.children.items)) key n);
    count = omega (arith, length-append a.buffer.messages (messages_in (parts_of v.items)), length-append a.buffer.messages (messages_in (parts_of a.children.items)), row.count);
  };
  weight = let w = row.weight in omega (arith, w);
}
  where
    row : RowStays a x y v.items
    row = subst (RowStays a x y) (sym e) (row_stays a i x y node at s)

    lower : (key : List ℕ) (k : ℕ) → ops_in (messages_in (parts_of v.items) ++ row_messages (leaves_in (parts_of v.items))) key k ≡ ops_in (messages_in (parts_of a.children.items) ++ row_messages (leaves_in (parts_of a.children.items))) key k
    lower key k =
        ops-append (messages_in (parts_of v.items)) (row_messages (leaves_in (parts_of v.items))) key k
        ∙ ap (λ (o : Option Op). or_else o (ops_in (row_messages (leaves_in (parts_of v.items))) key k)) (row.messages key k)
        ∙ ap (λ l. or_else (ops_in (messages_in (parts_of a.children.items)) key k) (ops_in (row_messages l) key k)) row.leaves
        ∙ sym (ops-append (messages_in (parts_of a.children.items)) (row_messages (leaves_in (parts_of a.children.items))) key k)
