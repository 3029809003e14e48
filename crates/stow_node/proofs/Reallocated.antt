-- A node with another block for its messages, or with none.
use Rattle.std.proofs.Common.{zero, suc, ◌≡◌, ℕ, ◌+◌, ◌*◌, ◌<◌, ◌≤◌, List, [], ◌∷◌, ◌++◌, length, set, get_or, refl, sym, ap, ◌∙◌, subst, arith, ⊎_elim, inl, inr}
use Rattle.std.specs.List.{AllByRecursion, sum_by}
use Rattle.std.specs.Vec.{with_items}
use Rattle.std.specs.declared.vec.Vec.{Vec}
use Rattle.std.proofs.lemmas.List.{with_items_is}
use Rattle.std.proofs.lemmas.List.Sums.{sum_by-cons}
use Rattle.stow_leaves.specs.StowLeaf.Intervals.{top_key}
use Rattle.stow_leaves.specs.StowLeaf.LeafRows.{row_messages}
use Rattle.stow_leaves.specs.StowMessage.MessageBuf.{MessageList, message_list}
use Rattle.stow_leaves.specs.StowMessage.Packed.{message_size}
use Rattle.stow_leaves.specs.StowMessage.Rising.{in_range}
use Rattle.stow_tree_model.specs.Messages.{ops_in}
use Rattle.stow_tree_model.specs.TreeMessage.{TreeMessage}
use Rattle.stow_node.specs.declared.child.Child.{Child}
use Rattle.stow_node.specs.declared.child.Child.TheVariants as in_child
use Rattle.stow_node.specs.declared.node.Node.TheInside.{Inside}
use Rattle.stow_node.specs.declared.shape.Shape.{Shape}
use Rattle.stow_node.specs.Moves.{IsReallocated, IsReallocatedChild, AreReallocated, StaysInMeaning}
use Rattle.stow_node.specs.Nodes.{HasBlock, HasNodeBlock, IsBelow, IsNode, AreLeafSizes, AreNewer, deepest_in, deepest_of, nearest_in, nearest_of, node_part, part_of, parts_of, subtree_of}
use Rattle.stow_node.specs.Parts.{TiledTo, low_or, messages_in, leaves_in, weight_in}
use Rattle.stow_node.specs.Subtree.{Subtree, buffered, deepest_buffer, lower_height, right_above_leaves}

-- ---- the block

-- no block is larger than the node size
pub block_most : (size : ℕ) (b : MessageList) → HasBlock size b → b.capacity ≤ size
block_most size b h = ⊎_elim (λ (e : b.capacity ≡ size). omega (arith, e)) (λ (e : b.capacity ≡ 0). omega (arith, e)) h

-- what holds a message has a block
pub block_whole : (size : ℕ) (b : MessageList) → HasBlock size b → 0 < length b.messages → sum_by message_size b.messages ≤ b.capacity → b.capacity ≡ size
block_whole size b h some live = ⊎_elim (λ (e : b.capacity ≡ size). e) (λ (e : b.capacity ≡ 0). absurd (some_size b.messages some (omega (arith, e, live)))) h where
  some_size : (ms : List TreeMessage) → 0 < length ms → sum_by message_size ms ≤ 0 → ⊥
  some_size [] s l = absurd (omega (arith, s))
  some_size (m ∷ ms) s l = absurd (omega (arith, l, sum_by-cons message_size m ms))

-- what has no block holds no message
pub none_without : (ms : List TreeMessage) → sum_by message_size ms ≤ 0 → length ms ≡ 0
none_without [] l = refl
none_without (m ∷ ms) l = absurd (omega (arith, l, sum_by-cons message_size m ms))

-- a block of the same size is one of the node size or none where the other is
pub block_kept : (x y : Subtree) → y.shape ≡ x.shape → y.buffer.capacity ≡ x.buffer.capacity → HasNodeBlock x → HasNodeBlock y
block_kept x y shape capacity h = ⊎_elim
    (λ (e : x.buffer.capacity ≡ x.shape.buffer). inl (capacity ∙ e ∙ sym (ap (λ (s : Shape). s.buffer) shape)))
    (λ (e : x.buffer.capacity ≡ 0). inr (capacity ∙ e))
    h

-- ---- what stays

-- all that a node means stays, whatever block it has
pub record StaysLike (old new : Subtree) : Type 0 where
  pub low : new.low ≡ old.low
  pub height : new.height ≡ old.height
  pub width : new.width ≡ old.width
  pub shape : new.shape ≡ old.shape
  pub block : HasNodeBlock old → HasNodeBlock new
  pub leaves : new.leaves ≡ old.leaves
  pub messages : (key : List ℕ) (n : ℕ) → ops_in (buffered new) key n ≡ ops_in (buffered old) key n
  pub count : length (buffered new) ≡ length (buffered old)

pub stays_like : {x y : Subtree} → StaysInMeaning x y → StaysLike x y
stays_like {x} {y} s = record {
  low = s.low;
  height = s.height;
  width = s.width;
  shape = s.shape;
  block = block_kept x y s.shape s.capacity;
  leaves = s.leaves;
  messages = s.messages;
  count = s.count;
}

pub like_itself : (x : Subtree) → StaysLike x x
like_itself x = record { low = refl; height = refl; width = refl; shape = refl; block = λ h. h; leaves = refl; messages = λ key n. refl; count = refl }

pub like_then : {x y z : Subtree} → StaysLike x y → StaysLike y z → StaysLike x z
like_then s t = record {
  low = t.low ∙ s.low;
  height = t.height ∙ s.height;
  width = t.width ∙ s.width;
  shape = t.shape ∙ s.shape;
  block = λ h. t.block (s.block h);
  leaves = t.leaves ∙ s.leaves;
  messages = λ key n. t.messages key n ∙ s.messages key n;
  count = t.count ∙ s.count;
}

-- another block leaves what a node means
pub reallocated_same : (x y : Subtree) → IsReallocated x y → StaysLike x y × (y.weight ≡ x.weight) × (y.buffer.messages ≡ x.buffer.messages)
reallocated_same x y r = (
  record {
    low = ap (λ (t : Subtree). t.low) r.is;
    height = ap (λ (t : Subtree). t.height) r.is;
    width = ap (λ (t : Subtree). t.width) r.is;
    shape = ap (λ (t : Subtree). t.shape) r.is;
    block = r.block;
    leaves = ap (λ (t : Subtree). t.leaves) r.is;
    messages = λ key n. ap (λ (t : Subtree). ops_in (buffered t) key n) r.is;
    count = ap (λ (t : Subtree). length (buffered t)) r.is;
  },
  ap (λ (t : Subtree). t.weight) r.is,
  ap (λ (t : Subtree). t.buffer.messages) r.is,
)

pub reallocated_itself : (t : Subtree) → IsReallocated t t
reallocated_itself t = record { used = t.buffer.used; capacity = t.buffer.capacity; is = refl; fewer = omega arith; block = λ h. h }

pub reallocated_then : (x y z : Subtree) → IsReallocated x y → IsReallocated y z → IsReallocated x z
reallocated_then x y z p q = record {
  used = q.used;
  capacity = q.capacity;
  is = q.is ∙ ap (λ (t : Subtree). record t { buffer = message_list t.buffer.messages q.used q.capacity }) p.is;
  fewer = let a = p.fewer in let b = q.fewer in let e = ap (λ (t : Subtree). t.buffer.used) p.is in omega (arith, a, b, e);
  block = λ h. q.block (p.block h);
}

-- a node with another buffer of the same messages
pub record OtherBlock {A : Type 0} (a : Inside A) (b : MessageList) : Type 0 where
  pub is_node : IsNode (record a { buffer = b })
  pub reallocated : IsReallocated (subtree_of a) (subtree_of (record a { buffer = b }))

pub other_block : {A : Type 0} (a : Inside A) (b : MessageList) → IsNode a → b.messages ≡ a.buffer.messages → b.used ≤ a.buffer.used → HasBlock a.shape.buffer b → OtherBlock a b
other_block {A} a b node same fewer block = record {
  is_node = record {
    tiled = node.tiled;
    first = node.first;
    level = node.level;
    some = node.some;
    block = block;
    from = rw same node.from;
    newer = rw same node.newer;
    sizes = node.sizes;
  };
  reallocated = record {
    used = b.used;
    capacity = b.capacity;
    is = λ j. record (subtree_of a) {
      buffer = message_list (same j) b.used b.capacity;
      weight = a.height * length (same j) + weight_in (parts_of a.children.items);
    };
    fewer = fewer;
    block = λ h. block;
  };
}

none_of : (ms : List TreeMessage) → length ms ≡ 0 → [] ≡ ms
none_of [] e = refl
none_of (m ∷ ms) e = absurd (omega (arith, e))

-- an empty buffer in the place of one with no message
pub emptied : {A : Type 0} (a : Inside A) (b : MessageList) (capacity : ℕ) → IsNode a → length a.buffer.messages ≡ 0 → b ≡ message_list [] 0 capacity → HasBlock a.shape.buffer (message_list [] 0 capacity) → OtherBlock a b
emptied {A} a b capacity node none e block = subst (OtherBlock a) (sym e) (other_block a (message_list [] 0 capacity) node (none_of a.buffer.messages none) (omega arith) block)

-- ---- children with other blocks

pub children_itself : {A : Type 0} (cs : List (Child A)) → AreReallocated cs cs
children_itself [] = tt
children_itself (in_child.Leaf leaf ∷ cs) = (refl, children_itself cs)
children_itself (in_child.Node x ∷ cs) = (reallocated_itself x, children_itself cs)

child_then : {A : Type 0} (c d e : Child A) → IsReallocatedChild c d → IsReallocatedChild d e → IsReallocatedChild c e
child_then {A} (in_child.Leaf leaf) d e p q = subst (λ (f : Child A). IsReallocatedChild f e) p q
child_then (in_child.Node x) (in_child.Leaf leaf) e p q = absurd p
child_then (in_child.Node x) (in_child.Node y) (in_child.Leaf leaf) p q = absurd q
child_then (in_child.Node x) (in_child.Node y) (in_child.Node z) p q = reallocated_then x y z p q

pub reallocated_count : {A : Type 0} (cs ds : List (Child A)) → AreReallocated cs ds → length ds ≡ length cs
reallocated_count [] [] r = refl
reallocated_count [] (d ∷ ds) r = absurd r
reallocated_count (c ∷ cs) [] r = absurd r
reallocated_count (c ∷ cs) (d ∷ ds) r = let e = reallocated_count cs ds r.1 in omega (arith, e)

-- the list whose slice was changed
pub reallocated_items : {A : Type 0} (v : Vec (Child A) A) (l : List (Child A)) → AreReallocated v.items l → AreReallocated v.items (with_items v l).items
reallocated_items {A} v l r = subst (λ (k : List (Child A)). AreReallocated v.items k) (sym (with_items_is v l (reallocated_count v.items l r ∙ sym v.ok.0))) r

-- one more of them has
pub children_set : {A : Type 0} (cs ds : List (Child A)) (i : ℕ) (d e : Child A) → AreReallocated cs ds → i < length ds → d ≡ get_or ds i d → IsReallocatedChild d e → AreReallocated cs (set ds i e)
children_set [] [] i d e r l at q = absurd (omega (arith, l))
children_set [] (f ∷ ds) i d e r l at q = absurd r
children_set (c ∷ cs) [] i d e r l at q = absurd r
children_set {A} (c ∷ cs) (f ∷ ds) zero d e r l at q = (child_then c d e (subst (IsReallocatedChild c) (sym at) r.0) q, r.1)
children_set (c ∷ cs) (f ∷ ds) (suc i) d e r l at q = (r.0, children_set cs ds i d e r.1 (omega (arith, l)) at q)

-- what a parent sees of them is the same
pub record SameRow {A : Type 0} (height : ℕ) (shape : Shape) (cs ds : List (Child A)) : Type 0 where
  pub width : length ds ≡ length cs
  pub parts : parts_of ds ≡ parts_of cs
  pub nearest : nearest_in ds ≡ nearest_in cs
  pub deepest : deepest_in ds ≡ deepest_in cs
  pub level : AllByRecursion (IsBelow height shape) cs → AllByRecursion (IsBelow height shape) ds

-- .. and of each
record SameChild {A : Type 0} (height : ℕ) (shape : Shape) (c d : Child A) : Type 0 where
  part : part_of d ≡ part_of c
  nearest : nearest_of d ≡ nearest_of c
  deepest : deepest_of d ≡ deepest_of c
  level : IsBelow height shape c → IsBelow height shape d

same_child : {A : Type 0} (height : ℕ) (shape : Shape) (c d : Child A) → IsReallocatedChild c d → SameChild height shape c d
same_child height shape (in_child.Leaf leaf) d e = record { part = ap part_of e; nearest = ap nearest_of e; deepest = ap deepest_of e; level = subst (IsBelow height shape) (sym e) }
same_child height shape (in_child.Node x) (in_child.Leaf leaf) r = absurd r
same_child height shape (in_child.Node x) (in_child.Node y) r = record {
  part = ap node_part r.is;
  nearest = ap right_above_leaves r.is;
  deepest = ap deepest_buffer r.is;
  level = λ b. record {
    level = ap (λ (t : Subtree). t.height + 1) r.is ∙ b.level;
    same = (
      ap (λ (t : Subtree). t.shape) r.is ∙ b.same.0,
      r.block b.same.1,
      let e = ap (λ (t : Subtree). t.height) r.is in let h = b.same.2 in omega (arith, e, h),
      let e = ap (λ (t : Subtree). t.width) r.is in let w = b.same.3 in omega (arith, e, w),
    );
  };
}

row_with : {A : Type 0} (height : ℕ) (shape : Shape) (c d : Child A) (cs ds : List (Child A)) → SameChild height shape c d → SameRow height shape cs ds → SameRow height shape (c ∷ cs) (d ∷ ds)
row_with height shape c d cs ds one rest = record {
  width = let w = rest.width in omega (arith, w);
  parts = λ j. one.part j ∷ rest.parts j;
  nearest = λ j. in_range (one.part j).low (low_or top_key (rest.parts j)) (one.nearest j) ++ rest.nearest j;
  deepest = λ j. lower_height (one.deepest j) (rest.deepest j);
  level = λ b. (one.level b.0, rest.level b.1);
}

pub same_row : {A : Type 0} (height : ℕ) (shape : Shape) (cs ds : List (Child A)) → AreReallocated cs ds → SameRow height shape cs ds
same_row height shape [] [] r = record { width = refl; parts = refl; nearest = refl; deepest = refl; level = λ b. b }
same_row height shape [] (d ∷ ds) r = absurd r
same_row height shape (c ∷ cs) [] r = absurd r
same_row height shape (c ∷ cs) (d ∷ ds) r = row_with height shape c d cs ds (same_child height shape c d r.0) (same_row height shape cs ds r.1)

-- a node whose children have other blocks is the same
pub record SameNode {A : Type 0} (a : Inside A) (v : Vec (Child A) A) : Type 0 where
  pub is_node : IsNode (record a { children = v })
  pub same : subtree_of (record a { children = v }) ≡ subtree_of a

pub same_with : {A : Type 0} (a : Inside A) (v : Vec (Child A) A) → IsNode a → AreReallocated a.children.items v.items → SameNode a v
same_with {A} a v node r = record {
  is_node = record {
    tiled = subst (TiledTo top_key) (sym row.parts) node.tiled;
    first = ap (low_or top_key) row.parts ∙ node.first;
    level = row.level node.level;
    some = let w = row.width in let s = node.some in omega (arith, w, s);
    block = node.block;
    from = node.from;
    newer = subst (λ ps. AreNewer a.buffer.messages (messages_in ps ++ row_messages (leaves_in ps))) (sym row.parts) node.newer;
    sizes = subst (λ ps. AreLeafSizes a.shape.leaf (leaves_in ps)) (sym row.parts) node.sizes;
  };
  same = λ j.
      record {
        low = a.low;
        height = a.height;
        width = row.width j;
        shape = a.shape;
        buffer = a.buffer;
        deeper = messages_in (row.parts j);
        nearest = row.nearest j;
        deepest = row.deepest j;
        leaves = leaves_in (row.parts j);
        weight = a.height * length a.buffer.messages + weight_in (row.parts j);
      };
}
  where
    row : SameRow a.height a.shape a.children.items v.items
    row = same_row a.height a.shape a.children.items v.items r
