-- One step of messages down: what a node is after each of its ends.
use Rattle.std.proofs.Common.{zero, suc, ◌≡◌, ℕ, ◌+◌, ◌<◌, ◌≤◌, List, [], ◌∷◌, length, get_or, set, Some, refl, sym, ap, ◌∙◌, arith}
use Rattle.std.specs.Prelude.{slice_get}
use Rattle.std.specs.List.{sum_by}
use Rattle.std.specs.Vec.{with_item, with_items}
use Rattle.std.specs.declared.vec.Vec.{Vec}
use Rattle.std.proofs.lemmas.List.{length-set, map-set, with_items_is}
use Rattle.std.proofs.lemmas.Option.{slice_get-get_or}
use Rattle.stow_tree_model.specs.Order.{MessagesRise}
use Rattle.stow_tree_model.specs.TreeMessage.{TreeMessage}
use Rattle.stow_leaves.specs.StowMessage.MessageBuf.{MessageList, without_range}
use Rattle.stow_leaves.specs.StowMessage.Packed.{message_size}
use Rattle.stow_leaves.specs.StowMessage.Rising.{in_range}
use Rattle.stow_node.specs.declared.child.Child.{Child}
use Rattle.stow_node.specs.declared.child.Child.TheVariants as in_child
use Rattle.stow_node.specs.declared.node.Node.TheInside.{Inside}
use Rattle.stow_node.specs.Subtree.{Subtree}
use Rattle.stow_node.specs.Parts.{Part, high_of}
use Rattle.stow_leaves.specs.StowLeaf.Intervals.{top_key}
use Rattle.stow_node.specs.Nodes.{part_of, node_part, parts_of, subtree_of, IsNode}
use Rattle.stow_node.specs.Moves.{accepted, CanAccept, IsReallocated, StaysInMeaning, bytes_for, messages_for, HandsDown}
use Rattle.stow_node.proofs.HandedDown.{same_node}
use Rattle.stow_node.proofs.Lowered.{for_child, can_hand, Lowered, lowered, end_of-set}
use Rattle.stow_leaves.proofs.StowLeaf.Steps.{inside_of}
use Rattle.stow_node.proofs.Reallocated.{reallocated_same}
use Rattle.stow_node.proofs.Stayed.{part_at, ChildStays, child_stays}

pub stays_then : {x y z : Subtree} → StaysInMeaning x y → StaysInMeaning y z → StaysInMeaning x z
stays_then s t = record {
  low = t.low ∙ s.low;
  height = t.height ∙ s.height;
  width = t.width ∙ s.width;
  shape = t.shape ∙ s.shape;
  capacity = t.capacity ∙ s.capacity;
  leaves = t.leaves ∙ s.leaves;
  messages = λ key n. t.messages key n ∙ s.messages key n;
  count = t.count ∙ s.count;
}

pub stays_itself : (x : Subtree) → StaysInMeaning x x
stays_itself x = record { low = refl; height = refl; width = refl; shape = refl; capacity = refl; leaves = refl; messages = λ key n. refl; count = refl }

-- the child at the place is this node
pub node_at : {A : Type 0} (cs : List (Child A)) (i : ℕ) (c : Child A) (x : Subtree) → i < length cs → c ≡ get_or cs i c → c ≡ in_child.Node x → slice_get cs i ≡ Some (in_child.Node x)
node_at cs i c x h e is = slice_get-get_or cs i c h ∙ ap (λ d. Some d) (sym e ∙ is)

pub get-set : {X : Type 0} (xs : List X) (i : ℕ) (x : X) → i < length xs → slice_get (set xs i x) i ≡ Some x
get-set [] i x h = absurd (omega arith)
get-set (y ∷ ys) zero x h = refl
get-set (y ∷ ys) (suc i) x h = get-set ys i x (omega arith)

-- ---- nothing moved, since the child is a leaf

-- ---- messages moved into the child

pub record MadeRoom {A : Type 0} (a : Inside A) (i : ℕ) (x y : Subtree) : Type 0 where
  pub made : ChildStays a x y (with_item a.children i (in_child.Node y))
  pub at : slice_get (set a.children.items i (in_child.Node y)) i ≡ Some (in_child.Node y)
  pub can : CanAccept (for_child (record a { children = with_item a.children i (in_child.Node y) }) i y) y
  pub bytes : sum_by message_size (for_child (record a { children = with_item a.children i (in_child.Node y) }) i y) ≡ bytes_for (parts_of a.children.items) a.buffer i (node_part x)
  pub weight : y.weight ≡ x.weight

pub made_room : {A : Type 0} (a : Inside A) (i : ℕ) (x y : Subtree) → IsNode a → slice_get a.children.items i ≡ Some (in_child.Node x) → IsReallocated x y → y.buffer.used + bytes_for (parts_of a.children.items) a.buffer i (node_part x) ≤ y.buffer.capacity → MadeRoom a i x y
made_room {A} a i x y node at s room = record {
  made = made;
  at = here;
  can = can_hand (record a { children = with_item a.children i (in_child.Node y) }) i y made.is_node here (let b = bytes in omega arith);
  bytes = bytes;
  weight = (reallocated_same x y s).1;
}
  where
    made : ChildStays a x y (with_item a.children i (in_child.Node y))
    made = child_stays a (with_item a.children i (in_child.Node y)) i x y node at refl (reallocated_same x y s).0

    here : slice_get (set a.children.items i (in_child.Node y)) i ≡ Some (in_child.Node y)
    here = get-set a.children.items i (in_child.Node y) (inside_of a.children.items i (in_child.Node x) at)

    low : y.low ≡ (get_or (parts_of a.children.items) i (node_part x)).low
    low = let same = (reallocated_same x y s).0 in same.low ∙ ap (λ (p : Part). p.low) (sym (part_at a.children.items i (in_child.Node x) (node_part x) at))

    high : high_of (parts_of (set a.children.items i (in_child.Node y))) i ≡ high_of (parts_of a.children.items) i
    high = ap (λ ps. high_of ps i) (map-set part_of a.children.items i (in_child.Node y)) ∙ end_of-set top_key (parts_of a.children.items) i (node_part y)

    bytes : sum_by message_size (in_range y.low (high_of (parts_of (set a.children.items i (in_child.Node y))) i) a.buffer.messages) ≡ bytes_for (parts_of a.children.items) a.buffer i (node_part x)
    bytes = rw (high, low) refl

pub some_there : (ms : List TreeMessage) → 0 < sum_by message_size ms → 0 < length ms
some_there [] h = absurd (omega (arith, h))
some_there (m ∷ ms) h = omega arith

-- the node in the end
pub record WentInto {A : Type 0} (a : Inside A) (v : Vec (Child A) A) (b : MessageList) : Type 0 where
  pub is_node : IsNode (record a { children = v; buffer = b })
  pub stays : StaysInMeaning (subtree_of a) (subtree_of (record a { children = v; buffer = b }))
  pub weight : (subtree_of (record a { children = v; buffer = b })).weight < (subtree_of a).weight

pub went_into : {A : Type 0} (a : Inside A) (i : ℕ) (x y : Subtree) (v : Vec (Child A) A) (b : MessageList) → IsNode a → MessagesRise a.buffer.messages → MadeRoom a i x y → 0 < bytes_for (parts_of a.children.items) a.buffer i (node_part x) → HandsDown (set a.children.items i (in_child.Node y)) i a.buffer v.items b → WentInto a v b
went_into {A} a i x y v b node rise m some h =
    let same : h.node ≡ y = same_node h.node y (sym h.at ∙ m.at) in
    let low : Lowered (record a { children = with_item a.children i (in_child.Node y) }) (for_child (record a { children = with_item a.children i (in_child.Node y) }) i y) v b =
    lowered (record a { children = with_item a.children i (in_child.Node y) }) v b i y m.made.is_node m.at rise m.can
    (h.into ∙ ap (λ n. set (set a.children.items i (in_child.Node y)) i (in_child.Node (accepted (for_child (record a { children = with_item a.children i (in_child.Node y) }) i n) n))) same)
    (h.from ∙ ap (λ (n : Subtree). without_range n.low (high_of (parts_of (set a.children.items i (in_child.Node y))) i) a.buffer) same) in
    let filled : 0 < length (for_child (record a { children = with_item a.children i (in_child.Node y) }) i y) = some_there (for_child (record a { children = with_item a.children i (in_child.Node y) }) i y) (let e = m.bytes in omega arith) in
    let one = m.made.weight in
    let two = low.weight in
    let three = m.weight in
    record {
      is_node = low.is_node;
      stays = stays_then m.made.stays low.stays;
      weight = omega arith;
    }

-- a child that lacks room has messages
pub full_has_messages : (y : Subtree) (bytes : ℕ) → y.buffer.capacity < sum_by message_size y.buffer.messages + bytes → bytes ≤ y.buffer.capacity → 0 < length y.buffer.messages
full_has_messages y bytes full h = some_there y.buffer.messages (omega arith)

-- what is known of the child that most bytes are buffered for
pub record IsNext {A : Type 0} (a : Inside A) (i bytes : ℕ) (x : Subtree) : Type 0 where
  pub at : slice_get a.children.items i ≡ Some (in_child.Node x)
  pub bytes_are : bytes ≡ bytes_for (parts_of a.children.items) a.buffer i (node_part x)
  pub some : 0 < bytes
  pub few : bytes ≤ a.buffer.capacity
  pub lower : x.height < a.height

-- the children are those that the slice had in the end
pub new_items : {A : Type 0} (v : Vec (Child A) A) (i : ℕ) (y : Child A) (l : List (Child A)) (b b' : MessageList) → HandsDown (set v.items i y) i b l b' → (with_items (with_item v i y) l).items ≡ l
new_items v i y l b b' h =
    with_items_is (with_item v i y) l (ap length h.into ∙ length-set (set v.items i y) i (in_child.Node (accepted (messages_for (parts_of (set v.items i y)) b i h.node) h.node)) ∙ length-set v.items i y ∙ sym v.ok.0)
