-- What a node keeps.
use Rattle.std.specs.Prelude.{◌≡◌, ◌⊎◌, ℕ, ◌+◌, ◌*◌, ◌<◌, ◌≤◌, List, [], ◌∷◌, ◌++◌, map, length, IsSome, Option, None}
use Rattle.std.specs.List.{AllByRecursion}
use Rattle.stow_leaves.specs.StowMessage.MessageBuf.{MessageList}
use Rattle.stow_leaves.specs.StowMessage.Rising.{in_range}
use Rattle.stow_tree_model.specs.Messages.{ops_in}
use Rattle.stow_tree_model.specs.TreeMessage.{TreeMessage}
use Rattle.stow_node.specs.declared.child.Child.{Child}
use Rattle.stow_node.specs.declared.child.Child.TheVariants as in_child
use Rattle.stow_leaves.specs.StowLeaf.declared.leaf.Leaf.{Leaf}
use Rattle.stow_node.specs.declared.node.Node.TheInside.{Inside}
use Rattle.stow_node.specs.declared.shape.Shape.{Shape}
use Rattle.stow_node.specs.Subtree.{Subtree, buffered, right_above_leaves, lower_height, deepest_buffer}
use Rattle.stow_leaves.specs.StowLeaf.LeafRows.{LeafRows, row_messages}
use Rattle.stow_leaves.specs.StowLeaf.Replacements.{IsLeafSize}
use Rattle.stow_node.specs.Parts.{Part, TiledTo, low_or, messages_in, leaves_in, weight_in}
use Rattle.stow_leaves.specs.StowLeaf.Intervals.{top_key, NoneOutside}

abbrev pub leaf_part : {A : Type 0} → Leaf A → Part
leaf_part leaf =
    record {
      low = leaf.low;
      height = 0;
      messages = [];
      leaves = (leaf.low, leaf.rows) ∷ [];
      weight = 0;
    }

abbrev pub node_part : Subtree → Part
node_part t =
    record {
      low = t.low;
      height = t.height;
      messages = buffered t;
      leaves = t.leaves;
      weight = t.weight;
    }

abbrev pub part_of : {A : Type 0} → Child A → Part
part_of (in_child.Leaf leaf) = leaf_part leaf
part_of (in_child.Node node) = node_part node

abbrev pub parts_of : {A : Type 0} → List (Child A) → List Part
parts_of children = map part_of children

abbrev pub leaves_of : {A : Type 0} → List (Child A) → List LeafRows
leaves_of children = leaves_in (parts_of children)

-- the children are leaves
pub record AreLeaves {A : Type 0} (children : List (Child A)) : Type 0 where
  pub leaves : List (Leaf A)
  pub are : children ≡ map in_child.Leaf leaves

-- a child's messages in the buffers right above the leaves
abbrev pub nearest_of : {A : Type 0} → Child A → List TreeMessage
nearest_of (in_child.Leaf leaf) = []
nearest_of (in_child.Node node) = right_above_leaves node

-- .. of each child those of its own keys
abbrev pub nearest_in : {A : Type 0} → List (Child A) → List TreeMessage
nearest_in [] = []
nearest_in (child ∷ children) =
    in_range (part_of child).low (low_or top_key (parts_of children)) (nearest_of child)
    ++ nearest_in children

-- how high a child's deepest buffer stands that holds a message
abbrev pub deepest_of : {A : Type 0} → Child A → Option ℕ
deepest_of (in_child.Leaf leaf) = None
deepest_of (in_child.Node node) = deepest_buffer node

abbrev pub deepest_in : {A : Type 0} → List (Child A) → Option ℕ
deepest_in [] = None
deepest_in (child ∷ children) = lower_height (deepest_of child) (deepest_in children)

-- each message of a key is newer than those of the key below
pub record AreNewer (upper lower : List TreeMessage) : Type 0 where
  pub above : (key : List ℕ) (n k : ℕ) → IsSome (ops_in upper key n) → IsSome (ops_in lower key k)
      → k < n

-- each of the messages is one of the others
abbrev pub AreAmong : List TreeMessage → List TreeMessage → Type 0
AreAmong ms others = (key : List ℕ) (n : ℕ) → IsSome (ops_in ms key n)
    → IsSome (ops_in others key n)

-- each leaf is within the target or of one key
abbrev pub AreLeafSizes : ℕ → List LeafRows → Type 0
AreLeafSizes target leaves = AllByRecursion (λ leaf. IsLeafSize target leaf.1) leaves

-- a buffer's block has this size, or there is none
abbrev pub HasBlock : ℕ → MessageList → Type 0
HasBlock size b = (b.capacity ≡ size) ⊎ (b.capacity ≡ 0)

-- a node's block has the node size, or it has none
abbrev pub HasNodeBlock : Subtree → Type 0
HasNodeBlock t = HasBlock t.shape.buffer t.buffer

-- a node grows as its parent does, stands above leaves, and has no more children than it may
abbrev pub HasShape : {A : Type 0} → Shape → Child A → Type 0
HasShape shape (in_child.Leaf leaf) = Unit {0}
HasShape shape (in_child.Node node) = (node.shape ≡ shape) × HasNodeBlock node
    × (1 ≤ node.height) × (node.width ≤ shape.fan_out)

-- a child stands one level lower, and grows as its parent does
pub record IsBelow {A : Type 0} (height : ℕ) (shape : Shape) (child : Child A) : Type 0 where
  pub level : (part_of child).height + 1 ≡ height
  pub same : HasShape shape child

abbrev pub subtree_of : {A : Type 0} → Inside A → Subtree
subtree_of a =
    record {
      low = a.low;
      height = a.height;
      width = length a.children.items;
      shape = a.shape;
      buffer = a.buffer;
      deeper = messages_in (parts_of a.children.items);
      nearest = nearest_in a.children.items;
      deepest = deepest_in a.children.items;
      leaves = leaves_in (parts_of a.children.items);
      weight = a.height * length a.buffer.messages + weight_in (parts_of a.children.items);
    }

pub record IsNode {A : Type 0} (a : Inside A) : Type 0 where
  pub tiled : TiledTo top_key (parts_of a.children.items)
  pub first : low_or top_key (parts_of a.children.items) ≡ a.low
  pub level : AllByRecursion (IsBelow a.height a.shape) a.children.items
  pub some : 1 ≤ length a.children.items
  pub block : HasBlock a.shape.buffer a.buffer
  pub from : NoneOutside a.low top_key a.buffer.messages
  pub newer : AreNewer a.buffer.messages
      (messages_in (parts_of a.children.items)
      ++ row_messages (leaves_in (parts_of a.children.items)))
  pub sizes : AreLeafSizes a.shape.leaf (leaves_in (parts_of a.children.items))

-- what stands right below a node, and its own messages above it
pub record AreChildren {A : Type 0} (t : Subtree) (children : List (Child A)) : Type 0 where
  pub width : t.width ≡ length children
  pub some : 1 ≤ length children
  pub low : low_or top_key (parts_of children) ≡ t.low
  pub deeper : t.deeper ≡ messages_in (parts_of children)
  pub nearest : t.nearest ≡ nearest_in children
  pub deepest : t.deepest ≡ deepest_in children
  pub leaves : t.leaves ≡ leaves_in (parts_of children)
  pub tiled : TiledTo top_key (parts_of children)
  pub level : AllByRecursion (IsBelow t.height t.shape) children
  pub from : NoneOutside t.low top_key t.buffer.messages
  pub newer : AreNewer t.buffer.messages (t.deeper ++ row_messages t.leaves)
