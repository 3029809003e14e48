-- Messages on their way down.
use Rattle.std.specs.Prelude.{◌≡◌, ℕ, ◌+◌, ◌*◌, ◌/◌, ◌<◌, ◌≤◌, List, [], ◌∷◌, length, max, slice_index_or, slice_get, slice_set, Some}
use Rattle.std.specs.List.{sum_by}
use Rattle.stow_leaves.specs.StowLeaf.LeafRows.{LeafRows}
use Rattle.stow_leaves.specs.StowMessage.MessageBuf.{MessageList, message_list, with_messages, without_range}
use Rattle.stow_leaves.specs.StowMessage.Packed.{message_size}
use Rattle.stow_leaves.specs.StowMessage.Rising.{in_range}
use Rattle.stow_leaves.specs.StowPage.Format.{packed_page}
use Rattle.stow_tree_model.specs.Messages.{ops_in}
use Rattle.stow_tree_model.specs.TreeMessage.{TreeMessage}
use Rattle.stow_node.specs.declared.child.Child.{Child}
use Rattle.stow_node.specs.declared.child.Child.TheVariants as in_child
use Rattle.stow_node.specs.Subtree.{Subtree, buffered, messages_of}
use Rattle.stow_node.specs.Parts.{Part, high_of}
use Rattle.stow_leaves.specs.StowLeaf.Intervals.{top_key, NoneOutside}
use Rattle.stow_node.specs.Nodes.{AreNewer, HasNodeBlock, parts_of}

-- the node with these messages more in its own buffer
abbrev pub accepted : List TreeMessage → Subtree → Subtree
accepted ms t =
    record t { buffer = with_messages ms t.buffer; weight = t.weight + t.height * length ms }

-- the messages fit, are of keys that it may hold, and are newer than those that it has
pub record CanAccept (ms : List TreeMessage) (t : Subtree) : Type 0 where
  pub room : t.buffer.used + sum_by message_size ms ≤ t.buffer.capacity
  pub newer : AreNewer ms (messages_of t)
  pub within : NoneOutside t.low top_key ms

-- dead bytes are dropped, and nothing else changed
abbrev pub squeezed : MessageList → MessageList
squeezed b = message_list b.messages (sum_by message_size b.messages) b.capacity

-- the same messages with other dead bytes
pub record IsSqueezed (old new : Subtree) : Type 0 where
  pub used : ℕ
  pub is : new ≡ record old { buffer = message_list old.buffer.messages used old.buffer.capacity }
  pub fewer : used ≤ old.buffer.used

-- the same messages with other dead bytes, in a block of the node size or in none
pub record IsReallocated (old new : Subtree) : Type 0 where
  pub used : ℕ
  pub capacity : ℕ
  pub is : new ≡ record old { buffer = message_list old.buffer.messages used capacity }
  pub fewer : used ≤ old.buffer.used
  pub block : HasNodeBlock old → HasNodeBlock new

-- a leaf is the same, a node the same in another block or in none
abbrev pub IsReallocatedChild : {A : Type 0} → Child A → Child A → Type 0
IsReallocatedChild (in_child.Leaf leaf) d = d ≡ in_child.Leaf leaf
IsReallocatedChild (in_child.Node x) (in_child.Leaf leaf) = ⊥
IsReallocatedChild (in_child.Node x) (in_child.Node y) = IsReallocated x y

-- each of the children is
abbrev pub AreReallocated : {A : Type 0} → List (Child A) → List (Child A) → Type 0
AreReallocated [] [] = Unit {0}
AreReallocated [] (d ∷ ds) = ⊥
AreReallocated (c ∷ cs) [] = ⊥
AreReallocated (c ∷ cs) (d ∷ ds) = IsReallocatedChild c d × AreReallocated cs ds

-- the larger of so many bytes and a quarter of the block doesn't fit, even once dead bytes are
-- dropped
abbrev pub LacksRoom : ℕ → Subtree → Type 0
LacksRoom bytes t =
    t.buffer.capacity < sum_by message_size t.buffer.messages + max bytes (t.shape.buffer / 4)

-- the bytes of the leaves' pages
abbrev pub page_bytes : List LeafRows → ℕ
page_bytes leaves = sum_by (λ l. length (packed_page l.1)) leaves

-- it stands right above leaves, and with so many bytes more its buffer holds an eighth of their
-- pages' bytes or more, dead bytes among what it holds
abbrev pub IsLaden : ℕ → Subtree → Type 0
IsLaden bytes t = (t.height ≡ 1) × (page_bytes t.leaves ≤ 8 * (t.buffer.used + bytes))

-- the bytes of a child's messages in the buffer above it
abbrev pub bytes_for : List Part → MessageList → ℕ → Part → ℕ
bytes_for parts b i d =
    sum_by message_size (in_range (slice_index_or parts i d).low (high_of parts i) b.messages)

-- all that a node means stays, as messages move below it
pub record StaysInMeaning (old new : Subtree) : Type 0 where
  pub low : new.low ≡ old.low
  pub height : new.height ≡ old.height
  pub width : new.width ≡ old.width
  pub shape : new.shape ≡ old.shape
  pub capacity : new.buffer.capacity ≡ old.buffer.capacity
  pub leaves : new.leaves ≡ old.leaves
  pub messages : (key : List ℕ) (n : ℕ) → ops_in (buffered new) key n ≡ ops_in (buffered old) key n
  pub count : length (buffered new) ≡ length (buffered old)

-- the child for which most bytes are buffered, the leftmost of equals
pub record IsHeaviest (parts : List Part) (b : MessageList) (i : ℕ) : Type 0 where
  pub inside : i < length parts
  pub most : (j : ℕ) (d : Part) → j < length parts → bytes_for parts b j d ≤ bytes_for parts b i d
  pub leftmost : (j : ℕ) (d : Part) → j < i → bytes_for parts b j d < bytes_for parts b i d

-- a child's messages in the buffer above it
abbrev pub messages_for : List Part → MessageList → ℕ → Subtree → List TreeMessage
messages_for parts b i node = in_range node.low (high_of parts i) b.messages

-- the child is a node, and can take its messages out of the buffer
pub record CanHandDown {A : Type 0} (children : List (Child A)) (i : ℕ)
    (b : MessageList) : Type 0 where
  pub node : Subtree
  pub at : slice_get children i ≡ Some (in_child.Node node)
  pub can : CanAccept (messages_for (parts_of children) b i node) node

-- it takes them
pub record HandsDown {A : Type 0} (children : List (Child A)) (i : ℕ) (b : MessageList)
    (children' : List (Child A)) (b' : MessageList) : Type 0 where
  pub node : Subtree
  pub at : slice_get children i ≡ Some (in_child.Node node)
  pub into : children' ≡ slice_set children i
      (in_child.Node (accepted (messages_for (parts_of children) b i node) node))
  pub from : b' ≡ without_range node.low (high_of (parts_of children) i) b
