-- The way down to a key's leaf.
use Rattle.std.specs.Prelude.{◌≡◌, ℕ, ◌<◌, List, ◌++◌, true, Contains}
use Rattle.std.specs.Ordering.{is_lt}
use Rattle.stow_bytes.specs.Bytes.{bytes_cmp}
use Rattle.stow_node.specs.StowLeaf.Intervals.{top_key, spans}
use Rattle.stow_node.specs.StowLeaf.LeafRows.{LeafRows, row_messages}
use Rattle.stow_tree_model.specs.Messages.{ops_in}
use Rattle.stow_tree_model.specs.TreeMessage.{TreeMessage}
use Rattle.stow_node.specs.declared.child.Child.{Child}
use Rattle.stow_node.specs.Nodes.{part_of}
use Rattle.stow_node.specs.Parts.{Part}
use Rattle.stow_node.specs.Subtree.{Subtree}
use Rattle.stow_read.specs.Suffixes.{IsAbove}

-- all messages of a part, those in buffers before those that rows stand for
abbrev pub part_messages : Part → List TreeMessage
part_messages p = p.messages ++ row_messages p.leaves

-- all that stands below the node's own buffer for the key stands in this child
pub record LeadsDown {A : Type 0} (t : Subtree) (key : List ℕ) (child : Child A) : Type 0 where
  pub spanned : spans (part_of child).low top_key key ≡ true
  pub lower : (part_of child).height < t.height
  pub messages : (n : ℕ) → ops_in (t.deeper ++ row_messages t.leaves) key n
      ≡ ops_in (part_messages (part_of child)) key n
  pub newer : IsAbove (ops_in t.buffer.messages key) (ops_in (part_messages (part_of child)) key)
  pub leaves : (leaf : LeafRows) → Contains (part_of child).leaves leaf → Contains t.leaves leaf

-- the child is where all that stands below the node stands for each key of the interval
pub record LeadsAllTo {A : Type 0} (t : Subtree) (low high : List ℕ) (child : Child A)
    : Type 0 where
  pub inside : is_lt (bytes_cmp low high) ≡ true
  pub each : (key : List ℕ) → spans low high key ≡ true → LeadsDown t key child
