-- A node that was cut in two.
use Rattle.std.specs.Prelude.{◌≡◌, ℕ, ◌+◌, List, ◌++◌, length, true, false}
use Rattle.std.specs.Ordering.{is_lt}
use Rattle.stow_tree_model.specs.StowBytes.Bytes.{bytes_cmp}
use Rattle.stow_tree_model.specs.Messages.{ops_in}
use Rattle.stow_tree_model.specs.Operations.{or_else}
use Rattle.stow_node.specs.Subtree.{Subtree, buffered, right_above_leaves}
use Rattle.stow_leaves.specs.StowLeaf.Intervals.{top_key}
use Rattle.stow_node.specs.Parts.{IsTile}
use Rattle.stow_node.specs.Nodes.{node_part, HasNodeBlock}

-- a node stands where another does, and grows as it does
pub record IsLike (old half : Subtree) : Type 0 where
  pub height : half.height ≡ old.height
  pub shape : half.shape ≡ old.shape
  pub block : HasNodeBlock half

-- the lower children, and the others, with what is below them and the messages for them
pub record AreHalves (old lower upper : Subtree) : Type 0 where
  pub low : lower.low ≡ old.low
  pub capacity : lower.buffer.capacity ≡ old.buffer.capacity
  pub lower_like : IsLike old lower
  pub upper_like : IsLike old upper
  pub widths : lower.width + upper.width ≡ old.width
  pub leaves : old.leaves ≡ lower.leaves ++ upper.leaves
  pub messages : (key : List ℕ) (n : ℕ) → ops_in (buffered old) key n
      ≡ or_else (ops_in (buffered lower) key n) (ops_in (buffered upper) key n)
  pub count : length (buffered old) ≡ length (buffered lower) + length (buffered upper)
  pub weight : old.weight ≡ lower.weight + upper.weight
  -- right above the leaves each has what is buffered there of its own keys
  pub lower_nearest : (key : List ℕ) (n : ℕ) → is_lt (bytes_cmp key upper.low) ≡ true
      → ops_in (right_above_leaves lower) key n ≡ ops_in (right_above_leaves old) key n
  pub upper_nearest : (key : List ℕ) (n : ℕ) → is_lt (bytes_cmp key upper.low) ≡ false
      → ops_in (right_above_leaves upper) key n ≡ ops_in (right_above_leaves old) key n
  -- all that the lower one has is below the upper one's low, and all that the upper one has from
  -- there on
  pub below : IsTile (node_part lower) upper.low
  pub above : IsTile (node_part upper) top_key
