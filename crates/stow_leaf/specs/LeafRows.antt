-- Leaves in a row, which share out the keys between them.
use Rattle.std.specs.Prelude.{◌≡◌, ℕ, List, [], ◌∷◌, map}
use Rattle.std.specs.declared.cmp.Ordering.TheVariants.{Less}
use Rattle.std.specs.List.{flat_map}
use Rattle.stow_merge.specs.StowBytes.Bytes.{bytes_cmp}
use Rattle.stow_merge.specs.StowTreeModel.Merged.{row_message}
use Rattle.stow_merge.specs.StowTreeModel.TreeMessage.{TreeMessage}
use Rattle.stow_merge.specs.StowTreeModel.Version.{Version}
use Rattle.stow_leaf.specs.Intervals.{NoneOutside}
use Rattle.stow_leaf.specs.declared.leaf.Leaf.{Leaf}

-- a leaf's low fence, with its rows
abbrev pub LeafRows : Type 0
LeafRows = List ℕ × List Version

abbrev pub leaf_rows : {A : Type 0} → Leaf A → LeafRows
leaf_rows leaf = (leaf.low, leaf.rows)

-- the messages that the rows of leaves stand for
abbrev pub row_messages : List LeafRows → List TreeMessage
row_messages leaves = flat_map (λ leaf. map row_message leaf.1) leaves

-- the fence of the first leaf, or else the upper end
abbrev pub first_fence : List ℕ → List LeafRows → List ℕ
first_fence high [] = high
first_fence high (leaf ∷ leaves) = leaf.0

-- a leaf's rows are from its fence on, and below the upper end
pub record IsLeafTile (leaf : LeafRows) (high : List ℕ) : Type 0 where
  pub ordered : bytes_cmp leaf.0 high ≡ Less
  pub rows : NoneOutside leaf.0 high (map row_message leaf.1)

-- each leaf ends where the next begins, and the last at the upper end
abbrev pub LeavesTo : List ℕ → List LeafRows → Type 0
LeavesTo high [] = Unit {0}
LeavesTo high (leaf ∷ leaves) = IsLeafTile leaf (first_fence high leaves) × LeavesTo high leaves
