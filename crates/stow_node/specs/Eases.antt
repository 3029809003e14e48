-- A node some of whose messages may have moved towards the leaves.
use Rattle.std.specs.Prelude.{◌≡◌, ℕ, ◌≤◌, List, IsSome, None}
use Rattle.stow_tree_model.specs.Messages.{ops_in}
use Rattle.stow_tree_model.specs.TreeMessage.{TreeMessage}
use Rattle.stow_node.specs.Moves.{StaysInMeaning}
use Rattle.stow_node.specs.Subtree.{Subtree, right_above_leaves}

-- all messages stay and none comes, each where it was or nearer to the leaves; and of the batch
-- none comes to stand right above the leaves
pub record Eases (batch : List TreeMessage) (old new : Subtree) : Type 0 where
  pub stays : StaysInMeaning old new
  pub nearer : new.weight ≤ old.weight
  pub apart : (key : List ℕ) (n : ℕ) → IsSome (ops_in batch key n)
      → ops_in (right_above_leaves old) key n ≡ None → ops_in (right_above_leaves new) key n ≡ None
