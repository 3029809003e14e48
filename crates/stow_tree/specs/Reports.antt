-- How large a tree is.
use Rattle.std.specs.Prelude.{◌≡◌, ℕ, ◌+◌, length, min}
use Rattle.stow_flush.specs.StowNode.Subtree.{Subtree, buffered}
use Rattle.stow_tree.specs.declared.counting.Counts.{Counts}
use Rattle.stow_tree.specs.declared.shape_report.ShapeReport.{ShapeReport}
use Rattle.stow_tree.specs.TreeState.{TreeState}

-- what 64 bits hold of a count
abbrev pub told : ℕ → ℕ
told count = min count 18446744073709551615

-- both counts together
abbrev pub counts_both : Counts → Counts → Counts
counts_both a b =
    record { leaves = told (a.leaves + b.leaves); buffered = told (a.buffered + b.buffered) }

-- the counts of a node's leaves and of the messages in its buffers
pub record CountsAre (t : Subtree) (counts : Counts) : Type 0 where
  pub leaves : counts.leaves ≡ told (length t.leaves)
  pub buffered : counts.buffered ≡ told (length (buffered t))

-- what is told of a tree: its levels, its leaves, the messages in its buffers, and the leaves that
-- are held
pub record IsReport (tree : TreeState) (report : ShapeReport) : Type 0 where
  pub height : report.height ≡ tree.root.height
  pub leaves : report.leaves ≡ told (length tree.root.leaves)
  pub buffered : report.buffered ≡ told (length (buffered tree.root))
  pub cached : report.cached ≡ length tree.cache.leaves
