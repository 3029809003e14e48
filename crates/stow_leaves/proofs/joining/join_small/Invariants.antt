use Rattle.std.proofs.Common.{◌-◌, length, map}
use Rattle.stow_leaf.specs.LeafRows.{leaf_rows}
use Rattle.stow_leaves.specs.Forgets.{Forgets}
use Rattle.stow_leaves.specs.Joins.{JoinsAll}
use Rattle.stow_leaves.proofs.Pairs.{AreJoining}
use Rattle.stow_leaves.proofs.joining.join_small.Given as goal

abbrev pub invariant-loop-index : goal.invariant-loop-index
invariant-loop-index g l = AreJoining l.target (map leaf_rows l.leaves.items) l.index × Forgets (map leaf_rows l.fn.leaves.items) (map leaf_rows l.leaves.items) l.fn.cache l.cache × JoinsAll l.target (map leaf_rows l.fn.leaves.items) (map leaf_rows l.leaves.items) l.fn.cache l.cache

abbrev pub decreases-loop-index : goal.decreases-loop-index
decreases-loop-index g l = length l.leaves.items - l.index
