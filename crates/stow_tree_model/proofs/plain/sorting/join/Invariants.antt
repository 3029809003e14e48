use Rattle.std.proofs.Common.{◌≡◌, ◌+◌, ◌-◌, ◌≤◌, ◌++◌, length, drop, map}
use Rattle.stow_tree_model.specs.TreeMessage.{message_of}
use Rattle.stow_tree_model.specs.Zipped.{zipped}
use Rattle.stow_tree_model.proofs.plain.sorting.join.Given as goal

abbrev pub invariant-loop-i : goal.invariant-loop-i
invariant-loop-i g l = (l.i ≤ length l.older) × (l.j ≤ length l.newer) × (map message_of l.joined.items ++ zipped (map message_of (drop l.i l.older)) (map message_of (drop l.j l.newer)) ≡ zipped (map message_of l.older) (map message_of l.newer))

abbrev pub decreases-loop-i : goal.decreases-loop-i
decreases-loop-i g l = (length l.older - l.i) + (length l.newer - l.j)
