use Rattle.std.proofs.Common.{◌≡◌, ◌≤◌, length, drop, map}
use Rattle.stow_tree_model.specs.Messages.{set_of, with_all, in_order}
use Rattle.stow_tree_model.specs.TreeMessage.{message_of}
use Rattle.stow_tree_model.proofs.plain.sorting.with_messages.Given as goal

abbrev pub invariant-loop-left : goal.invariant-loop-left
invariant-loop-left g l = (l.left ≤ length l.more) × (map message_of l.sorted.items ≡ in_order (with_all (set_of (map message_of l.fn.first.items)) (map message_of (drop l.left l.more))))

abbrev pub decreases-loop-left : goal.decreases-loop-left
decreases-loop-left g l = l.left
