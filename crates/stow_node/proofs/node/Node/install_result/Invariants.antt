use Rattle.std.proofs.Common.{length}
use Rattle.stow_node.proofs.Raising.{IsRaising}
use Rattle.stow_node.proofs.node.Node.install_result.Given as goal

abbrev pub invariant-loop-alloc : goal.invariant-loop-alloc
invariant-loop-alloc g l = IsRaising l.merge.job l.fn.self l.self l.room l.fn.cache l.cache

abbrev pub decreases-loop-alloc : goal.decreases-loop-alloc
decreases-loop-alloc g l = length l.room.came.items
