use Rattle.std.proofs.Common.{length}
use Rattle.stow_leaves.specs.StowMerge.Pins.{pins_in}
use Rattle.stow_node.proofs.Rising.{IsRising}
use Rattle.stow_node.proofs.node.Node.step.Given as goal

abbrev pub invariant-loop-alloc : goal.invariant-loop-alloc
invariant-loop-alloc g l = IsRising (pins_in l.pins) l.fn.self l.self l.room l.fn.cache l.cache

abbrev pub decreases-loop-alloc : goal.decreases-loop-alloc
decreases-loop-alloc g l = length l.room.came.items
