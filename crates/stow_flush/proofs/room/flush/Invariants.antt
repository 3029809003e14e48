use Rattle.stow_node.specs.StowMerge.Pins.{pins_in}
use Rattle.stow_flush.specs.Rooms.{FlushesForRoom}
use Rattle.stow_flush.proofs.Making.{IsMaking}
use Rattle.stow_flush.proofs.room.flush.Given as goal

abbrev pub invariant-loop-alloc : goal.invariant-loop-alloc
invariant-loop-alloc g l = IsMaking (pins_in l.fn.pins) l.fn.root l.root l.fn.cache l.cache l.fn.spare.capacity l.spare.capacity × FlushesForRoom g.row.A.Denot l.bytes (pins_in l.fn.pins) l.fn.root l.root l.fn.cache l.cache

abbrev pub decreases-loop-alloc : goal.decreases-loop-alloc
decreases-loop-alloc g l = l.root.weight
