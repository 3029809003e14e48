use Rattle.std.proofs.Common.{map}
use Rattle.std.specs.Vec.{vec_len}
use Rattle.stow_leaf.specs.LeafRows.{leaf_rows}
use Rattle.stow_leaf.specs.StowMerge.Pins.{pins_in}
use Rattle.stow_leaves.proofs.GivenWay.{AreGivingWay}
use Rattle.stow_leaves.proofs.absorbing.all_merged.Given as goal

abbrev pub invariant-loop-leaf : goal.invariant-loop-leaf
invariant-loop-leaf g l = AreGivingWay (map leaf_rows l.fn.leaves.items) (map leaf_rows l.leaves.items) (map leaf_rows l.fresh.items) l.end.bytes.now l.buffer.messages (pins_in l.pins) l.target l.fn.cache l.cache

abbrev pub decreases-loop-leaf : goal.decreases-loop-leaf
decreases-loop-leaf g l = vec_len l.leaves
