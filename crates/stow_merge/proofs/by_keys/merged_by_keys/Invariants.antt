use Rattle.std.proofs.Common.{map, length, ◌-◌}
use Rattle.stow_merge.specs.Pins.{pins_in}
use Rattle.stow_page.specs.StowTreeModel.TreeMessage.{message_of}
use Rattle.stow_merge.proofs.Going.{IsMergedUpTo}
use Rattle.stow_merge.proofs.by_keys.merged_by_keys.Given as goal

abbrev pub invariant-loop-next : goal.invariant-loop-next
invariant-loop-next g l = IsMergedUpTo l.rows (map message_of l.batch) (pins_in l.pins) l.packed l.from l.next

abbrev pub decreases-loop-next : goal.decreases-loop-next
decreases-loop-next g l = length l.batch - l.next
