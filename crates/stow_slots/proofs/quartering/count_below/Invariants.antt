use Rattle.std.proofs.Common.{◌+◌, ◌≤◌, length}
use Rattle.stow_slots.proofs.quartering.count_below.Given as goal

abbrev pub invariant-loop-left : goal.invariant-loop-left
invariant-loop-left g l = l.low + l.left ≤ length l.entries

abbrev pub decreases-loop-left : goal.decreases-loop-left
decreases-loop-left g l = l.left
