use Rattle.std.proofs.Common.{◌-◌, ◌≤◌, length}
use Rattle.stow_tree.proofs.tree.reached.Given as goal

abbrev pub invariant-loop-low : goal.invariant-loop-low
invariant-loop-low g l = (1 ≤ l.low) × ((l.low ≤ l.high) × (l.high ≤ length l.rows))

abbrev pub decreases-loop-low : goal.decreases-loop-low
decreases-loop-low g l = l.high - l.low
