use Rattle.stow_read.specs.Way.{row_ops}
use Rattle.stow_read.proofs.NextNumbers.{IsNextFrom}
use Rattle.stow_read.proofs.way.Way.next_number.Given as goal

abbrev pub invariant-loop-i : goal.invariant-loop-i
invariant-loop-i g l = IsNextFrom l.self.levels.items (row_ops l.self l.fn.key.bytes.now) l.fn.key.bytes.now l.at l.i l.next

abbrev pub decreases-loop-i : goal.decreases-loop-i
decreases-loop-i g l = l.i
