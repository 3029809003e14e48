use Rattle.stow_read.proofs.Walked.{IsLeading}
use Rattle.stow_read.proofs.leaf_for.leaf_for.Given as goal

abbrev pub invariant-loop-leaf : goal.invariant-loop-leaf
invariant-loop-leaf g l = IsLeading l.node l.here l.key.bytes.now

abbrev pub decreases-loop-leaf : goal.decreases-loop-leaf
decreases-loop-leaf g l = l.here.height
