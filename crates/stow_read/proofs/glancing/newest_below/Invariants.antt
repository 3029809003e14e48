use Rattle.stow_read.proofs.Glanced.{HasNoneSoFar}
use Rattle.stow_read.proofs.glancing.newest_below.Given as goal

abbrev pub invariant-loop-leaf : goal.invariant-loop-leaf
invariant-loop-leaf g l = HasNoneSoFar l.node l.here l.key.bytes.now l.at

abbrev pub decreases-loop-leaf : goal.decreases-loop-leaf
decreases-loop-leaf g l = l.here.height
