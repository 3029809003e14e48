use Rattle.stow_read.specs.Suffixes.{suffixes_of}
use Rattle.stow_read.proofs.Walked.{IsWalking}
use Rattle.stow_read.proofs.getting.walk.Given as goal

abbrev pub invariant-loop-base : goal.invariant-loop-base
invariant-loop-base g l = IsWalking l.node l.here l.fn.key.bytes.now l.at (suffixes_of l.fn.suffixes) (suffixes_of l.suffixes)

abbrev pub decreases-loop-base : goal.decreases-loop-base
decreases-loop-base g l = l.here.height
