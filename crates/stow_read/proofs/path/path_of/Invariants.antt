use Rattle.std.proofs.Common.{map}
use Rattle.stow_tree_model.specs.TreeMessage.{message_of}
use Rattle.stow_read.proofs.Gathered.{IsGathering}
use Rattle.stow_read.proofs.path.path_of.Given as goal

abbrev pub invariant-loop-messages : goal.invariant-loop-messages
invariant-loop-messages g l = IsGathering l.node l.here l.fn.key.bytes.now (map message_of l.messages.items)

abbrev pub decreases-loop-messages : goal.decreases-loop-messages
decreases-loop-messages g l = l.here.height
