use Rattle.stow_node.specs.Nodes.{parts_of}
use Rattle.stow_read.proofs.NextBelow.{IsClear}
use Rattle.stow_read.proofs.next_key.+next_key.Given as goal

abbrev pub decreases-next_key : goal.decreases-next_key
decreases-next_key g l = goal.size-next_key g l

abbrev pub invariant-loop-i : goal.invariant-loop-i
invariant-loop-i g l = IsClear (parts_of l.children) l.fn.start.key.bytes.now l.fn.start.after l.end.bytes.now l.first l.i
