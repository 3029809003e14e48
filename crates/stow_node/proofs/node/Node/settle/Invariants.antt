use Rattle.stow_node.proofs.Regrouped.{IsSettling}
use Rattle.stow_node.proofs.node.Node.settle.Given as goal

abbrev pub invariant-loop-groups : goal.invariant-loop-groups
invariant-loop-groups g l = IsSettling l.fn.self l.fn.room l.self l.room l.groups

abbrev pub decreases-loop-groups : goal.decreases-loop-groups
decreases-loop-groups g l = l.groups
