use Rattle.std.proofs.Common.{◌-◌}
use Rattle.stow_node.specs.Nodes.{parts_of}
use Rattle.stow_node.specs.Parts.{LiesBetween}
use Rattle.stow_node.proofs.child.child_within.Given as goal

abbrev pub invariant-loop-end : goal.invariant-loop-end
invariant-loop-end g l = LiesBetween (parts_of l.children) l.fn.key.bytes.now l.at l.end

abbrev pub decreases-loop-end : goal.decreases-loop-end
decreases-loop-end g l = l.end - l.at
