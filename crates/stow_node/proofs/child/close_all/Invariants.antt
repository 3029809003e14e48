use Rattle.stow_node.specs.Moves.{AreReallocated}
use Rattle.stow_node.proofs.child.close_all.Given as goal

abbrev pub invariant-loop-i : goal.invariant-loop-i
invariant-loop-i g l = AreReallocated l.fn.children l.children
