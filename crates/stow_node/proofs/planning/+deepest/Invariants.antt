use Rattle.stow_node.proofs.Deepest.{IsDeepestOf}
use Rattle.stow_node.proofs.planning.+deepest.Given as goal

abbrev pub invariant-loop-i : goal.invariant-loop-i
invariant-loop-i g l = IsDeepestOf l.children l.i l.deepest
