use Rattle.stow_node.proofs.Deepest.{IsLowestOf}
use Rattle.stow_node.proofs.planning.deepest_child.Given as goal

abbrev pub invariant-loop-i : goal.invariant-loop-i
invariant-loop-i g l = IsLowestOf l.children l.i l.best l.lowest
