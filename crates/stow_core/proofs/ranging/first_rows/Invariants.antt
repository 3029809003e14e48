use Rattle.stow_dropping.specs.StowTree.TreeState.{IsRead}
use Rattle.stow_core.proofs.ranging.first_rows.Given as goal

abbrev pub invariant-loop-index : goal.invariant-loop-index
invariant-loop-index g l = IsRead l.fn.tree l.tree
