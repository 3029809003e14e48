use Rattle.stow_core.proofs.Told.{AreTold}
use Rattle.stow_core.proofs.ranging.items_of.Given as goal

abbrev pub invariant-loop-index : goal.invariant-loop-index
invariant-loop-index g l = AreTold l.rows l.index l.items
