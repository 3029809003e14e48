use Rattle.stow_node.proofs.installing.+spot.Given as goal

abbrev pub decreases-has_spot : goal.decreases-has_spot
decreases-has_spot g l = goal.size-has_spot g l
