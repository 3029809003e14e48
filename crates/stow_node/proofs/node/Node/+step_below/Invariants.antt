use Rattle.stow_node.proofs.node.Node.+step_below.Given as goal

abbrev pub decreases-step_below : goal.decreases-step_below
decreases-step_below g l = goal.size-step_below g l
