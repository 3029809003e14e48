use Rattle.stow_node.proofs.node.Node.+plan_below.Given as goal

abbrev pub decreases-plan_below : goal.decreases-plan_below
decreases-plan_below g l = goal.size-plan_below g l
