use Rattle.stow_node.proofs.node.Node.+plan_own.Given as goal

abbrev pub decreases-plan_own : goal.decreases-plan_own
decreases-plan_own g l = goal.size-plan_own g l
