use Rattle.stow_node.proofs.node.Node.+ease_below.Given as goal

abbrev pub decreases-ease_below : goal.decreases-ease_below
decreases-ease_below g l = goal.size-ease_below g l
