use Rattle.stow_node.proofs.node.Node.+install_below.Given as goal

abbrev pub decreases-install_below : goal.decreases-install_below
decreases-install_below g l = goal.size-install_below g l
