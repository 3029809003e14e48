use Rattle.stow_tree_model.proofs.Pruning.{pruned_exactly_law}
use Rattle.stow_tree_model.proofs.laws.pruned_exactly.Goals as goal

pub returns : goal.returns
returns c = pruned_exactly_law
