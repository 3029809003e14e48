use Rattle.stow_tree_model.proofs.Merges.{pruned_agrees_law}
use Rattle.stow_tree_model.proofs.laws.pruned_agrees.Goals as goal

pub returns : goal.returns
returns c = pruned_agrees_law
