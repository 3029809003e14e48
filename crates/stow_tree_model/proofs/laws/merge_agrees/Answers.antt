use Rattle.stow_tree_model.proofs.Merges.{merge_agrees_law}
use Rattle.stow_tree_model.proofs.laws.merge_agrees.Goals as goal

pub returns : goal.returns
returns c = merge_agrees_law
