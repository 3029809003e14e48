use Rattle.stow_tree_model.proofs.SetLemmas.{higher_bounds_agree_law}
use Rattle.stow_tree_model.proofs.laws.higher_bounds_agree.Goals as goal

pub returns : goal.returns
returns c = higher_bounds_agree_law
