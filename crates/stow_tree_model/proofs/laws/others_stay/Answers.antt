use Rattle.stow_tree_model.proofs.SetLemmas.{others_stay_law}
use Rattle.stow_tree_model.proofs.laws.others_stay.Goals as goal

pub returns : goal.returns
returns c = others_stay_law
