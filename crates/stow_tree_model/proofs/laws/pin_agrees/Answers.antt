use Rattle.stow_tree_model.proofs.SetLemmas.{pin_agrees_law}
use Rattle.stow_tree_model.proofs.laws.pin_agrees.Goals as goal

pub returns : goal.returns
returns c = pin_agrees_law
