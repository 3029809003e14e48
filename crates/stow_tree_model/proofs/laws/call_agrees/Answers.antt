use Rattle.stow_tree_model.proofs.SetLemmas.{call_agrees_law}
use Rattle.stow_tree_model.proofs.laws.call_agrees.Goals as goal

pub returns : goal.returns
returns c = call_agrees_law
