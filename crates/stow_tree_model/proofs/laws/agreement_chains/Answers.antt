use Rattle.stow_tree_model.proofs.SetLemmas.{agreement_chains_law}
use Rattle.stow_tree_model.proofs.laws.agreement_chains.Goals as goal

pub returns : goal.returns
returns c = agreement_chains_law
