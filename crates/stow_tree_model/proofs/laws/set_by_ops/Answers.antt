use Rattle.stow_tree_model.proofs.SetLemmas.{set_by_ops_law}
use Rattle.stow_tree_model.proofs.laws.set_by_ops.Goals as goal

pub returns : goal.returns
returns c = set_by_ops_law
