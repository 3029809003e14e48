use Rattle.stow_tree_model.proofs.Latest.{own_operations_only_law}
use Rattle.stow_tree_model.proofs.laws.own_operations_only.Goals as goal

pub returns : goal.returns
returns c = own_operations_only_law
