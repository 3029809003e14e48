use Rattle.stow_tree_model.proofs.Ordered.{in_order_once_law}
use Rattle.stow_tree_model.proofs.laws.in_order_once.Goals as goal

pub returns : goal.returns
returns c = in_order_once_law
