use Rattle.stow_tree_model.proofs.PackedOrder.{packed_in_order_law}
use Rattle.stow_tree_model.proofs.laws.packed_in_order.Goals as goal

pub returns : goal.returns
returns c = packed_in_order_law
