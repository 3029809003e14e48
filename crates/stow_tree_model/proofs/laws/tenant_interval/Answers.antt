use Rattle.stow_tree_model.proofs.PackedOrder.{tenant_interval_law}
use Rattle.stow_tree_model.proofs.laws.tenant_interval.Goals as goal

pub returns : goal.returns
returns c = tenant_interval_law
