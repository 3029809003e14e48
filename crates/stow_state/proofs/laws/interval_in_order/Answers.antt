use Rattle.stow_state.proofs.Rows.{interval_in_order_law}
use Rattle.stow_state.proofs.laws.interval_in_order.Goals as goal

pub returns : goal.returns
returns c = interval_in_order_law
