use Rattle.stow_state.proofs.Rows.{rows_by_value_law}
use Rattle.stow_state.proofs.laws.rows_by_value.Goals as goal

pub returns : goal.returns
returns c = rows_by_value_law
