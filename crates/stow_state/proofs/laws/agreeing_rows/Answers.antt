use Rattle.stow_state.proofs.Rows.{agreeing_rows_law}
use Rattle.stow_state.proofs.laws.agreeing_rows.Goals as goal

pub returns : goal.returns
returns c = agreeing_rows_law
