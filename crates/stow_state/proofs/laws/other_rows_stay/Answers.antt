use Rattle.stow_state.proofs.Rows.{other_rows_stay_law}
use Rattle.stow_state.proofs.laws.other_rows_stay.Goals as goal

pub returns : goal.returns
returns c = other_rows_stay_law
