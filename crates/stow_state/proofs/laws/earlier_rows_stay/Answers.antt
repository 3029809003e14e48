use Rattle.stow_state.proofs.Changes.{earlier_rows_stay_law}
use Rattle.stow_state.proofs.laws.earlier_rows_stay.Goals as goal

pub returns : goal.returns
returns c = earlier_rows_stay_law
