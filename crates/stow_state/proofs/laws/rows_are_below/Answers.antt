use Rattle.stow_state.proofs.Changes.{rows_are_below_law}
use Rattle.stow_state.proofs.laws.rows_are_below.Goals as goal

pub returns : goal.returns
returns c = rows_are_below_law
