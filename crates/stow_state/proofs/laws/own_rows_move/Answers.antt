use Rattle.stow_state.proofs.Changes.{own_rows_move_law}
use Rattle.stow_state.proofs.laws.own_rows_move.Goals as goal

pub returns : goal.returns
returns c = own_rows_move_law
