use Rattle.stow_state.proofs.Snapshots.{numbers_move_law}
use Rattle.stow_state.proofs.laws.numbers_move.Goals as goal

pub returns : goal.returns
returns c = numbers_move_law
