use Rattle.stow_state.proofs.Changes.{writes_are_written_law}
use Rattle.stow_state.proofs.laws.writes_are_written.Goals as goal

pub returns : goal.returns
returns c = writes_are_written_law
