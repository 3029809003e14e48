use Rattle.stow_state.proofs.Steps.{step_is_there_law}
use Rattle.stow_state.proofs.laws.step_is_there.Goals as goal

pub returns : goal.returns
returns c = step_is_there_law
