use Rattle.stow_state.proofs.Steps.{call_is_own_step_law}
use Rattle.stow_state.proofs.laws.call_is_own_step.Goals as goal

pub returns : goal.returns
returns c = call_is_own_step_law
