use Rattle.stow_state.proofs.Steps.{steps_after_maintenance_law}
use Rattle.stow_state.proofs.laws.steps_after_maintenance.Goals as goal

pub returns : goal.returns
returns c = steps_after_maintenance_law
