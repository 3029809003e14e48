use Rattle.stow_state.proofs.Steps.{steps_by_parts_law}
use Rattle.stow_state.proofs.laws.steps_by_parts.Goals as goal

pub returns : goal.returns
returns c = steps_by_parts_law
