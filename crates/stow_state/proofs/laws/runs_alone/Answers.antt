use Rattle.stow_state.proofs.Steps.{runs_alone_law}
use Rattle.stow_state.proofs.laws.runs_alone.Goals as goal

pub returns : goal.returns
returns c = runs_alone_law
