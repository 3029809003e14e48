use Rattle.stow_state.proofs.Steps.{two_shared_runs_law}
use Rattle.stow_state.proofs.laws.two_shared_runs.Goals as goal

pub returns : goal.returns
returns c = two_shared_runs_law
