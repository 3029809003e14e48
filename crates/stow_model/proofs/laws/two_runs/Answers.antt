use Rattle.stow_model.proofs.Alone.{two_runs_lem}
use Rattle.stow_model.proofs.laws.two_runs.Goals as goal

pub returns : goal.returns
returns c = two_runs_lem
