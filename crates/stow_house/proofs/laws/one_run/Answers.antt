use Rattle.stow_house.proofs.Runs.{one_run}
use Rattle.stow_house.proofs.laws.one_run.Goals as goal

pub returns : goal.returns
returns c = one_run c.one_history.ensures
