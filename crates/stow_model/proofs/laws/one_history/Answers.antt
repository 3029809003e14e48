use Rattle.stow_model.proofs.OneHistory.{one_history_lem}
use Rattle.stow_model.proofs.laws.one_history.Goals as goal

pub returns : goal.returns
returns c = one_history_lem
