use Rattle.stow_model.proofs.Places.{fault_once_lem}
use Rattle.stow_model.proofs.laws.fault_once.Goals as goal

pub returns : goal.returns
returns c = fault_once_lem
