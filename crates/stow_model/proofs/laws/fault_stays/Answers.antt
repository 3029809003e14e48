use Rattle.stow_model.proofs.Spelling.{fault_stays_lem}
use Rattle.stow_model.proofs.laws.fault_stays.Goals as goal

pub returns : goal.returns
returns c = fault_stays_lem
