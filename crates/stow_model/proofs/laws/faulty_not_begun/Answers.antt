use Rattle.stow_model.proofs.OneHistory.{faulty_not_begun_lem}
use Rattle.stow_model.proofs.laws.faulty_not_begun.Goals as goal

pub returns : goal.returns
returns c = faulty_not_begun_lem
