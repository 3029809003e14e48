use Rattle.stow_model.proofs.Spelling.{spelled_once_lem}
use Rattle.stow_model.proofs.laws.spelled_once.Goals as goal

pub returns : goal.returns
returns c = spelled_once_lem
