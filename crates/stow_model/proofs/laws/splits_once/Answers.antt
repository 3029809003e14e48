use Rattle.stow_model.proofs.Spelling.{splits_once_lem}
use Rattle.stow_model.proofs.laws.splits_once.Goals as goal

pub returns : goal.returns
returns c = splits_once_lem
