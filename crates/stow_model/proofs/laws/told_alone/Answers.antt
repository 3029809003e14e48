use Rattle.stow_model.proofs.Alone.{told_alone_lem}
use Rattle.stow_model.proofs.laws.told_alone.Goals as goal

pub returns : goal.returns
returns c = told_alone_lem
