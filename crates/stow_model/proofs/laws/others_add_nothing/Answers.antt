use Rattle.stow_model.proofs.Alone.{others_add_nothing_lem}
use Rattle.stow_model.proofs.laws.others_add_nothing.Goals as goal

pub returns : goal.returns
returns c = others_add_nothing_lem
