use Rattle.stow_model.proofs.Spelling.{taken_are_first_lem}
use Rattle.stow_model.proofs.laws.taken_are_first.Goals as goal

pub returns : goal.returns
returns c = taken_are_first_lem
