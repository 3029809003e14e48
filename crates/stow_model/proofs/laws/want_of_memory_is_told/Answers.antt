use Rattle.stow_model.proofs.Refused.{want_of_memory_lem}
use Rattle.stow_model.proofs.laws.want_of_memory_is_told.Goals as goal

pub returns : goal.returns
returns c = want_of_memory_lem
