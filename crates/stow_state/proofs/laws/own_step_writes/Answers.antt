use Rattle.stow_state.proofs.Writes.{own_step_writes_law}
use Rattle.stow_state.proofs.laws.own_step_writes.Goals as goal

pub returns : goal.returns
returns c = own_step_writes_law
