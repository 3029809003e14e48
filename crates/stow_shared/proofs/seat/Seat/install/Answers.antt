use Rattle.stow_shared.proofs.Legal.{keeps_itself}
use Rattle.stow_shared.proofs.seat.Seat.install.Goals as goal

pub returns-in-Err-clause-keeps : goal.returns-in-Err-clause-keeps
returns-in-Err-clause-keeps g c = keeps_itself c.args.core.now c.requires
