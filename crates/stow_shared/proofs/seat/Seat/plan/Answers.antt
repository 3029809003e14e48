use Rattle.stow_shared.proofs.Legal.{keeps_itself}
use Rattle.stow_shared.proofs.seat.Seat.plan.Goals as goal

pub returns-in_err-reserve-clause-keeps : goal.returns-in_err-reserve-clause-keeps
returns-in_err-reserve-clause-keeps g c = keeps_itself c.args.core.now c.requires
