use Rattle.stow_workers.proofs.Workers.{no_calls}
use Rattle.stow_workers.proofs.workplace.Workplace.serve_next.Goals as goal

pub returns-in_default : goal.returns-in_default
returns-in_default g c = no_calls _ _
