use Rattle.stow_workers.proofs.Workers.{no_calls}
use Rattle.stow_workers.proofs.workplace.Workplace.work_with.Goals as goal

pub returns-in-None : goal.returns-in-None
returns-in-None g c = no_calls _ _
