use Rattle.stow_workers.proofs.Workers.{no_calls, calls_on}
use Rattle.stow_workers.proofs.workplace.Workplace.work.Goals as goal

pub loop-init : goal.loop-init
loop-init g c = no_calls _ _

pub loop-preserved : goal.loop-preserved
loop-preserved g c = calls_on _ _ _ _ c.loop.invariant c.serve_due.ensures
