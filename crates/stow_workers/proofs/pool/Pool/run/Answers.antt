use Rattle.stow_workers.proofs.Flushed.{none_flushed}
use Rattle.stow_workers.proofs.Workers.{same_up_to, no_calls}
use Rattle.stow_workers.proofs.pool.Pool.run.Goals as goal

pub returns-in_default-clause-back : goal.returns-in_default-clause-back
returns-in_default-clause-back g c = same_up_to _ _ _ (no_calls _) (none_flushed _) _
