use Rattle.stow_workers.specs.Pools.{GivesBack, HasCalled, IsFlusherOf, IsWorkerOf}
use Rattle.stow_workers.specs.Flushes.{HasFlushed}
use Rattle.stow_shared.specs.Seats.{SeatFlushes}
use Rattle.stow_workers.proofs.Workers.{then_up_to}
use Rattle.stow_workers.proofs.pool.fn.serve.scope.Goals as goal
use Rattle.stow_workers.proofs.pool.fn.serve.scope.Goals.{in-Some, in-None}

pub returns : goal.returns
returns g c =
    let keeps = g.J.Journal.keeps in
    record {
      back = then_up_to _ (IsWorkerOf keeps) (IsFlusherOf keeps) (GivesBack keeps) (HasCalled keeps) (HasFlushed (SeatFlushes keeps)) (λ x y z is back. back.called x is) (λ x y z is back. back.flushed x is) _ _ _ c.start_all-workers.ensures.each c.join_all.ensures;
      accepted = elim c.match-senders.branch [ in-Some w ↦ rw w.accepted-is w.accept-accepted.ensures | in-None w ↦ rw w.accepted-is tt ];
    }
