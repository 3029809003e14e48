use Rattle.std.proofs.Common.{rules}
use Rattle.stow_workers.proofs.Workers.{flushed_at_the_seat}
use Rattle.stow_workers.proofs.workplace.Workplace.flush.Goals as goal

pub returns : goal.returns
returns g c = flushed_at_the_seat (λ desk. desk.seat.ghost_name) (λ desk. desk.seat.now) _ _ _ _ c.flush_loop.ensures (λ same. search rules)
