use Rattle.std.proofs.Common.{rules}
use Rattle.stow_workers.proofs.Workers.{at_the_seat, no_calls}
use Rattle.stow_workers.proofs.workplace.Workplace.serve.Goals as goal

pub returns : goal.returns
returns g c = at_the_seat (λ desk. desk.desk.seat.ghost_name) (λ desk. desk.desk.seat.now) _ _ _ _ _ c.turn.ensures.1 (λ same. search rules)

pub returns-then-is_lingering : goal.returns-then-is_lingering
returns-then-is_lingering g c = no_calls _ _
