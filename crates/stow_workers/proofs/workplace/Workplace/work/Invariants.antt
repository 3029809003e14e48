use Rattle.stow_workers.specs.Pools.{HasCalled}
use Rattle.stow_workers.proofs.workplace.Workplace.work.Given as goal

-- what the turns so far did to the seat
abbrev pub invariant-loop : goal.invariant-loop
invariant-loop g l = HasCalled g.J.Journal.keeps l.fn.seat l.seat
