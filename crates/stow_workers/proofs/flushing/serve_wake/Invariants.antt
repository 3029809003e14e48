use Rattle.stow_workers.proofs.Flushed.{HasGoneOn}
use Rattle.stow_workers.proofs.flushing.serve_wake.Given as goal

-- all flushes so far were whole
abbrev pub invariant-loop : goal.invariant-loop
invariant-loop g l = HasGoneOn g.D.FlushDoor.flushes l.initial.door l.counter l.door
