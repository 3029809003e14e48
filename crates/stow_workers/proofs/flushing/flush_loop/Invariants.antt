use Rattle.stow_workers.specs.Flushes.{HasFlushed}
use Rattle.stow_workers.proofs.flushing.flush_loop.Given as goal

-- what the wakes so far led to
abbrev pub invariant-loop : goal.invariant-loop
invariant-loop g l = HasFlushed g.D.FlushDoor.flushes l.initial.door l.door
