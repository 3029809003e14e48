use Rattle.stow_workers.proofs.Flushed.{none_flushed, flushed_on, of_wake}
use Rattle.stow_workers.proofs.flushing.flush_loop.Goals as goal

pub loop-init : goal.loop-init
loop-init g c = none_flushed _ _

pub loop-preserved : goal.loop-preserved
loop-preserved g c = flushed_on _ _ _ _ c.loop.invariant (of_wake _ _ _ c.serve_wake.ensures)

pub loop-preserved-then-serve_wake : goal.loop-preserved-then-serve_wake
loop-preserved-then-serve_wake g c = flushed_on _ _ _ _ c.loop.invariant (of_wake _ _ _ c.serve_wake.ensures)
