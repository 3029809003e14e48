use Rattle.stow_core.proofs.Kept.{keeps_itself, keeps_then}
use Rattle.stow_core.proofs.Core.flush_all.Goals as goal

pub loop-init : goal.loop-init
loop-init g c = keeps_itself c.args.self.now c.is_tenant-known.ensures.sound

pub returns-then-not-flush : goal.returns-then-not-flush
returns-then-not-flush g c = keeps_then _ _ _ c.loop.invariant c.flush.ensures

pub loop-preserved : goal.loop-preserved
loop-preserved g c = keeps_then _ _ _ c.loop.invariant c.flush.ensures
