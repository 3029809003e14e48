use Rattle.stow_core.proofs.Kept.{keeps_then}
use Rattle.stow_core.proofs.Core.flush.Goals as goal

pub returns : goal.returns
returns g c = keeps_then _ _ _ c.plan_emptiest.ensures c.install.ensures.keeps
