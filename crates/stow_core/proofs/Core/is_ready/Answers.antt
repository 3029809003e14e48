use Rattle.stow_core.proofs.Kept.{keeps_itself}
use Rattle.stow_core.proofs.Core.is_ready.Goals as goal

pub returns-in-Removal-clause-keeps : goal.returns-in-Removal-clause-keeps
returns-in-Removal-clause-keeps g c = keeps_itself c.args.self.now c.is_tenant-known.ensures.sound
