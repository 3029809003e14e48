use Rattle.std.proofs.Common.{subst, sym}
use Rattle.stow_core.specs.State.{Keeps}
use Rattle.stow_core.proofs.Kept.{keeps_itself}
use Rattle.stow_core.proofs.Core.makes_way.Goals as goal

pub returns-in-Removal-clause-keeps : goal.returns-in-Removal-clause-keeps
returns-in-Removal-clause-keeps g c = subst (Keeps c.args.self.now) (sym c.give_up.ensures) c.drain-in-Removal.ensures

pub returns-in-Read-clause-keeps : goal.returns-in-Read-clause-keeps
returns-in-Read-clause-keeps g c = keeps_itself c.args.self.now c.is_tenant-known.ensures.sound
