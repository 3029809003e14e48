use Rattle.std.proofs.Common.{subst, sym}
use Rattle.stow_core.specs.State.{Keeps}
use Rattle.stow_core.proofs.Kept.{keeps_itself}
use Rattle.stow_core.proofs.Core.hold_back.Goals as goal

pub returns-then-is_ok : goal.returns-then-is_ok
returns-then-is_ok g c = subst (Keeps c.args.self.now) (sym c.fill.ensures) (keeps_itself c.args.self.now c.is_tenant-known.ensures.sound)

pub returns : goal.returns
returns g c = subst (Keeps c.args.self.now) (sym c.fill-2.ensures) (subst (λ s. Keeps s c.drain.new.self) c.fill.ensures c.drain.ensures)
