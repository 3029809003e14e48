use Rattle.std.proofs.Common.{subst, sym, ◌∙◌}
use Rattle.stow_core.specs.State.{Keeps}
use Rattle.stow_core.proofs.Kept.{keeps_itself}
use Rattle.stow_core.proofs.Core.drain.Goals as goal

pub returns-then-not-is_due : goal.returns-then-not-is_due
returns-then-not-is_due g c = subst (Keeps c.args.self.now) (sym c.is_due.ensures) (keeps_itself c.args.self.now c.is_tenant-known.ensures.sound)

pub returns : goal.returns
returns g c = subst (λ s. Keeps s c.flush_all.new.self) (c.give_up.ensures ∙ c.is_due.ensures) c.flush_all.ensures
