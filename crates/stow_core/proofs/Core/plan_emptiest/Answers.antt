use Rattle.std.proofs.Common.{subst}
use Rattle.stow_core.specs.State.{Keeps}
use Rattle.stow_core.proofs.Carried.{core_of}
use Rattle.stow_core.proofs.Kept.{core_same, keeps_same}
use Rattle.stow_core.proofs.RowLengths.{kept_lengths}
use Rattle.stow_core.proofs.Core.plan_emptiest.Goals as goal

pub invariant_of-self : goal.invariant_of-self
invariant_of-self g c = (core_same _ c.self.inside.pins c.self.invariant.0 c.plan.new.self c.plan.ensures.same c.plan.ensures.moves.shape, kept_lengths _ _ c.self.inside.lengths (keeps_same _ c.self.inside.pins c.self.invariant.0 c.plan.new.self c.plan.ensures.same) c.self.invariant.1)

pub returns : goal.returns
returns g c = subst (λ s. Keeps s (core_of c.self.inside.tenants.value c.self.inside.tenancies.items c.self.inside.pin_room c.plan.new.self)) c.self.view_is
    (keeps_same _ c.self.inside.pins c.self.invariant.0 c.plan.new.self c.plan.ensures.same)
