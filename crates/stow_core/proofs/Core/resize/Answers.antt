use Rattle.std.proofs.Common.{subst}
use Rattle.stow_core.specs.State.{Keeps}
use Rattle.stow_core.proofs.Carried.{core_of}
use Rattle.stow_core.proofs.Kept.{core_rooted, keeps_rooted}
use Rattle.stow_core.proofs.RowLengths.{kept_lengths}
use Rattle.stow_core.proofs.Core.resize.Goals as goal

pub invariant_of-self : goal.invariant_of-self
invariant_of-self g c = (core_rooted _ c.self.inside.pins c.self.invariant.0 c.resize.new.self c.resize.ensures.root, kept_lengths _ _ c.self.inside.lengths (keeps_rooted _ c.self.inside.pins c.self.invariant.0 c.resize.new.self c.resize.ensures.root) c.self.invariant.1)

pub returns-clause-keeps : goal.returns-clause-keeps
returns-clause-keeps g c = subst (λ s. Keeps s (core_of c.self.inside.tenants.value c.self.inside.tenancies.items c.self.inside.pin_room c.resize.new.self)) c.self.view_is
    (keeps_rooted _ c.self.inside.pins c.self.invariant.0 c.resize.new.self c.resize.ensures.root)
