use Rattle.std.proofs.Common.{sym, subst}
use Rattle.stow_core.specs.State.{CoreState, Keeps}
use Rattle.stow_core.proofs.Carried.{core_of}
use Rattle.stow_core.proofs.Kept.{core_rooted, keeps_rooted}
use Rattle.stow_core.proofs.Stores.{tight_index}
use Rattle.stow_model.specs.Login.{IsTenant}
use Rattle.stow_core.proofs.RowLengths.{kept_lengths}
use Rattle.stow_core.proofs.Core.rows_within.Goals as goal

pub first_rows-requires-clause-index : goal.first_rows-requires-clause-index
first_rows-requires-clause-index g c = tight_index _ c.self.inside.pins c.args.interval.tenant c.self.invariant.0 (subst (λ (s : CoreState). IsTenant s.entries c.args.interval.tenant) (sym c.self.view_is) c.requires.is_tenant)

pub invariant_of-self : goal.invariant_of-self
invariant_of-self g c = (core_rooted _ c.self.inside.pins c.self.invariant.0 c.first_rows.new.tree c.first_rows.ensures.same.root, kept_lengths _ _ c.self.inside.lengths (keeps_rooted _ c.self.inside.pins c.self.invariant.0 c.first_rows.new.tree c.first_rows.ensures.same.root) c.self.invariant.1)

pub invariant_of-self-2 : goal.invariant_of-self-2
invariant_of-self-2 g c = (core_rooted _ c.self.inside.pins c.self.invariant.0 c.first_rows.new.tree c.first_rows.ensures.same.root, kept_lengths _ _ c.self.inside.lengths (keeps_rooted _ c.self.inside.pins c.self.invariant.0 c.first_rows.new.tree c.first_rows.ensures.same.root) c.self.invariant.1)

pub returns-in_err-items-clause-keeps : goal.returns-in_err-items-clause-keeps
returns-in_err-items-clause-keeps g c = subst (λ s. Keeps s (core_of c.self.inside.tenants.value c.self.inside.tenancies.items c.self.inside.pin_room c.first_rows.new.tree)) c.self.view_is
    (keeps_rooted _ c.self.inside.pins c.self.invariant.0 c.first_rows.new.tree c.first_rows.ensures.same.root)

pub returns-clause-keeps : goal.returns-clause-keeps
returns-clause-keeps g c = subst (λ s. Keeps s (core_of c.self.inside.tenants.value c.self.inside.tenancies.items c.self.inside.pin_room c.first_rows.new.tree)) c.self.view_is
    (keeps_rooted _ c.self.inside.pins c.self.invariant.0 c.first_rows.new.tree c.first_rows.ensures.same.root)
