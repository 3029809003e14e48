use Rattle.std.proofs.Common.{◌≡◌, Some, refl, subst}
use Rattle.stow_core.specs.State.{CoreState}
use Rattle.stow_core.specs.Tenancies.{tenancy_at, tenancy_of}
use Rattle.stow_core.proofs.Carried.{roomy_core, roomy_keeps, roomy_ready}
use Rattle.stow_core.proofs.Shown.{cannot_take, on_ok_then}
use Rattle.stow_core.proofs.Stores.{found_own}
use Rattle.stow_core.proofs.RowLengths.{kept_lengths}
use Rattle.stow_core.specs.RowLengths.{AreLengths}
use Rattle.stow_core.proofs.Core.make_snapshot_room.Goals as goal

pub invariant_of-self : goal.invariant_of-self
invariant_of-self g c = (
  roomy_core c.self.inside.tenants.value c.self.inside.tenancies.items c.self.inside.pin_room c.self.inside.tree c.self.inside.pins c.args.self.now c.args.tenant c.index_mut.result.now (record { versions = c.ready.new.self; account = c.index_mut.result.now.account })
      c.self.view_is c.self.invariant.0 c.requires c.index_mut.ensures.value c.ready.ensures.same refl,
  kept_lengths c.args.self.now _ c.self.inside.lengths (roomy_keeps c.self.inside.tenants.value c.self.inside.tenancies.items c.self.inside.pin_room c.self.inside.tree c.self.inside.pins c.args.self.now c.args.tenant c.index_mut.result.now (record { versions = c.ready.new.self; account = c.index_mut.result.now.account })
      c.self.view_is c.self.invariant.0 c.requires c.index_mut.ensures.value c.ready.ensures.same refl) (subst (λ s. AreLengths s c.self.inside.lengths) c.self.view_is c.self.invariant.1),
)

pub returns-clause-keeps : goal.returns-clause-keeps
returns-clause-keeps g c = roomy_keeps c.self.inside.tenants.value c.self.inside.tenancies.items c.self.inside.pin_room c.self.inside.tree c.self.inside.pins c.args.self.now c.args.tenant c.index_mut.result.now (record { versions = c.ready.new.self; account = c.index_mut.result.now.account })
    c.self.view_is c.self.invariant.0 c.requires c.index_mut.ensures.value c.ready.ensures.same refl

pub returns-clause-refused : goal.returns-clause-refused
returns-clause-refused g c =
    let own = subst (λ (s : CoreState). tenancy_at c.args.tenant s.tenancies ≡ Some (tenancy_of c.index_mut.result.now)) c.self.view_is
    (found_own _ c.args.self.now c.self.inside.pins c.self.inside.tenancies.items c.args.tenant c.self.view_is c.self.invariant.0 refl c.requires c.index_mut.result.now c.index_mut.ensures.value) in
    cannot_take c.args.self.now c.args.tenant c.index_mut.result.now own c.ready.result c.ready.ensures.too_many c.ready.ensures.used_up

pub returns-clause-ready : goal.returns-clause-ready
returns-clause-ready g c =
    on_ok_then c.ready.result
    (λ ready. roomy_ready c.self.inside.tenants.value c.self.inside.tenancies.items c.self.inside.pin_room c.self.inside.tree c.self.inside.pins c.args.self.now c.args.tenant c.index_mut.result.now (record { versions = c.ready.new.self; account = c.index_mut.result.now.account })
    c.self.view_is c.self.invariant.0 c.requires c.index_mut.ensures.value c.ready.ensures.same refl ready)
    c.ready.ensures.ready
