use Rattle.std.proofs.Common.{◌≤◌, sym, ◌∙◌, subst}
use Rattle.std.specs.Prelude.{◌||◌, ◌==◌}
use Rattle.stow_core.proofs.Carried.{take, ready_to, has_pin_room, few_pins, low_pins, held_before, last_of}
use Rattle.stow_versions.specs.VersionsState.{IsReady}
use Rattle.stow_core.proofs.RowLengths.{still_lengths}
use Rattle.std.proofs.Common.{refl}
use Rattle.stow_core.proofs.Core.take.Goals as goal

pub add_pin-requires-clause-room : goal.add_pin-requires-clause-room
add_pin-requires-clause-room g c =
    has_pin_room c.self.inside.tenants.value c.self.inside.tenancies.items c.self.inside.pin_room c.self.inside.tree c.self.inside.pins c.args.self.now c.args.tenant c.index.result.now c.index.result.now c.self.view_is c.self.invariant.0 c.requires.is_tenant c.index.ensures c.requires.pin_room

pub add_pin-requires-clause-few : goal.add_pin-requires-clause-few
add_pin-requires-clause-few g c =
    few_pins c.self.inside.tenants.value c.self.inside.tenancies.items c.self.inside.pin_room c.self.inside.tree c.self.inside.pins c.args.self.now c.args.tenant c.index.result.now c.index.result.now c.self.view_is c.self.invariant.0 c.requires.is_tenant c.index.ensures
    (ready_to c.self.inside.tenants.value c.self.inside.tenancies.items c.self.inside.pin_room c.self.inside.tree c.self.inside.pins c.args.self.now c.args.tenant c.index.result.now c.index.result.now c.self.view_is c.self.invariant.0 c.requires.is_tenant c.index.ensures IsReady c.requires.ready)

pub add_pin-requires-clause-above : goal.add_pin-requires-clause-above
add_pin-requires-clause-above g c = λ p h. subst (λ n. p ≤ n) (sym c.last-last.ensures.value)
    (low_pins c.self.inside.tenants.value c.self.inside.tenancies.items c.self.inside.pin_room c.self.inside.tree c.self.inside.pins c.args.self.now c.args.tenant c.index.result.now c.index.result.now c.self.view_is c.self.invariant.0 c.requires.is_tenant c.index.ensures c.last-last.ensures.kept p h)

pub take-requires : goal.take-requires
take-requires g c =
    ready_to c.self.inside.tenants.value c.self.inside.tenancies.items c.self.inside.pin_room c.self.inside.tree c.self.inside.pins c.args.self.now c.args.tenant c.index_mut.result.now c.index_mut.result.now c.self.view_is c.self.invariant.0 c.requires.is_tenant c.index_mut.ensures.value IsReady c.requires.ready

pub invariant_of-self : goal.invariant_of-self
invariant_of-self g c =
    let other = last_of c.self.inside.tenants.value c.self.inside.tenancies.items c.self.inside.pin_room c.self.inside.tree c.self.inside.pins c.args.self.now c.args.tenant c.index.result.now c.index.result.now c.self.view_is c.self.invariant.0 c.requires.is_tenant c.index.ensures in
    let last = last_of c.self.inside.tenants.value c.self.inside.tenancies.items c.self.inside.pin_room c.self.inside.tree c.self.inside.pins c.args.self.now c.args.tenant c.index_mut.result.now c.index_mut.result.now c.self.view_is c.self.invariant.0 c.requires.is_tenant c.index_mut.ensures.value in
    let held = held_before c.self.inside.tenants.value c.self.inside.tenancies.items c.self.inside.pin_room c.self.inside.tree c.self.inside.pins c.args.self.now c.args.tenant c.index_mut.result.now c.take.new.self c.self.view_is c.self.invariant.0 c.requires.is_tenant c.index_mut.ensures.value in
    let carried = take c.self.inside.tenants.value c.self.inside.tenancies.items c.self.inside.pin_room c.self.inside.tree c.self.inside.pins c.args.self.now c.args.tenant c.index_mut.result.now c.take.new.self
    c.self.view_is c.self.invariant.0 c.requires.is_tenant c.index_mut.ensures.value c.add_pin.new.pins
    (λ n. c.add_pin.ensures.own n ∙ (λ i. held n i || ((c.last-last.ensures.value ∙ sym other ∙ last) i == n)) ∙ sym (c.take.ensures.numbers n))
    c.add_pin.ensures.others c.take.ensures.versions c.take.ensures.account in
    (carried.keeps, still_lengths _ _ _ c.args.tenant c.add_pin.new.pins c.self.inside.lengths c.self.view_is _ carried (λ s. refl) (λ s. refl) c.self.invariant.1)

pub returns : goal.returns
returns g c =
    let other = last_of c.self.inside.tenants.value c.self.inside.tenancies.items c.self.inside.pin_room c.self.inside.tree c.self.inside.pins c.args.self.now c.args.tenant c.index.result.now c.index.result.now c.self.view_is c.self.invariant.0 c.requires.is_tenant c.index.ensures in
    let last = last_of c.self.inside.tenants.value c.self.inside.tenancies.items c.self.inside.pin_room c.self.inside.tree c.self.inside.pins c.args.self.now c.args.tenant c.index_mut.result.now c.index_mut.result.now c.self.view_is c.self.invariant.0 c.requires.is_tenant c.index_mut.ensures.value in
    let held = held_before c.self.inside.tenants.value c.self.inside.tenancies.items c.self.inside.pin_room c.self.inside.tree c.self.inside.pins c.args.self.now c.args.tenant c.index_mut.result.now c.take.new.self c.self.view_is c.self.invariant.0 c.requires.is_tenant c.index_mut.ensures.value in
    (take c.self.inside.tenants.value c.self.inside.tenancies.items c.self.inside.pin_room c.self.inside.tree c.self.inside.pins c.args.self.now c.args.tenant c.index_mut.result.now c.take.new.self
    c.self.view_is c.self.invariant.0 c.requires.is_tenant c.index_mut.ensures.value c.add_pin.new.pins
    (λ n. c.add_pin.ensures.own n ∙ (λ i. held n i || ((c.last-last.ensures.value ∙ sym other ∙ last) i == n)) ∙ sym (c.take.ensures.numbers n))
    c.add_pin.ensures.others c.take.ensures.versions c.take.ensures.account).moves
