use Rattle.stow_core.proofs.Carried.{refuse}
use Rattle.stow_core.proofs.RowLengths.{still_lengths}
use Rattle.std.proofs.Common.{refl}
use Rattle.stow_core.proofs.Core.refuse.Goals as goal

pub invariant_of-self : goal.invariant_of-self
invariant_of-self g c =
    let carried = refuse c.self.inside.tenants.value c.self.inside.tenancies.items c.self.inside.pin_room c.self.inside.tree c.self.inside.pins c.args.self.now c.args.tenant c.index_mut.result.now c.refuse.new.self
    c.self.view_is c.self.invariant.0 c.requires c.index_mut.ensures.value c.refuse.ensures.versions c.refuse.ensures.account in
    (carried.keeps, still_lengths _ _ _ c.args.tenant c.self.inside.pins c.self.inside.lengths c.self.view_is _ carried (λ s. refl) (λ s. refl) c.self.invariant.1)

pub returns : goal.returns
returns g c =
    (refuse c.self.inside.tenants.value c.self.inside.tenancies.items c.self.inside.pin_room c.self.inside.tree c.self.inside.pins c.args.self.now c.args.tenant c.index_mut.result.now c.refuse.new.self
    c.self.view_is c.self.invariant.0 c.requires c.index_mut.ensures.value c.refuse.ensures.versions c.refuse.ensures.account).moves
