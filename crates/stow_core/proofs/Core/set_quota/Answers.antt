use Rattle.std.proofs.Common.{rules}
use Rattle.stow_core.proofs.Carried.{give}
use Rattle.stow_model.specs.Login.{IsTenant}
use Rattle.stow_core.proofs.RowLengths.{still_lengths}
use Rattle.std.proofs.Common.{refl}
use Rattle.stow_core.proofs.Core.set_quota.Goals as goal

pub invariant_of-self : goal.invariant_of-self
invariant_of-self g c =
    let is : IsTenant c.args.self.now.entries c.args.tenant = c.is_tenant.ensures.is.0 (search rules) in
    let carried = give c.self.inside.tenants.value c.self.inside.tenancies.items c.self.inside.pin_room c.self.inside.tree c.self.inside.pins c.args.self.now c.args.tenant c.index_mut.result.now c.set_quota.new.self
    c.self.view_is c.self.invariant.0 is c.index_mut.ensures.value c.args.quota c.set_quota.ensures.versions c.set_quota.ensures.account in
    (carried.keeps, still_lengths _ _ _ c.args.tenant c.self.inside.pins c.self.inside.lengths c.self.view_is _ carried (λ s. refl) (λ s. refl) c.self.invariant.1)

pub returns : goal.returns
returns g c =
    let is : IsTenant c.args.self.now.entries c.args.tenant = c.is_tenant.ensures.is.0 (search rules) in
    record {
      own = λ _. (give c.self.inside.tenants.value c.self.inside.tenancies.items c.self.inside.pin_room c.self.inside.tree c.self.inside.pins c.args.self.now c.args.tenant c.index_mut.result.now c.set_quota.new.self
          c.self.view_is c.self.invariant.0 is c.index_mut.ensures.value c.args.quota c.set_quota.ensures.versions c.set_quota.ensures.account).moves;
      stranger = λ unknown. absurd (unknown is);
    }
