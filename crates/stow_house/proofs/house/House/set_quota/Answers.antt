use Rattle.std.proofs.Common.{◌≡◌, ◌≤◌, length, refl, ap, ◌∙◌, inl, inr, arith}
use Rattle.stow_house.proofs.Stood.{given, not_given, may_give, may_not}
use Rattle.stow_house.proofs.house.House.set_quota.Goals.{then-tenant-eq0-via-then-tenant-eq0, then-tenant-eq0-via-else-tenant-eq0+then-tenant-count, then-tenant-eq0-via-else-tenant-eq0+else-tenant-count+then-quota-gt-NUMBER_LIMIT}
use Rattle.stow_house.proofs.house.House.set_quota.Goals as goal

pub returns-then-tenant-eq0-clause-steps : goal.returns-then-tenant-eq0-clause-steps
returns-then-tenant-eq0-clause-steps g c =
    let entries = c.args.self.now.core.entries in
    not_given _ c.args.tenant c.args.quota (may_not entries c.args.tenant c.args.quota (elim c.then-tenant-eq0.branch [
      | then-tenant-eq0-via-then-tenant-eq0 w ↦ inl (omega arith)
      | then-tenant-eq0-via-else-tenant-eq0+then-tenant-count w ↦ let all : w.count.result ≡ length entries = w.count.ensures.all ∙ ap length (w.deref.ensures ∙ w.tenants.ensures) in inr (inl (omega arith))
      | then-tenant-eq0-via-else-tenant-eq0+else-tenant-count+then-quota-gt-NUMBER_LIMIT w ↦ inr (inr (omega arith))
    ]))

pub returns-clause-steps : goal.returns-clause-steps
returns-clause-steps g c =
    let entries = c.args.self.now.core.entries in
    let all : c.count.result ≡ length entries = c.count.ensures.all ∙ ap length (c.deref.ensures ∙ c.tenants.ensures) in
    let least : 1 ≤ c.args.tenant = omega arith in
    let most : c.args.tenant ≤ length entries = omega arith in
    given _ _ c.args.tenant c.args.quota (may_give entries c.args.tenant c.args.quota (least, most) (omega arith)) (λ d. refl) (λ f. refl) (c.set_quota.ensures.own (least, most))
