use Rattle.std.proofs.Common.{◌≡◌, ◌∙◌, ap}
use Rattle.stow_plain.specs.Contents.{charge_of, is_allowed}
use Rattle.stow_plain.proofs.Kept.{charge_seen, allowed_then, allowed_by_charge, none_allowed}
use Rattle.stow_plain.proofs.plain_contents.PlainContents.is_allowed.Goals as goal

pub returns-then-charge-quota : goal.returns-then-charge-quota
returns-then-charge-quota g c =
    let after : c.in-Some.charge ≡ charge_of (record c.args.self.now { rows = c.args.rows.now }) = charge_seen c.self.inside.rows c.args.rows.now c.self.inside.copies.items c.deref.result.now c.self.inside.next c.in-Some.charge c.args.self.now c.self.invariant c.self.view_is c.deref.ensures.value c.in-Some.ensures.1 in
    allowed_then c.args.quota (charge_of c.args.self.now) c.in-Some.charge c.if-charge-quota.true
    ∙ ap (is_allowed c.args.quota (charge_of c.args.self.now)) after

pub returns-else-charge-quota : goal.returns-else-charge-quota
returns-else-charge-quota g c =
    let after : c.in-Some.charge ≡ charge_of (record c.args.self.now { rows = c.args.rows.now }) = charge_seen c.self.inside.rows c.args.rows.now c.self.inside.copies.items c.deref.result.now c.self.inside.next c.in-Some.charge c.args.self.now c.self.invariant c.self.view_is c.deref.ensures.value c.in-Some.ensures.1 in
    allowed_by_charge c.args.quota c.charge.result c.in-Some.charge c.if-charge-quota.false
    ∙ (λ i. is_allowed c.args.quota (c.charge.ensures.charge i) (after i))

pub returns-in-None : goal.returns-in-None
returns-in-None g c = none_allowed c.self.inside.rows c.args.rows.now c.self.inside.copies.items c.deref.result.now c.self.inside.next c.args.quota c.args.self.now c.self.invariant c.self.view_is c.deref.ensures.value c.ranges.quota.fits c.in-None.ensures
