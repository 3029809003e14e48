use Rattle.std.proofs.Common.{length, map, take, ap, ◌∙◌, arith}
use Rattle.std.proofs.lemmas.List.{length-map, length-take}
use Rattle.std.proofs.lemmas.Grind.{common_steps}
use Rattle.stow_core.specs.Tenancies.{new_tenancy, tenancy_of}
use Rattle.stow_core.proofs.Tenancies.{one_more_tenancy, take_all}
use Rattle.stow_core.proofs.new_tenancies.Goals as goal

pub loop-before-preserved : goal.loop-before-preserved
loop-before-preserved g c =
    ap (map tenancy_of) c.in_ok-push.ensures.items
    ∙ one_more_tenancy c.args.tenants.now c.loop-before.before c.quota.result c.loop-before.made.items c.new.result (grind (arith, common_steps)) c.quota.ensures.quota c.new.ensures.versions c.new.ensures.account c.loop-before.invariant

pub returns-clause-each : goal.returns-clause-each
returns-clause-each g c = c.loop-before.invariant ∙ ap (map new_tenancy) (take_all c.args.tenants.now c.loop-before.before (grind (arith, common_steps)))

pub returns-clause-few : goal.returns-clause-few
returns-clause-few g c =
    let made = length-map c.loop-before.made.items tenancy_of in
    let each = ap length c.loop-before.invariant ∙ length-map (take c.loop-before.before c.args.tenants.now) new_tenancy in
    let most = length-take c.loop-before.before c.args.tenants.now in
    omega (arith, made, each, most)
