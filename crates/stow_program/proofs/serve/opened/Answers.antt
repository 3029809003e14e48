use Rattle.std.proofs.Common.{◌≡◌, ◌∙◌}
use Rattle.std.specs.Arc.{arc_value}
use Rattle.stow_program.proofs.Services.{ok_holds, opened_so}
use Rattle.stow_program.proofs.serve.opened.Goals as goal

pub returns-in-Ok-clause-ok : goal.returns-in-Ok-clause-ok
returns-in-Ok-clause-ok g c =
    let whole : arc_value c.in_ok-tenants.tenants ≡ c.args.tenants = ok_holds _ (λ lent. arc_value lent ≡ c.args.tenants) c.new.result c.in_ok-tenants.tenants c.in_ok-tenants.ensures.cases c.new.ensures.ok in
    opened_so _ _ _ _ _ _ _ c.in_ok-core.ensures.empty (c.in_ok-core.ensures.entries ∙ whole) c.in_ok-core.ensures.tree c.saturating_add-count.ensures c.in-Ok.ensures.opened
