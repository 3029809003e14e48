use Rattle.std.proofs.Common.{◌∙◌}
use Rattle.stow_login.proofs.Named.{found_within}
use Rattle.stow_login.proofs.tenants.Tenants.find.Goals as goal

pub returns-clause-tenant : goal.returns-clause-tenant
returns-clause-tenant g c = found_within _ c.args.self.now c.args.name.now c.get.result c.self.view_is (c.get.ensures ∙ c.self.invariant.named c.args.name.now)
