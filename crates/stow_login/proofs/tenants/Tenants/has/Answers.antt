use Rattle.std.proofs.Common.{is_some, ap, ◌∙◌}
use Rattle.stow_login.proofs.Named.{used_named}
use Rattle.stow_login.proofs.tenants.Tenants.has.Goals as goal

pub returns : goal.returns
returns g c = c.is_some.ensures ∙ ap is_some c.find.ensures.named ∙ used_named c.args.self.now c.args.name.now
