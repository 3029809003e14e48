use Rattle.std.proofs.Common.{◌∙◌}
use Rattle.stow_core.proofs.Used.{reported}
use Rattle.stow_core.proofs.Core.usage.Goals as goal

pub returns : goal.returns
returns g c = c.report.ensures.usage ∙ reported c.args.self.now c.args.tenant c.tenancy-tenancy.result.now c.tenancy-tenancy.ensures.own c.tenancy-tenancy.ensures.account
