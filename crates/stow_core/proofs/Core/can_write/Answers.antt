use Rattle.std.proofs.Common.{nat_lt, refl, ap, sym, ◌∙◌}
use Rattle.stow_bytes.specs.Limits.{number_limit}
use Rattle.stow_core.specs.Tenancies.{tenancy_of}
use Rattle.stow_core.proofs.Stores.{last_stored}
use Rattle.stow_core.proofs.Core.can_write.Goals as goal

pub returns : goal.returns
returns g c = ap (λ n. nat_lt n number_limit) (c.last.ensures.value ∙ sym (last_stored c.args.self.now c.args.self.now c.args.tenant (tenancy_of c.tenancy.result.now) refl c.tenancy.ensures.own))
