use Rattle.std.proofs.Common.{◌+◌, refl, ap, sym, ◌∙◌}
use Rattle.stow_core.specs.Tenancies.{tenancy_of}
use Rattle.stow_core.proofs.Stores.{last_stored}
use Rattle.stow_core.proofs.Core.next_number.Goals as goal

pub returns : goal.returns
returns g c = ap (λ n. n + 1) (c.last.ensures.value ∙ sym (last_stored c.args.self.now c.args.self.now c.args.tenant (tenancy_of c.tenancy.result.now) refl c.tenancy.ensures.own))
