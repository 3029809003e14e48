use Rattle.std.proofs.Common.{◌*◌, ◌≤◌, ap, ◌∙◌, sym, subst}
use Rattle.stow_core.specs.State.{store_of}
use Rattle.stow_ledger.specs.Accounts.{AccountState}
use Rattle.stow_model.specs.Reply as reply
use Rattle.stow_model.specs.Store.{usage_items}
use Rattle.stow_core.proofs.Used.{reported_counted, rows_charged}
use Rattle.stow_core.proofs.Core.usage_reply.Goals as goal

pub report-usage-requires : goal.report-usage-requires
report-usage-requires g c = subst (λ (a : AccountState). 16 * a.rows ≤ a.charge) (sym c.served.ensures) (rows_charged (store_of c.args.self.now c.args.tenant) c.tenancy-tenancy.result.now.account c.tenancy-tenancy.ensures.account)

pub returns : goal.returns
returns g c = ap (λ items. reply.Array items) (c.in_ok-items.ensures ∙ ap usage_items (c.report-usage.ensures.usage
    ∙ reported_counted c.args.self.now c.args.tenant c.tenancy-tenancy.result.now c.tenancy-tenancy.ensures.own _ c.served.ensures c.tenancy-tenancy.ensures.account))
