use Rattle.std.proofs.Common.{ap, ◌∙◌, sym}
use Rattle.stow_model.specs.Store.{Store}
use Rattle.stow_core.specs.Tenancies.{tenancy_of}
use Rattle.stow_ledger.specs.StowState.Rows.{rows_at}
use Rattle.stow_dropping.specs.StowTree.TreeState.{tree_messages}
use Rattle.stow_core.proofs.Stores.{stored}
use Rattle.stow_core.proofs.Core.present.Goals as goal

pub returns-clause-rows : goal.returns-clause-rows
returns-clause-rows g c =
    ap (rows_at (tree_messages c.args.self.now.tree) c.args.tenant) c.last.ensures.value
    ∙ sym (ap (λ (s : Store). s.rows) (stored c.args.self.now c.args.tenant (tenancy_of c.tenancy.result.now) c.tenancy.ensures.own))
