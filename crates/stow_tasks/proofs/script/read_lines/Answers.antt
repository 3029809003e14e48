use Rattle.std.proofs.Common.{ap, ◌∙◌}
use Rattle.stow_workers.specs.StowCore.State.{CoreState}
use Rattle.stow_tasks.proofs.Telling.{lines_of_tenants}
use Rattle.stow_tasks.proofs.script.read_lines.Goals as goal

pub returns-clause-tenants : goal.returns-clause-tenants
returns-clause-tenants g c =
    lines_of_tenants _ _ c.args.text.now c.read_script.result (c.deref.ensures ∙ c.tenants.ensures ∙ ap (λ (core : CoreState). core.entries) c.core.ensures) c.read_script.ensures
