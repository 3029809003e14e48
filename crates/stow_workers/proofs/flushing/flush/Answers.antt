use Rattle.std.proofs.Common.{Ok, ap, ◌∙◌, rules}
use Rattle.stow_workers.proofs.Flushed.{unplanned, unmerged, merged, uninstalled}
use Rattle.stow_workers.proofs.flushing.flush.Goals as goal

pub returns-in_default : goal.returns-in_default
returns-in_default g c = unplanned _ _ _ _ c.plan.ensures (λ job at. search rules)

pub returns-in_default-2 : goal.returns-in_default-2
returns-in_default-2 g c = unplanned _ _ _ _ c.plan.ensures (λ job at. search rules)

pub returns-in_default-merge : goal.returns-in_default-merge
returns-in_default-merge g c = unmerged _ _ _ _ c.in-Ok-Some.job (c.in-Ok-Some.is ∙ ap Ok c.in-Ok-Some.field-0-is) c.plan.ensures

pub returns-in-Ok-install : goal.returns-in-Ok-install
returns-in-Ok-install g c = merged _ _ _ _ _ c.in-Ok-Some.job _ _ _ (c.in-Ok-Some.is ∙ ap Ok c.in-Ok-Some.field-0-is) c.plan.ensures c.install.ensures.installs c.in-Ok-install.is c.len-messages.ensures.len

pub returns : goal.returns
returns g c = uninstalled _ _ _ _ _ c.in-Ok-Some.job _ _ (c.in-Ok-Some.is ∙ ap Ok c.in-Ok-Some.field-0-is) c.plan.ensures c.install.ensures.installs c.in-Err.is
