use Rattle.std.proofs.Common.{ap, sym, subst}
use Rattle.stow_core.specs.StowNode.Jobs.{job_state}
use Rattle.stow_house.specs.Flushers.{held, TakesResult, DropsResult}
use Rattle.stow_house.proofs.Flushed.{took_result, dropped_result}
use Rattle.stow_house.proofs.flusher.Flusher.install.Goals as goal

pub returns-in-Ok-Done : goal.returns-in-Ok-Done
returns-in-Ok-Done g c =
    let job = job_state c.in-Merged.merge.job in
    let e = c.in-Ok-Done.ensures in (
      job,
      sym (ap held c.in-Merged.ensures.value),
      subst (λ s. TakesResult job s c.args.core.now c.install.new.self) (sym (ap held c.in-Merged.ensures.after))
          (took_result c.args.core.now c.install.new.self c.in-Merged.merge c.in-Ok-Done.field-0 c.in-Ok-Done.field-0-is e.stale e.done c.install.ensures.keeps),
    )

pub returns-in-Ok-Stale : goal.returns-in-Ok-Stale
returns-in-Ok-Stale g c =
    let job = job_state c.in-Merged.merge.job in
    let e = c.in-Ok-Stale.ensures in (
      job,
      sym (ap held c.in-Merged.ensures.value),
      subst (λ s. DropsResult job s c.args.core.now c.install.new.self) (sym (ap held c.in-Merged.ensures.after))
          (dropped_result c.args.core.now c.install.new.self c.in-Merged.merge c.in-Ok-Stale.field-0 c.in-Ok-Stale.field-0-is e.stale e.unmoved),
    )
