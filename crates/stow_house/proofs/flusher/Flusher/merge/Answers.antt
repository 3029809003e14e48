use Rattle.std.proofs.Common.{rules, ◌≡◌, ap, sym, ◌∙◌}
use Rattle.stow_core.specs.StowNode.Jobs.{job_state}
use Rattle.stow_house.specs.Flushers.{held, HasJob}
use Rattle.stow_house.proofs.flusher.Flusher.merge.Goals as goal

pub returns-in-Err : goal.returns-in-Err
returns-in-Err g c =
    let had = ap held c.in-Planned.ensures.value in
    let same : c.in-Err.job ≡ c.in-Planned.job = search rules in
    (job_state c.in-Planned.job, sym had, ap (λ job. HasJob (job_state job)) same ∙ had)
