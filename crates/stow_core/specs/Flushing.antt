-- What a flush outside the lock asks of the core.
use Rattle.std.specs.Prelude.{◌≡◌, []}
use Rattle.stow_dropping.specs.StowMerge.declared.flush_job.FlushJob.{FlushJob}
use Rattle.stow_dropping.specs.StowNode.Jobs.{job_state}
use Rattle.stow_dropping.specs.StowNode.Subtree.{buffered}
use Rattle.stow_core.specs.Jobs.{TakesJob, IsPlan}
use Rattle.stow_core.specs.State.{CoreState}

-- no buffer holds a message
abbrev pub IsDrained : CoreState → Type 0
IsDrained core = buffered core.tree.root ≡ []

-- the job's result can be installed in the core as it is
abbrev pub TakesResultOf : {A : Type 0} → CoreState → FlushJob A → Type 0
TakesResultOf core job = TakesJob core (job_state job)

-- a job of the core as it is
abbrev pub IsPlannedFrom : {A : Type 0} → CoreState → FlushJob A → Type 0
IsPlannedFrom core job = IsPlan core (job_state job)
