-- An event of a flusher that does something to a job is a step of the house.
use Rattle.std.proofs.Common.{◌≡◌, ◌≢◌, ◌↔◌, ℕ, refl, sym, ◌∙◌, ⊎_elim}
use Rattle.stow_core.specs.Flushing.{TakesResultOf}
use Rattle.stow_core.specs.State.{CoreState, Keeps}
use Rattle.stow_core.specs.StowMerge.declared.flush_result.FlushResult.{FlushResult}
use Rattle.stow_core.specs.StowNode.Installs.{BatchIsGone}
use Rattle.stow_core.specs.StowNode.Jobs.{JobState, job_state}
use Rattle.stow_core.specs.StowNode.declared.installed.Installed.{Installed}
use Rattle.stow_core.specs.StowNode.declared.installed.Installed.TheVariants as in_place
use Rattle.stow_model.specs.Event as event
use Rattle.stow_house.specs.Flushers.{FlusherState, Free, HasJob, HasResult, TakesResult, DropsResult, PlansJob, MergesJob, InstallsResult}
use Rattle.stow_house.specs.StepResult as answer
use Rattle.stow_house.specs.StepResult.{StepResult, Done, Job, NoJob, Stale, Refused, NoMemory, MayPlan, MayMerge, MayInstall}
use Rattle.stow_house.specs.Steps.{HouseState, OtherFlushersStay, IsStepOf}
use Rattle.stow_house.proofs.Stood.{IsKept, kept_by, kept_as, flushed}

-- ---- what becomes of a result

pub took_result : {A : Type 0} (before after : CoreState) (merge : FlushResult A) (x : Installed) → x ≡ in_place.Done → (x ≡ in_place.Stale ↔ ¬ (TakesResultOf before merge.job)) → (x ≡ in_place.Done → BatchIsGone merge.job.batch.messages after.tree.root) → Keeps before after
    → TakesResult (job_state merge.job) Free before after
took_result before after merge x is stale done keeps = record {
  fresh = λ was. apart (sym is ∙ stale.1 was);
  gone = done is;
  free = refl;
  keeps = keeps;
}
  where
    apart : in_place.Done ≡ in_place.Stale → ⊥
    apart e = cc

pub dropped_result : {A : Type 0} (before after : CoreState) (merge : FlushResult A) (x : Installed) → x ≡ in_place.Stale → (x ≡ in_place.Stale ↔ ¬ (TakesResultOf before merge.job)) → (x ≡ in_place.Stale → after ≡ before) → DropsResult (job_state merge.job) Free before after
dropped_result before after merge x is stale unmoved = record { stale = stale.0 is; free = refl; core = unmoved is }

-- ---- what may be answered

pub may_plan : (r : StepResult) (old new : FlusherState) (before after : CoreState) → PlansJob r old new before after → MayPlan r
may_plan Job old new before after p = tt
may_plan NoJob old new before after p = tt
may_plan Refused old new before after p = tt
may_plan NoMemory old new before after p = tt
may_plan _ old new before after p = absurd p

pub may_merge : (r : StepResult) (old new : FlusherState) → MergesJob r old new → MayMerge r
may_merge Done old new p = tt
may_merge Refused old new p = tt
may_merge NoMemory old new p = tt
may_merge _ old new p = absurd p

pub may_install : (r : StepResult) (old new : FlusherState) (before after : CoreState) → InstallsResult r old new before after → MayInstall r
may_install answer.Installed old new before after p = tt
may_install Stale old new before after p = tt
may_install Refused old new before after p = tt
may_install NoMemory old new before after p = tt
may_install _ old new before after p = absurd p

-- ---- no store moves

plan_keeps : (r : StepResult) (old new : FlusherState) (before after : CoreState) → PlansJob r old new before after → IsKept before after
plan_keeps Job old new before after p = kept_by before after p.keeps
plan_keeps NoJob old new before after p = kept_by before after p.keeps
plan_keeps Refused old new before after p = kept_as before after p.1.core
plan_keeps NoMemory old new before after p = ⊎_elim (kept_as before after) (kept_by before after) p.core
plan_keeps _ old new before after p = absurd p

install_keeps : (r : StepResult) (old new : FlusherState) (before after : CoreState) → InstallsResult r old new before after → IsKept before after
install_keeps answer.Installed old new before after p = kept_by before after p.2.keeps
install_keeps Stale old new before after p = kept_as before after p.2.core
install_keeps Refused old new before after p = kept_as before after p.1.core
install_keeps NoMemory old new before after p = kept_by before after p.2.keeps
install_keeps _ old new before after p = absurd p

-- ---- the house

pub plan_steps : (old new : HouseState) (f : ℕ) (r : StepResult) → ((d : ℕ) → new.seen d ≡ old.seen d) → OtherFlushersStay f old new
    → PlansJob r (old.flusher f) (new.flusher f) old.core new.core → IsStepOf old (event.By (event.Plan f)) r new
plan_steps old new f r seen others p =
    flushed old new (event.Plan f) r (may_plan r (old.flusher f) (new.flusher f) old.core new.core p) seen (plan_keeps r (old.flusher f) (new.flusher f) old.core new.core p) (p, others)

pub merge_steps : (old new : HouseState) (f : ℕ) (r : StepResult) → ((d : ℕ) → new.seen d ≡ old.seen d) → OtherFlushersStay f old new → new.core ≡ old.core
    → MergesJob r (old.flusher f) (new.flusher f) → IsStepOf old (event.By (event.Merge f)) r new
merge_steps old new f r seen others core p =
    flushed old new (event.Merge f) r (may_merge r (old.flusher f) (new.flusher f) p) seen (kept_as old.core new.core core) (p, others, core)

pub install_steps : (old new : HouseState) (f : ℕ) (r : StepResult) → ((d : ℕ) → new.seen d ≡ old.seen d) → OtherFlushersStay f old new
    → InstallsResult r (old.flusher f) (new.flusher f) old.core new.core → IsStepOf old (event.By (event.Install f)) r new
install_steps old new f r seen others p =
    flushed old new (event.Install f) r (may_install r (old.flusher f) (new.flusher f) old.core new.core p) seen (install_keeps r (old.flusher f) (new.flusher f) old.core new.core p) (p, others)

-- ---- without a place there is no job

pub no_job : (s : FlusherState) → s ≡ Free → (job : JobState) → s ≢ HasJob job
no_job s free job is = differ (sym free ∙ is) where
  differ : Free ≡ HasJob job → ⊥
  differ e = cc

pub no_result : (s : FlusherState) → s ≡ Free → (job : JobState) → s ≢ HasResult job
no_result s free job is = differ (sym free ∙ is) where
  differ : Free ≡ HasResult job → ⊥
  differ e = cc
