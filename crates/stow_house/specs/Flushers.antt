-- What a flusher has, and what each of its events makes of it and of the core.
use Rattle.std.specs.Prelude.{◌≡◌, ◌≢◌, ◌⊎◌, ℕ, Option, Some, None}
use Rattle.std.specs.Ordering.{nat_cmp}
use Rattle.std.specs.BTreeMap.{BTreeMap, get}
use Rattle.stow_core.specs.Flushing.{IsDrained}
use Rattle.stow_core.specs.Jobs.{IsPlan, IsStale}
use Rattle.stow_core.specs.StowNode.Jobs.{JobState, job_state}
use Rattle.stow_core.specs.State.{CoreState, Keeps}
use Rattle.stow_core.specs.StowNode.Installs.{BatchIsGone}
use Rattle.stow_core.specs.StowTree.TreeState.{IsRead, tree_messages}
use Rattle.stow_house.specs.declared.flusher.Flusher.{Flusher}
use Rattle.stow_house.specs.declared.flusher.Flusher.TheVariants as coded
use Rattle.stow_house.specs.StepResult.{StepResult, Done, Job, NoJob, Installed, Stale, Refused, NoMemory}

pub data FlusherState : Type 0 where
  -- it has no job
  Free : FlusherState
  -- it has this job, which isn't merged
  HasJob : JobState → FlusherState
  -- it has the result of this job
  HasResult : JobState → FlusherState

abbrev pub held : {A : Type 0} → Flusher A → FlusherState
held coded.Idle = Free
held (coded.Planned job) = HasJob (job_state job)
held (coded.Merged merge) = HasResult (job_state merge.job)

abbrev pub held_by : {A : Type 0} → Option (Flusher A) → FlusherState
held_by None = Free
held_by (Some flusher) = held flusher

-- what the flusher of this number has
abbrev pub flusher_at : {A : Type 0} → BTreeMap ℕ (Flusher A) → ℕ → FlusherState
flusher_at flushers f = held_by (get nat_cmp flushers f)

-- ---- a plan

-- the flusher got a job of the core as it is then
pub record GetsJob (old new : FlusherState) (before after : CoreState) : Type 0 where
  pub free : old ≡ Free
  pub some : ¬ (IsDrained before)
  pub job : JobState
  pub planned : IsPlan after job
  pub has : new ≡ HasJob job
  pub keeps : Keeps before after

-- the flusher got none, since no buffer held a message
pub record GetsNoJob (old new : FlusherState) (before after : CoreState) : Type 0 where
  pub free : old ≡ Free
  pub none : IsDrained before
  pub still : new ≡ Free
  pub keeps : Keeps before after

-- memory was refused: the flusher has no job, no store moved, and all messages mean what they did
pub record WantsRoom (old new : FlusherState) (before after : CoreState) : Type 0 where
  pub free : old ≡ Free
  pub still : new ≡ Free
  pub core : (after ≡ before) ⊎ Keeps before after
  pub messages : tree_messages after.tree ≡ tree_messages before.tree

-- nothing changed
pub record Stays (old new : FlusherState) (before after : CoreState) : Type 0 where
  pub flusher : new ≡ old
  pub core : after ≡ before

-- what a plan that is answered so makes of its flusher and of the core
abbrev pub PlansJob : StepResult → FlusherState → FlusherState → CoreState → CoreState → Type 0
PlansJob Job old new before after = GetsJob old new before after
PlansJob NoJob old new before after = GetsNoJob old new before after
PlansJob Refused old new before after = (old ≢ Free) × Stays old new before after
PlansJob NoMemory old new before after = WantsRoom old new before after
PlansJob _ old new before after = ⊥

-- ---- a merge

-- what a merge that is answered so makes of its flusher
abbrev pub MergesJob : StepResult → FlusherState → FlusherState → Type 0
MergesJob Done old new = (job : JobState) × (old ≡ HasJob job) × (new ≡ HasResult job)
MergesJob Refused old new = ((job : JobState) → old ≢ HasJob job) × (new ≡ old)
MergesJob NoMemory old new = (job : JobState) × (old ≡ HasJob job) × (new ≡ old)
MergesJob _ old new = ⊥

-- ---- an install

-- the result of this job came into the core
pub record TakesResult (job : JobState) (new : FlusherState) (before after : CoreState)
    : Type 0 where
  pub fresh : ¬ (IsStale before job)
  pub gone : BatchIsGone job.batch after.tree.root
  pub free : new ≡ Free
  pub keeps : Keeps before after

-- the result of this job was stale
pub record DropsResult (job : JobState) (new : FlusherState) (before after : CoreState)
    : Type 0 where
  pub stale : IsStale before job
  pub free : new ≡ Free
  pub core : after ≡ before

-- memory was refused, and no message moved
pub record KeepsResult (job : JobState) (new : FlusherState) (before after : CoreState)
    : Type 0 where
  pub still : new ≡ HasResult job
  pub read : IsRead before.tree after.tree
  pub keeps : Keeps before after

-- what an install that is answered so makes of its flusher and of the core
abbrev pub InstallsResult : StepResult → FlusherState → FlusherState → CoreState → CoreState
    → Type 0
InstallsResult Installed old new before after =
    (job : JobState) × (old ≡ HasResult job) × TakesResult job new before after
InstallsResult Stale old new before after =
    (job : JobState) × (old ≡ HasResult job) × DropsResult job new before after
InstallsResult Refused old new before after =
    ((job : JobState) → old ≢ HasResult job) × Stays old new before after
InstallsResult NoMemory old new before after =
    (job : JobState) × (old ≡ HasResult job) × KeepsResult job new before after
InstallsResult _ old new before after = ⊥
