-- What a core says of a flush job, by what the job holds.
use Rattle.std.specs.Prelude.{◌≢◌, []}
use Rattle.stow_dropping.specs.StowNode.Installs.{IsFresh}
use Rattle.stow_dropping.specs.StowNode.Jobs.{JobState}
use Rattle.stow_dropping.specs.StowNode.Nodes.{AreAmong}
use Rattle.stow_dropping.specs.StowNode.Subtree.{buffered}
use Rattle.stow_ledger.specs.StowState.State.{pins_in}
use Rattle.stow_core.specs.State.{CoreState, shared_of}

-- the result of the job can be installed in the core as it is, under the numbers of live snapshots
abbrev pub TakesJob : CoreState → JobState → Type 0
TakesJob core job = IsFresh core.tree.root job (pins_in (shared_of core))

-- it can't
abbrev pub IsStale : CoreState → JobState → Type 0
IsStale core job = ¬ (TakesJob core job)

-- a job of the core as it is: it has messages, all of them buffered, and could be installed
pub record IsPlan (core : CoreState) (job : JobState) : Type 0 where
  pub some : job.batch ≢ []
  pub among : AreAmong job.batch (buffered core.tree.root)
  pub can : TakesJob core job
