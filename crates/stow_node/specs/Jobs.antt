-- Jobs of flushes by what they hold, whatever allocator they have their memory from.
use Rattle.std.specs.Prelude.{ℕ, List}
use Rattle.stow_leaves.specs.StowMerge.Pins.{pins_in}
use Rattle.stow_leaves.specs.StowMerge.declared.flush_job.FlushJob.{FlushJob}
use Rattle.stow_tree_model.specs.Agreement.{TenantPins}
use Rattle.stow_tree_model.specs.TreeMessage.{TreeMessage}
use Rattle.stow_tree_model.specs.Version.{Version}

pub record JobState : Type 0 where
  -- the leaf's rows, and the lowest key that it may hold
  pub page : List Version
  pub low_fence : List ℕ
  -- the bytes of a page that leaves are cut by
  pub leaf_target : ℕ
  -- the messages that stood above the leaf
  pub batch : List TreeMessage
  -- the pins of the plan
  pub pins : TenantPins

abbrev pub job_state : {A : Type 0} → FlushJob A → JobState
job_state job = record {
  page = job.page;
  low_fence = job.target.low_fence;
  leaf_target = job.target.leaf_target;
  batch = job.batch.messages;
  pins = pins_in job.pins;
}
