-- What a flush job stands for.
use Rattle.std.specs.Prelude.{List}
use Rattle.stow_page.specs.StowTreeModel.Merged.{merged}
use Rattle.stow_page.specs.StowTreeModel.Version.{Version}
use Rattle.stow_merge.specs.Pages.{ArePagesOf}
use Rattle.stow_merge.specs.Pins.{pins_in}
use Rattle.stow_merge.specs.declared.flush_job.FlushJob.{FlushJob}

-- the versions that the job's merge keeps
abbrev pub merged_by : {A : Type 0} → FlushJob A → List Version
merged_by job = merged job.page job.batch.messages (pins_in job.pins)

-- the pages hold these versions, cut by the job's target
abbrev pub IsMergeOf : {A : Type 0} → FlushJob A → List (List Version) → Type 0
IsMergeOf job pages = ArePagesOf (merged_by job) job.target.leaf_target pages
