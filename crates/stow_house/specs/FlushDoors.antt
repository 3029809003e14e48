-- What is done at a flusher's door.
use Rattle.std.specs.Prelude.{ℕ, length, Option, Some, None, Result, Ok, Err}
use Rattle.stow_core.specs.StowMerge.declared.flush_job.FlushJob.{FlushJob}
use Rattle.stow_core.specs.StowNode.declared.installed.Installed.{Installed}

pub data Flushing : Type 0 where
  -- a flush was planned, and of how many messages its job is, if there is one
  Planned : Option ℕ → Flushing
  -- the result of a job came, and this became of it
  Came : Installed → Flushing
  -- memory was refused to either
  Refused : Flushing

-- of how many messages a job is, if there is one
abbrev pub message_count : {A : Type 0} → Option (FlushJob A) → Option ℕ
message_count None = None
message_count (Some job) = Some (length job.batch.messages)

-- what a plan did, by its answer
abbrev pub planned : {A E : Type 0} → Result (Option (FlushJob A)) E → Flushing
planned (Ok job) = Planned (message_count job)
planned (Err refused) = Refused

-- what an install did, by its answer
abbrev pub installed : {E : Type 0} → Result Installed E → Flushing
installed (Ok told) = Came told
installed (Err back) = Refused
