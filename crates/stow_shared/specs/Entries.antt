-- What a journal tells: which seat took a step, and what it did.
use Rattle.std.specs.Prelude.{ℕ, Bool, List, map, reverse}
use Rattle.stow_model.specs.Reply.{Reply, reply_of}
use Rattle.stow_house.specs.StowNode.declared.installed.Installed.{Installed}
use Rattle.stow_shared.specs.declared.step.Step as coded_step
use Rattle.stow_shared.specs.declared.step.Step.TheVariants as in_code
use Rattle.stow_shared.specs.declared.entry.Entry as coded_entry

-- what is done whole while the lock is held, with its answer
pub data Step : Type 0 where
  -- the index that called, its words, and what it was told
  Call : ℕ → List (List ℕ) → Reply → Step
  -- the cache was asked to hold so many leaves, and does
  Resize : ℕ → Step
  -- the operator gave the tenant of this index this quota
  Quota : ℕ → ℕ → Step
  -- a flush was planned, and whether there is a job for it
  Plan : Bool → Step
  -- the result of a job came, and this became of it
  Install : Installed → Step

pub record Entry : Type 0 where
  pub seat : ℕ
  pub step : Step

-- a call in an entry
abbrev pub call_entry : ℕ → ℕ → List (List ℕ) → Reply → Entry
call_entry seat tenant words told = record { seat = seat; step = Call tenant words told }

-- a change of the cache's size in an entry
abbrev pub resize_entry : ℕ → ℕ → Entry
resize_entry seat leaves = record { seat = seat; step = Resize leaves }

-- a quota in an entry
abbrev pub quota_entry : ℕ → ℕ → ℕ → Entry
quota_entry seat tenant quota = record { seat = seat; step = Quota tenant quota }

-- a planned flush in an entry
abbrev pub plan_entry : ℕ → Bool → Entry
plan_entry seat has_job = record { seat = seat; step = Plan has_job }

-- a job's result in an entry
abbrev pub install_entry : ℕ → Installed → Entry
install_entry seat told = record { seat = seat; step = Install told }

-- what the code's types stand for, whatever allocator they have their memory from
abbrev pub step_of : {A : Type 0} → coded_step.Step A → Step
step_of (in_code.Call tenant words told) = Call tenant words (reply_of told)
step_of (in_code.Resize leaves) = Resize leaves
step_of (in_code.Quota tenant quota) = Quota tenant quota
step_of (in_code.Plan has_job) = Plan has_job
step_of (in_code.Install told) = Install told

abbrev pub entry_of : {A : Type 0} → coded_entry.Entry A → Entry
entry_of entry = record { seat = entry.seat; step = step_of entry.step }

-- the entries of a list, newest first
abbrev pub entries_of : {A : Type 0} → List (coded_entry.Entry A) → List Entry
entries_of entries = reverse (map entry_of entries)
