-- What the program came to, and what had been read and written by then.
use Rattle.std.specs.Prelude.{◌≡◌, ◌⊎◌, ℕ, List, [], ◌∷◌, ◌++◌, length, codes, Result, Ok, Err, IfErr, IsErr}
use Rattle.std.specs.Fmt.{decimal}
use Rattle.stow_tasks.specs.StowModel.Login.{Entry}
use Rattle.stow_login.specs.NewTenants.{IsAllowed}
use Rattle.stow_login.specs.TenantFile.{entries_of_text}
use Rattle.stow_login.specs.declared.new_tenant.NewTenant.{NewTenant}
use Rattle.stow_run.specs.declared.job.Task.{Task}
use Rattle.stow_run.specs.declared.job.Job.{Job}
use Rattle.stow_run.specs.declared.job.Job.TheVariants as job
use Rattle.stow_run.specs.declared.failure.Failure.{Failure}
use Rattle.stow_run.specs.declared.failure.Failure.TheVariants.{Tenants, InputOutput, Memory}
use Rattle.stow_run.specs.declared.failure.Endpoint.TheVariants as endpoint
use Rattle.stow_tasks.specs.StowWorkers.Failures.{HasFailed}
use Rattle.stow_tasks.specs.StowWorkers.Sent.{Written, WritesAll}
use Rattle.stow_tasks.specs.Ends.{InputFails, IsOfOutput, Unread}
use Rattle.stow_run.specs.Statuses.{status_after}
use Rattle.stow_tasks.specs.Entered.{IsEntered}
use Rattle.stow_tasks.specs.Told.{IsTaskServed}
use Rattle.stow_command_line.specs.Words.{RefusesWords}

-- the tenant file gives no tenants
abbrev pub RefusesTenants : Failure → Type 0
RefusesTenants (Tenants fault reason) = Unit {0}
RefusesTenants (InputOutput (endpoint.File path) error) = Unit {0}
RefusesTenants Memory = Unit {0}
RefusesTenants _ = ⊥

-- connections are served no further; a call of the output failed where it is told so
abbrev pub EndsServing : ℕ → ℕ → Failure → Type 0
EndsServing old new (InputOutput endpoint.Network error) = Unit {0}
EndsServing old new (InputOutput endpoint.Output error) = HasFailed old new
EndsServing old new Memory = Unit {0}
EndsServing old new _ = ⊥

-- the program's input and output, before and after
pub record Streams : Type 0 where
  pub unread : Unread
  pub left : Unread
  pub before : Written
  pub after : Written

abbrev pub streams_of : Unread → Unread → Written → Written → Streams
streams_of unread left before after =
    record { unread = unread; left = left; before = before; after = after }

-- it failed for such a reason before anything was read or written
abbrev pub FailsBefore : (Failure → Type 0) → Streams → Result (Unit {0}) Failure → Type 0
FailsBefore Is s (Ok done) = ⊥
FailsBefore Is s (Err failure) = Is failure × (s.left ≡ s.unread) × (s.after ≡ s.before)

-- the job was done over the tenants of the file, or ended so
abbrev pub IsJobDone : Job → Streams → Result (Unit {0}) Failure → Type 0
IsJobDone (job.Input task) s r = (entries : List Entry)
    × IsTaskServed task entries s.unread s.left s.before s.after r
    × InputFails r s.unread.failures s.left.failures
IsJobDone (job.Serve serving) s r =
    IfErr r (EndsServing s.before.failures s.after.failures) × (s.left ≡ s.unread)

abbrev pub IsJobRun : Job → Streams → Result (Unit {0}) Failure → Type 0
IsJobRun asked s r = FailsBefore RefusesTenants s r ⊎ IsJobDone asked s r

-- a text was written, and nothing was read
abbrev pub IsHelp : Streams → Result (Unit {0}) Failure → Type 0
IsHelp s r = (text : List ℕ) × WritesAll r text s.before s.after × IfErr r IsOfOutput
    × (s.left ≡ s.unread)

-- the entry of a tenant by the rules was written, where salts come from such a source
abbrev pub IsEntryMade : (List ℕ → Type 0) → Streams → Result (Unit {0}) Failure → Type 0
IsEntryMade Gives s r = (tenant : NewTenant) × IsAllowed tenant
    × IsEntered Gives tenant s.unread.bytes s.before s.after r
    × InputFails r s.unread.failures s.left.failures

-- ---- a tenant file that is looked at

-- some text says these tenants
abbrev pub AreOfText : List Entry → Type 0
AreOfText entries = (text : List ℕ) × (entries_of_text text ≡ Ok entries)

-- what is told of a good file
abbrev pub good_text : List Entry → List ℕ
good_text entries = codes "good, tenants: " ++ (decimal (length entries) ++ 10 ∷ [])

-- how many tenants a text says was told, or the file gives none, and nothing was told
abbrev pub IsChecked : Written → Written → Result (Unit {0}) Failure → Type 0
IsChecked old new r = (IfErr r RefusesTenants × IsErr r × (new ≡ old))
    ⊎ ((entries : List Entry) × AreOfText entries × WritesAll r (good_text entries) old new
    × IfErr r IsOfOutput)

-- ---- all of it

-- the words asked for help, a job, an entry or a look at a file, or they are refused
abbrev pub IsProgramRun : (List ℕ → Type 0) → Streams → Result (Unit {0}) Failure → Type 0
IsProgramRun Gives s r = FailsBefore RefusesWords s r ⊎ IsHelp s r
    ⊎ ((asked : Job) × IsJobRun asked s r)
    ⊎ IsEntryMade Gives s r ⊎ (IsChecked s.before s.after r × (s.left ≡ s.unread))

-- the status is that of what the program came to, where salts come from such a source
abbrev pub EndsWith : (List ℕ → Type 0) → Streams → ℕ → Type 0
EndsWith Gives s status = (outcome : Result (Unit {0}) Failure) × IsProgramRun Gives s outcome
    × (status ≡ status_after outcome)
