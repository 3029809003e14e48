-- What a script's lines lead to, and what is written of it.
use Rattle.std.specs.Prelude.{◌≡◌, ℕ, zero, suc, List, [], ◌∷◌, ◌++◌, length, map, Option, Result, Ok, Err, IfSome, ◌⊎◌}
use Rattle.std.specs.Io.KnownBytes.{Appends}
use Rattle.std.specs.declared.vec.Vec.{Vec}
use Rattle.stow_workers.specs.StowHouse.declared.house.House.{House}
use Rattle.stow_workers.specs.StowHouse.StepResult.{StepResult}
use Rattle.stow_workers.specs.StowHouse.Steps.{HouseState, IsStepOf, Stands, state_of}
use Rattle.stow_workers.specs.StowHouse.Outputs.{Told}
use Rattle.stow_workers.specs.StowHouse.Runs.{IsNewHouse, RunsOver}
use Rattle.stow_workers.specs.StowHouse.declared.mark.Mark.{Mark}
use Rattle.stow_login.specs.Entries.{name_of}
use Rattle.stow_workers.specs.StowCore.State.{CoreState, store_of, IsNewCore}
use Rattle.stow_workers.specs.Failures.{HasFailed}
use Rattle.stow_workers.specs.Sent.{Begins, Written, WritesAll, written_of}
use Rattle.stow_run.specs.declared.failure.Failure.{Failure}
use Rattle.stow_run.specs.declared.failure.Failure.TheVariants.{BadLine, InputOutput, Memory}
use Rattle.stow_run.specs.declared.failure.Endpoint.TheVariants as endpoint
use Rattle.stow_model.specs.Event.{Event, event_of}
use Rattle.stow_model.specs.declared.event.Event as coded
use Rattle.stow_model.specs.Login.{Entry, IsTenant}
use Rattle.stow_model.specs.Store.{usage}
use Rattle.stow_run.specs.declared.job.Task.{Task}
use Rattle.stow_run.specs.declared.job.Task.TheVariants as task
use Rattle.stow_workers.specs.StowTree.declared.shape_report.ShapeReport.{ShapeReport}
use Rattle.stow_workers.specs.StowTree.Reports.{IsReport}
use Rattle.stow_tasks.specs.Ends.{Unread}
use Rattle.stow_tasks.specs.Lines.{IsText, shape_text, usage_text}
use Rattle.stow_tasks.specs.Pipes.{IsPiped}
use Rattle.stow_script.specs.Script.{AskFor, Asks, IsFirstBad, Line, Shape, Usage, lines_of}

-- what a tenant uses
abbrev pub usage_of : CoreState → ℕ → List ℕ
usage_of core tenant = usage_text (name_of core.entries tenant) (usage (store_of core tenant))

-- the tenant whom the line is of, if it is of one, is there
abbrev pub IsTenantThere : List Entry → Line → Type 0
IsTenantThere entries (Asks e) = Unit {0}
IsTenantThere entries Shape = Unit {0}
IsTenantThere entries (Usage tenant) = IsTenant entries tenant

-- an event is a step of the house, and its line is that of the answer; the other lines tell how
-- large the house's tree is, and what a tenant uses, and change nothing
abbrev pub LineLeads : Line → HouseState → List ℕ → HouseState → Type 0
LineLeads (Asks e) old text new = (r : StepResult) × IsStepOf old e r new × IsText e r text
LineLeads Shape old text new = (report : ShapeReport) × IsReport old.core.tree report
    × (text ≡ shape_text report) × (new ≡ old)
LineLeads (Usage tenant) old text new = (text ≡ usage_of old.core tenant) × (new ≡ old)

-- what the lines ask for was done one after another, and these are the lines that were told of it
abbrev pub LinesLead : HouseState → List Line → List ℕ → HouseState → Type 0
LinesLead old [] lines new = (lines ≡ []) × (new ≡ old)
LinesLead old (asked ∷ all) lines new = (next : HouseState) × (text : List ℕ) × (later : List ℕ)
    × LineLeads asked old text next × (lines ≡ text ++ 10 ∷ later) × LinesLead next all later new

-- what a line asks for was done
abbrev pub IsLineDone : Line → HouseState → HouseState → Type 0
IsLineDone asked old new = (text : List ℕ) × LineLeads asked old text new

-- .. and was told behind what there was
abbrev pub IsToldLine : Line → HouseState → HouseState → List ℕ → List ℕ → Type 0
IsToldLine asked old new before after = (text : List ℕ) × LineLeads asked old text new
    × (after ≡ before ++ (text ++ 10 ∷ []))

-- a house, and its writer
pub record ScriptState : Type 0 where
  pub house : HouseState
  pub written : Written

abbrev pub progress_of : {A : Type 0} → House A → Option (List ℕ) → ℕ → ScriptState
progress_of house contents failures =
    record { house = state_of house; written = written_of contents failures }

-- all was done, and all lines that tell it were written, at the first try
pub record DoesAll (asked : List Line) (old new : ScriptState) : Type 0 where
  pub lines : List ℕ
  pub leads : LinesLead old.house asked lines new.house
  pub written : Appends old.written.contents new.written.contents lines
  pub failures : new.written.failures ≡ old.written.failures

-- what the first lines ask for was done, and a beginning of what tells it was written
pub record CarriesOutPart (asked : List Line) (old new : ScriptState) : Type 0 where
  pub done : List Line
  pub later : List Line
  pub split : asked ≡ done ++ later
  pub lines : List ℕ
  pub leads : LinesLead old.house done lines new.house
  pub front : List ℕ
  pub begins : Begins front lines
  pub written : Appends old.written.contents new.written.contents front

-- a call of the output failed where it is told so; where memory was refused one may have
abbrev pub EndsTelling : Failure → ℕ → ℕ → Type 0
EndsTelling (InputOutput endpoint.Output error) old new = HasFailed old new
EndsTelling Memory old new = (new ≡ old) ⊎ HasFailed old new
EndsTelling _ old new = ⊥

abbrev pub IsCarriedOut : List Line → ScriptState → ScriptState → Result (Unit {0}) Failure → Type 0
IsCarriedOut asked old new (Ok done) = DoesAll asked old new
IsCarriedOut asked old new (Err failure) =
    EndsTelling failure old.written.failures new.written.failures × CarriesOutPart asked old new

-- nothing was done, and nothing was written
abbrev pub IsIdle : ScriptState → ScriptState → Type 0
IsIdle old new = (new.house ≡ old.house) × (new.written ≡ old.written)

-- all of a reader's bytes are a script that asks for this, of these tenants
abbrev pub IsScript : List Entry → Option (List ℕ) → List Line → Type 0
IsScript entries known asked = (text : List ℕ) × IfSome known (λ bytes. text ≡ bytes)
    × AskFor entries (lines_of text) asked

abbrev pub IsBadScript : List Entry → Option (List ℕ) → ℕ → Type 0
IsBadScript entries known number = (text : List ℕ) × IfSome known (λ bytes. text ≡ bytes)
    × IsFirstBad entries (lines_of text) number

-- what a reader's script leads to: nothing before the whole of it was read
abbrev pub IsScripted : Option (List ℕ) → ScriptState → ScriptState → Result (Unit {0}) Failure
    → Type 0
IsScripted known old new (Ok done) = (asked : List Line)
    × IsScript old.house.core.entries known asked × DoesAll asked old new
IsScripted known old new (Err (BadLine number stumble)) =
    IsBadScript old.house.core.entries known number × IsIdle old new
IsScripted known old new (Err (InputOutput endpoint.Input error)) = IsIdle old new
IsScripted known old new (Err failure) =
    EndsTelling failure old.written.failures new.written.failures × (IsIdle old new
    ⊎ ((asked : List Line) × IsScript old.house.core.entries known asked
    × CarriesOutPart asked old new))

-- ---- what all tenants use

-- the events among what lines ask for
abbrev pub events_in : List Line → List Event
events_in [] = []
events_in (Asks e ∷ asked) = e ∷ events_in asked
events_in (Shape ∷ asked) = events_in asked
events_in (Usage tenant ∷ asked) = events_in asked

-- the events that a script's lines ask for, or the number of its first bad line
abbrev pub AreEventsRead : {A Z : Type 0} → List Entry → List ℕ
    → Result (Vec (coded.Event A) Z) Failure → Type 0
AreEventsRead entries text (Ok events) = (asked : List Line)
    × AskFor entries (lines_of text) asked × (map event_of events.items ≡ events_in asked)
AreEventsRead entries text (Err (BadLine number stumble)) =
    IsFirstBad entries (lines_of text) number
AreEventsRead entries text (Err Memory) = Unit {0}
AreEventsRead entries text (Err _) = ⊥

-- what each of the first tenants uses, a line each
abbrev pub usages_up_to : ℕ → CoreState → List ℕ
usages_up_to zero core = []
usages_up_to (suc n) core = usages_up_to n core ++ (usage_of core (suc n) ++ 10 ∷ [])

-- .. and each tenant, in the file's order
abbrev pub usages_of : CoreState → List ℕ
usages_of core = usages_up_to (length core.entries) core

-- events were run, and what each tenant uses then was written, or a beginning of it
pub record Reports (events : List Event) (old new : ScriptState) (r : Result (Unit {0}) Failure)
    : Type 0 where
  pub told : List Told
  pub marks : List Mark
  pub runs : RunsOver old.house events told marks new.house
  pub written : WritesAll r (usages_of new.house.core) old.written new.written

-- .. or memory was refused, or the output failed
abbrev pub IsReported : List Event → ScriptState → ScriptState → Result (Unit {0}) Failure → Type 0
IsReported events old new (Ok done) = Reports events old new (Ok done)
IsReported events old new (Err failure) =
    EndsTelling failure old.written.failures new.written.failures
    × ((new.written ≡ old.written) ⊎ Reports events old new (Err failure))

-- what a reader's script leads to, where its lines aren't told: nothing before the whole of it was
-- read
abbrev pub IsUsage : Option (List ℕ) → ScriptState → ScriptState → Result (Unit {0}) Failure
    → Type 0
IsUsage known old new (Err (BadLine number stumble)) =
    IsBadScript old.house.core.entries known number × IsIdle old new
IsUsage known old new (Err (InputOutput endpoint.Input error)) = IsIdle old new
IsUsage known old new r = ((r ≡ Err Memory) × IsIdle old new)
    ⊎ ((asked : List Line) × IsScript old.house.core.entries known asked
    × IsReported (events_in asked) old new r)

-- a connection through a new core of these tenants, which memory may be wanting for
abbrev pub IsPipeServed : List Entry → Unread → Unread → Written → Written
    → Result (Unit {0}) Failure → Type 0
IsPipeServed entries unread left old new r = ((r ≡ Err Memory) × (left ≡ unread) × (new ≡ old))
    ⊎ ((start : CoreState) × (end : CoreState) × IsNewCore start × (start.entries ≡ entries)
    × IsPiped entries unread.bytes left.bytes start end old new r)

-- a script over a new house of these tenants, which memory may be wanting for
abbrev pub IsScriptServed : List Entry → Option (List ℕ) → Written → Written
    → Result (Unit {0}) Failure → Type 0
IsScriptServed entries known old new r = ((r ≡ Err Memory) × (new ≡ old))
    ⊎ ((start : HouseState) × (end : HouseState) × Stands entries start []
    × IsScripted known (record { house = start; written = old })
    (record { house = end; written = new }) r)

-- the usage of the tenants of a new house after a script's events, which memory may be wanting for
abbrev pub IsUsageServed : List Entry → Option (List ℕ) → Written → Written
    → Result (Unit {0}) Failure → Type 0
IsUsageServed entries known old new r = ((r ≡ Err Memory) × (new ≡ old))
    ⊎ ((start : HouseState) × (end : HouseState) × IsNewHouse start × (start.core.entries ≡ entries)
    × IsUsage known (record { house = start; written = old })
    (record { house = end; written = new }) r)

-- what was read, from what there was to what is left, was served as the task says
abbrev pub IsTaskServed : Task → List Entry → Unread → Unread → Written → Written
    → Result (Unit {0}) Failure → Type 0
IsTaskServed task.Script entries unread left old new r =
    IsScriptServed entries unread.bytes old new r
IsTaskServed task.Usage entries unread left old new r =
    IsUsageServed entries unread.bytes old new r
IsTaskServed task.Pipe entries unread left old new r = IsPipeServed entries unread left old new r
