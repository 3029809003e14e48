-- What an event is answered.
use Rattle.std.specs.Prelude.{◌≡◌, ◌<◌, ◌≤◌, Bool, true, false, List, Option, Some, None, ◌⊎◌}
use Rattle.stow_bytes.specs.Limits.{cache_limit}
use Rattle.stow_model.specs.Reply.{Reply, reply_of}
use Rattle.stow_model.specs.Login.{Entry}
use Rattle.stow_model.specs.Event.{Event, ConnectionEvent, FlusherEvent}
use Rattle.stow_model.specs.Event as event
use Rattle.stow_model.specs.History.{Step, Void, At, Flushed, Ordered, ConnectionStep, Plain, Took, Broke, Status, Unused, IsOpen, Closed, status_of, part_of, may_be_given, told_at}
use Rattle.stow_house.specs.declared.stop.Stop.{Stop}
use Rattle.stow_house.specs.declared.stop.Stop.TheVariants as stopped
use Rattle.stow_house.specs.declared.step_result.StepResult as coded
use Rattle.stow_house.specs.declared.step_result.StepResult.TheVariants as in_result

pub data StepResult : Type 0 where
  Done : StepResult
  Answered : Reply → StepResult
  More : StepResult
  Blank : StepResult
  Job : StepResult
  NoJob : StepResult
  Installed : StepResult
  Stale : StepResult
  Refused : StepResult
  NoMemory : StepResult

-- what the code's type stands for, whatever allocator it has its memory from
abbrev pub step_result_of : {A : Type 0} → coded.StepResult A → StepResult
step_result_of in_result.Done = Done
step_result_of (in_result.Answered reply) = Answered (reply_of reply)
step_result_of in_result.More = More
step_result_of in_result.Blank = Blank
step_result_of in_result.Job = Job
step_result_of in_result.NoJob = NoJob
step_result_of in_result.Installed = Installed
step_result_of in_result.Stale = Stale
step_result_of in_result.Refused = Refused
step_result_of in_result.NoMemory = NoMemory

-- this answer where the connection is open, and else a refusal
abbrev pub when_open : Status → StepResult → StepResult
when_open Unused r = Refused
when_open IsOpen r = r
when_open Closed r = Refused

-- this answer where the number was never opened, and else a refusal
abbrev pub when_unused : Status → StepResult → StepResult
when_unused Unused r = r
when_unused IsOpen r = Refused
when_unused Closed r = Refused

-- the answer to an event that takes nothing from a stream, by the connection's status before it
abbrev pub answer_to_event : ConnectionEvent → Status → StepResult
answer_to_event event.Open status = when_unused status Done
answer_to_event (event.Piece bytes) status = when_open status Done
answer_to_event event.Serve status = when_open status More
answer_to_event event.Close status = when_open status Done

abbrev pub answered : Option Reply → StepResult
answered None = Blank
answered (Some reply) = Answered reply

-- the answer to a Serve by which this is told, and that goes no further than so
abbrev pub served_so : Option Reply → Option Stop → StepResult
served_so told None = answered told
served_so told (Some stopped.More) = More
served_so told (Some stopped.Quit) = answered told
served_so told (Some (stopped.Faulted fault)) = answered told
served_so told (Some stopped.NoMemory) = NoMemory

-- the answer to a connection's step, by the status before it and what is told
abbrev pub answer_to_own : ConnectionStep → Status → Option Reply → StepResult
answer_to_own (Plain e) status told = answer_to_event e status
answer_to_own (Took m is_refused) status told = answered told
answer_to_own (Broke fault) status told = answered told

-- what a plan may be answered
abbrev pub MayPlan : StepResult → Type 0
MayPlan Job = Unit {0}
MayPlan NoJob = Unit {0}
MayPlan Refused = Unit {0}
MayPlan NoMemory = Unit {0}
MayPlan _ = ⊥

-- what a merge may be answered
abbrev pub MayMerge : StepResult → Type 0
MayMerge Done = Unit {0}
MayMerge Refused = Unit {0}
MayMerge NoMemory = Unit {0}
MayMerge _ = ⊥

-- what an install may be answered
abbrev pub MayInstall : StepResult → Type 0
MayInstall Installed = Unit {0}
MayInstall Stale = Unit {0}
MayInstall Refused = Unit {0}
MayInstall NoMemory = Unit {0}
MayInstall _ = ⊥

-- what an event of a flusher may be answered; a cache's size above the limit is refused, and to any
-- other memory may be
abbrev pub MayAnswer : FlusherEvent → StepResult → Type 0
MayAnswer (event.Plan f) r = MayPlan r
MayAnswer (event.Merge f) r = MayMerge r
MayAnswer (event.Install f) r = MayInstall r
MayAnswer (event.Resize n) r = ((n ≤ cache_limit) × ((r ≡ Done) ⊎ (r ≡ NoMemory)))
    ⊎ ((cache_limit < n) × (r ≡ Refused))

-- the answer to a quota for a tenant, by whether it may be given
abbrev pub answer_to_order : Bool → StepResult
answer_to_order true = Done
answer_to_order false = Refused

-- the answers that an event of a connection can have at all
abbrev pub CanAnswerOn : ConnectionEvent → StepResult → Type 0
CanAnswerOn event.Open Done = Unit {0}
CanAnswerOn event.Open Refused = Unit {0}
CanAnswerOn event.Open NoMemory = Unit {0}
CanAnswerOn event.Open _ = ⊥
CanAnswerOn (event.Piece bytes) Done = Unit {0}
CanAnswerOn (event.Piece bytes) Refused = Unit {0}
CanAnswerOn (event.Piece bytes) NoMemory = Unit {0}
CanAnswerOn (event.Piece bytes) _ = ⊥
CanAnswerOn event.Serve (Answered reply) = Unit {0}
CanAnswerOn event.Serve More = Unit {0}
CanAnswerOn event.Serve Blank = Unit {0}
CanAnswerOn event.Serve Refused = Unit {0}
CanAnswerOn event.Serve NoMemory = Unit {0}
CanAnswerOn event.Serve _ = ⊥
CanAnswerOn event.Close Done = Unit {0}
CanAnswerOn event.Close Refused = Unit {0}
CanAnswerOn event.Close _ = ⊥

-- the answers that a quota for a tenant can have at all: it asks for no memory
abbrev pub CanAnswerOrder : StepResult → Type 0
CanAnswerOrder Done = Unit {0}
CanAnswerOrder Refused = Unit {0}
CanAnswerOrder _ = ⊥

-- the answers that an event can have at all
abbrev pub CanAnswer : Event → StepResult → Type 0
CanAnswer (event.On c e) r = CanAnswerOn e r
CanAnswer (event.By e) r = MayAnswer e r
CanAnswer (event.SetQuota tenant quota) r = CanAnswerOrder r

-- what a step is answered, after the history before it
unfoldable pub IsAnswer : List Entry → Step → List Step → StepResult → Type 0
IsAnswer entries (Void e) earlier r = r ≡ NoMemory
IsAnswer entries (At c own) earlier r = r
    ≡ answer_to_own own (status_of (part_of c earlier)) (told_at entries c own earlier)
IsAnswer entries (Flushed e) earlier r = MayAnswer e r
IsAnswer entries (Ordered tenant quota) earlier r = r
    ≡ answer_to_order (may_be_given entries tenant quota)
