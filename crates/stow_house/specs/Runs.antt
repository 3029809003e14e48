-- A run of events on a new house: the isolation theorem.
use Rattle.std.specs.Prelude.{◌≡◌, ℕ, List, [], ◌∷◌, map, take, reverse, if◌then◌else◌}
use Rattle.stow_model.specs.Login.{Entry, quota_of}
use Rattle.stow_model.specs.Event.{Event, event_of}
use Rattle.stow_model.specs.declared.event.Event as coded
use Rattle.stow_model.specs.Reply.{Reply, encoding}
use Rattle.stow_model.specs.Store.{store_after, usage}
use Rattle.stow_model.specs.History.{Step, event_of_step, line_of, tellings, is_tenant, Telling, ServesAlike}
use Rattle.stow_core.specs.State.{store_of, IsNewCore}
use Rattle.stow_house.specs.declared.mark.Mark.{Mark}
use Rattle.stow_house.specs.declared.house.House.{House}
use Rattle.stow_house.specs.declared.outputs.Outputs.{Outputs}
use Rattle.stow_house.specs.Flushers.{Free}
use Rattle.stow_house.specs.Seen.{never_opened}
use Rattle.stow_house.specs.Steps.{HouseState, state_of, Stands, IsStepOf}
use Rattle.stow_house.specs.StepResult.{StepResult, CanAnswer}
use Rattle.stow_house.specs.Outputs.{Told, told_in, marks_in, mark_of, told_in_history, AreMarks}

-- nothing has happened in the house yet: no connection was opened, no flusher has a job, and every
-- store is new
pub record IsNewHouse (house : HouseState) : Type 0 where
  pub connections : (c : ℕ) → house.seen c ≡ never_opened
  pub flushers : (f : ℕ) → house.flusher f ≡ Free
  pub stores : IsNewCore house.core

-- The events have a history at which the house stands, in which memory was refused where the marks
-- say so. All that was told is what the history tells, in its order and to its connections: a
-- tenant's requests are told what its own run tells.
pub record Shows (entries : List Entry) (events : List Event) (told : List Told) (marks : List Mark)
    (house : HouseState) : Type 0 where
  pub history : List Step
  pub stands : Stands entries house history
  pub in_order : map event_of_step history ≡ reverse events
  pub marked : AreMarks history (reverse marks)
  pub output : map told_in_history (tellings entries history) ≡ reverse told

-- The events were one step after another, each with an answer that it can have, and marked by its
-- answer: what is marked as kept has done what its answer says, and what is marked void was
-- answered want of memory.
abbrev pub StepsThrough : HouseState → List Event → List Mark → HouseState → Type 0
StepsThrough old [] marks new = (marks ≡ []) × (new ≡ old)
StepsThrough old (e ∷ events) marks new =
    (r : StepResult) × (next : HouseState) × (later : List Mark) × CanAnswer e r
    × IsStepOf old e r next × (marks ≡ mark_of r ∷ later) × StepsThrough next events later new

-- what each tenant uses is what the last store of its own run uses
abbrev pub UsesAlone : List Entry → List Step → HouseState → Type 0
UsesAlone entries history house = (tenant : ℕ) → usage (store_of house.core tenant)
    ≡ usage (store_after (quota_of entries tenant) (line_of entries tenant history))

-- a run over these events
pub record RunsOver (old : HouseState) (events : List Event) (told : List Told)
    (marks : List Mark) (new : HouseState) : Type 0 where
  pub shows : Shows old.core.entries events told marks new
  pub steps : StepsThrough old events marks new
  pub usages : UsesAlone old.core.entries shows.history new

-- a run of the code's house, over all of the events
abbrev pub Ran : {A : Type 0} → House A → List (coded.Event A) → Outputs A → House A → Type 0
Ran old events outputs new =
    RunsOver (state_of old) (map event_of events) (told_in outputs) (marks_in outputs)
    (state_of new)

-- .. and over as many of them
abbrev pub RanUntil : {A : Type 0} → ℕ → House A → List (coded.Event A) → Outputs A → House A
    → Type 0
RanUntil done old events outputs new =
    RunsOver (state_of old) (take done (map event_of events)) (told_in outputs)
    (marks_in outputs) (state_of new)

-- of what was told, the replies where the history answers the tenant's requests; both newest first
abbrev pub told_in_run : ℕ → List Telling → List Told → List Reply
told_in_run tenant [] told = []
told_in_run tenant (telling ∷ tellings) [] = []
told_in_run tenant (telling ∷ tellings) (t ∷ told) =
    if is_tenant tenant telling.tenant then t.1 ∷ told_in_run tenant tellings told
    else told_in_run tenant tellings told

-- Two runs in which a tenant has the same entry and is served the same requests, whatever else they
-- hold and whoever else may log in, tell it the same, byte for byte, and leave it the same store.
abbrev pub TwoRuns : Type 0
TwoRuns =
    (entries entries' : List Entry) (events events' : List Event) (told told' : List Told)
    (marks marks' : List Mark) (house house' : HouseState)
    → (s : Shows entries events told marks house)
    → (s' : Shows entries' events' told' marks' house')
    → (tenant tenant' : ℕ) → ServesAlike entries tenant s.history entries' tenant' s'.history
    → (told_in_run tenant (tellings entries s.history) (reverse told)
    ≡ told_in_run tenant' (tellings entries' s'.history) (reverse told'))
    × (map encoding (told_in_run tenant (tellings entries s.history) (reverse told))
    ≡ map encoding (told_in_run tenant' (tellings entries' s'.history) (reverse told')))
    × (store_of house.core tenant ≡ store_of house'.core tenant')

-- Two such runs leave the tenant the same usage, which is that of its own run.
abbrev pub TwoUsages : Type 0
TwoUsages =
    (entries entries' : List Entry) (events events' : List Event) (told told' : List Told)
    (marks marks' : List Mark) (house house' : HouseState)
    → (s : Shows entries events told marks house)
    → (s' : Shows entries' events' told' marks' house')
    → (tenant tenant' : ℕ) → ServesAlike entries tenant s.history entries' tenant' s'.history
    → (usage (store_of house.core tenant) ≡ usage (store_of house'.core tenant'))
    × (usage (store_of house.core tenant)
    ≡ usage (store_after (quota_of entries tenant) (line_of entries tenant s.history)))

-- The events, and the marks of what memory was refused to, say all: runs with the same marks tell
-- the same, in the same order and to the same connections, and leave each tenant the same store.
abbrev pub OneRun : Type 0
OneRun =
    (entries : List Entry) (events : List Event) (told told' : List Told) (marks : List Mark)
    (house house' : HouseState)
    → Shows entries events told marks house → Shows entries events told' marks house'
    → (told ≡ told') × ((tenant : ℕ) → store_of house.core tenant ≡ store_of house'.core tenant)
