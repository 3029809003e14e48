-- What a run led to.
use Rattle.std.specs.Prelude.{◌≡◌, ◌⊎◌, ℕ, ◌<◌, ◌≤◌, Bool, true, false, List, [], ◌∷◌, map, filter, Option, Some, None, ◌==◌, vec_len}
use Rattle.std.specs.List.{flat_map}
use Rattle.std.specs.Vec.{vec_capacity}
use Rattle.stow_model.specs.Reply.{Reply, reply_of, encoding}
use Rattle.stow_model.specs.Store.{is_out_of_memory}
use Rattle.stow_model.specs.Event.{Event, FlusherEvent}
use Rattle.stow_model.specs.Event as event
use Rattle.stow_model.specs.History.{Step, Void, At, Flushed, Ordered, is_refused_own, Telling}
use Rattle.stow_bytes.specs.Limits.{cache_limit}
use Rattle.stow_house.specs.declared.mark.Mark.{Mark}
use Rattle.stow_house.specs.declared.mark.Mark.TheVariants as mark
use Rattle.stow_house.specs.declared.step_result.StepResult as result
use Rattle.stow_house.specs.declared.told.Told as coded
use Rattle.stow_house.specs.declared.outputs.Outputs.{Outputs}
use Rattle.stow_house.specs.StepResult.{StepResult, step_result_of, Answered, NoMemory}

-- a reply, and the connection that it goes to
abbrev pub Told : Type 0
Told = ℕ × Reply

abbrev pub told_as : {A : Type 0} → coded.Told A → Told
told_as told = (told.connection, reply_of told.reply)

-- all that was told, in order
abbrev pub told_in : {A : Type 0} → Outputs A → List Told
told_in outputs = map told_as outputs.told.items

-- for each event whether memory was refused to it
abbrev pub marks_in : {A : Type 0} → Outputs A → List Mark
marks_in outputs = outputs.marks.items

-- one more event has its place
pub record HasPlace {A : Type 0} (outputs : Outputs A) : Type 0 where
  pub told : vec_len outputs.told < vec_capacity outputs.told
  pub marks : vec_len outputs.marks < vec_capacity outputs.marks

-- the replies to a connection, in order
abbrev pub replies_to : ℕ → List Told → List Reply
replies_to c told = map (λ t. t.1) (filter (λ t. t.0 == c) told)

-- the bytes that a connection is told
abbrev pub bytes_to : ℕ → List Told → List ℕ
bytes_to c told = flat_map encoding (replies_to c told)

-- what goes to a connection, if anything
abbrev pub to_connection : ℕ → Option Reply → List Told
to_connection c None = []
to_connection c (Some r) = (c, r) ∷ []

abbrev pub told_of : StepResult → Option Reply
told_of (Answered r) = Some r
told_of _ = None

-- what an answer tells its connection
abbrev pub tells : {A : Type 0} → ℕ → result.StepResult A → List Told
tells c r = to_connection c (told_of (step_result_of r))

abbrev pub mark_if : Bool → Mark
mark_if true = mark.Refused
mark_if false = mark.Kept

-- memory was refused to the request that was served just where its reply says so
abbrev pub mark_of : StepResult → Mark
mark_of (Answered r) = mark_if (is_out_of_memory r)
mark_of NoMemory = mark.Void
mark_of _ = mark.Kept

abbrev pub marks : StepResult → List Mark
marks r = mark_of r ∷ []

-- the mark of an event of a flusher. Memory may be refused to a plan, a merge and an install, and
-- to another size of the cache within its limit; either way no store changes and nobody is told
-- anything, so a history needs no step of its own for it
abbrev pub IsFlusherMark : FlusherEvent → Mark → Type 0
IsFlusherMark (event.Resize n) m = (m ≡ mark.Kept) ⊎ ((n ≤ cache_limit) × (m ≡ mark.Void))
IsFlusherMark _ m = (m ≡ mark.Kept) ⊎ (m ≡ mark.Void)

-- the mark of a step of a history
abbrev pub IsMark : Step → Mark → Type 0
IsMark (Void e) m = m ≡ mark.Void
IsMark (At c own) m = m ≡ mark_if (is_refused_own own)
IsMark (Flushed e) m = IsFlusherMark e m
IsMark (Ordered tenant quota) m = m ≡ mark.Kept

-- the marks of a history's steps, both newest first
abbrev pub AreMarks : List Step → List Mark → Type 0
AreMarks [] marks = marks ≡ []
AreMarks (newest ∷ earlier) [] = ⊥
AreMarks (newest ∷ earlier) (m ∷ marks) = IsMark newest m × AreMarks earlier marks

-- the connection that an event is of; one of a flusher or of the operator tells nobody anything
abbrev pub connection_of : Event → ℕ
connection_of (event.On c e) = c
connection_of (event.By e) = 0
connection_of (event.SetQuota tenant quota) = 0

-- a reply of the history, and the connection that it goes to
abbrev pub told_in_history : Telling → Told
told_in_history telling = (telling.connection, telling.reply)
