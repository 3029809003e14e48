-- What a script's lines are told: an output line for each.
use Rattle.std.specs.Prelude.{◌≡◌, ℕ, List, [], ◌∷◌, ◌++◌, codes}
use Rattle.std.specs.Fmt.{decimal}
use Rattle.stow_model.specs.Event.{Event, event_of, ConnectionEvent, FlusherEvent}
use Rattle.stow_model.specs.declared.event.Event as coded
use Rattle.stow_workers.specs.StowHouse.declared.step_result.StepResult as result
use Rattle.stow_model.specs.Event as event
use Rattle.stow_model.specs.declared.usage.Usage.{Usage}
use Rattle.stow_model.specs.Reply.{encoding}
use Rattle.stow_workers.specs.StowHouse.StepResult.{StepResult, step_result_of, Done, Answered, More, Blank, Job, NoJob, Installed, Stale, Refused, NoMemory}
use Rattle.stow_workers.specs.StowTree.declared.shape_report.ShapeReport.{ShapeReport}
use Rattle.stow_script.specs.Text.{text_of}

-- the text of an event of a connection and what it led to, where it can lead to that
abbrev pub IsConnectionText : ConnectionEvent → StepResult → List ℕ → Type 0
IsConnectionText event.Open Done text = text ≡ codes "open"
IsConnectionText event.Open Refused text = text ≡ codes "refused"
IsConnectionText event.Open NoMemory text = text ≡ codes "memory"
IsConnectionText event.Open _ text = ⊥
IsConnectionText (event.Piece bytes) Done text = text ≡ codes "taken"
IsConnectionText (event.Piece bytes) Refused text = text ≡ codes "refused"
IsConnectionText (event.Piece bytes) NoMemory text = text ≡ codes "memory"
IsConnectionText (event.Piece bytes) _ text = ⊥
IsConnectionText event.Serve (Answered reply) text = text
    ≡ codes "reply " ++ text_of (encoding reply)
IsConnectionText event.Serve More text = text ≡ codes "more"
IsConnectionText event.Serve Blank text = text ≡ codes "blank"
IsConnectionText event.Serve Refused text = text ≡ codes "refused"
IsConnectionText event.Serve NoMemory text = text ≡ codes "memory"
IsConnectionText event.Serve _ text = ⊥
IsConnectionText event.Close Done text = text ≡ codes "closed"
IsConnectionText event.Close Refused text = text ≡ codes "refused"
IsConnectionText event.Close _ text = ⊥

-- the same of an event of a flusher
abbrev pub IsFlusherText : FlusherEvent → StepResult → List ℕ → Type 0
IsFlusherText (event.Plan f) Job text = text ≡ codes "job"
IsFlusherText (event.Plan f) NoJob text = text ≡ codes "none"
IsFlusherText (event.Plan f) Refused text = text ≡ codes "refused"
IsFlusherText (event.Plan f) NoMemory text = text ≡ codes "memory"
IsFlusherText (event.Plan f) _ text = ⊥
IsFlusherText (event.Merge f) Done text = text ≡ codes "merged"
IsFlusherText (event.Merge f) Refused text = text ≡ codes "refused"
IsFlusherText (event.Merge f) NoMemory text = text ≡ codes "memory"
IsFlusherText (event.Merge f) _ text = ⊥
IsFlusherText (event.Install f) Installed text = text ≡ codes "done"
IsFlusherText (event.Install f) Stale text = text ≡ codes "stale"
IsFlusherText (event.Install f) Refused text = text ≡ codes "refused"
IsFlusherText (event.Install f) NoMemory text = text ≡ codes "memory"
IsFlusherText (event.Install f) _ text = ⊥
IsFlusherText (event.Resize n) Done text = text ≡ codes "resized"
IsFlusherText (event.Resize n) Refused text = text ≡ codes "refused"
IsFlusherText (event.Resize n) NoMemory text = text ≡ codes "memory"
IsFlusherText (event.Resize n) _ text = ⊥

-- the same of a quota for a tenant
abbrev pub IsOrderText : StepResult → List ℕ → Type 0
IsOrderText Done text = text ≡ codes "set"
IsOrderText Refused text = text ≡ codes "refused"
IsOrderText _ text = ⊥

abbrev pub IsText : Event → StepResult → List ℕ → Type 0
IsText (event.On c e) r text = IsConnectionText e r text
IsText (event.By e) r text = IsFlusherText e r text
IsText (event.SetQuota tenant quota) r text = IsOrderText r text

-- the text and a line's end are written behind what there was
abbrev pub WritesLine : {A : Type 0} → coded.Event A → result.StepResult A → List ℕ → List ℕ
    → Type 0
WritesLine e r old new = (text : List ℕ) × IsText (event_of e) (step_result_of r) text
    × (new ≡ old ++ (text ++ 10 ∷ []))

-- how large a tree is, in decimal numbers
abbrev pub shape_text : ShapeReport → List ℕ
shape_text report =
    codes "height " ++ decimal report.height
    ++ codes " leaves " ++ decimal report.leaves
    ++ codes " buffered " ++ decimal report.buffered
    ++ codes " cached " ++ decimal report.cached

-- a tenant's name, and what its rows are charged, in decimal numbers
abbrev pub sizes_text : List ℕ → Usage → List ℕ
sizes_text name u =
    name
    ++ codes " rows=" ++ decimal u.rows
    ++ codes " charge=" ++ decimal u.charge
    ++ codes " quota=" ++ decimal u.quota

-- what is counted for a tenant
abbrev pub counts_text : Usage → List ℕ
counts_text u =
    codes " writes=" ++ decimal u.writes
    ++ codes " commands=" ++ decimal u.commands
    ++ codes " refusals=" ++ decimal u.refusals
    ++ codes " snapshots=" ++ decimal u.snapshots

-- a tenant's name, and what it uses
abbrev pub usage_text : List ℕ → Usage → List ℕ
usage_text name u = sizes_text name u ++ counts_text u
