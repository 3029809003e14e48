-- What is written for any event and any result, whether or not the one can lead to the other.
use Rattle.std.specs.Prelude.{ℕ, List, ◌++◌, codes}
use Rattle.stow_model.specs.Event.{Event, event_of}
use Rattle.stow_model.specs.declared.event.Event as coded
use Rattle.stow_workers.specs.StowHouse.declared.step_result.StepResult as result
use Rattle.stow_model.specs.Event as event
use Rattle.stow_model.specs.Reply.{encoding}
use Rattle.stow_workers.specs.StowHouse.StepResult.{StepResult, step_result_of, Done, Answered, More, Blank, Job, NoJob, Installed, Stale, Refused, NoMemory}
use Rattle.stow_script.specs.Text.{text_of}

-- for an event that was carried out and gives nothing
abbrev pub done_text : Event → List ℕ
done_text (event.On c event.Open) = codes "open"
done_text (event.On c (event.Piece bytes)) = codes "taken"
done_text (event.On c event.Serve) = codes "blank"
done_text (event.On c event.Close) = codes "closed"
done_text (event.By (event.Plan f)) = codes "job"
done_text (event.By (event.Merge f)) = codes "merged"
done_text (event.By (event.Install f)) = codes "done"
done_text (event.By (event.Resize n)) = codes "resized"
done_text (event.SetQuota tenant quota) = codes "set"

abbrev pub written_text : Event → StepResult → List ℕ
written_text e Done = done_text e
written_text e (Answered reply) = codes "reply " ++ text_of (encoding reply)
written_text e More = codes "more"
written_text e Blank = codes "blank"
written_text e Job = codes "job"
written_text e NoJob = codes "none"
written_text e Installed = codes "done"
written_text e Stale = codes "stale"
written_text e Refused = codes "refused"
written_text e NoMemory = codes "memory"

-- of the code's event and answer
abbrev pub written : {A : Type 0} → coded.Event A → result.StepResult A → List ℕ
written e r = written_text (event_of e) (step_result_of r)
