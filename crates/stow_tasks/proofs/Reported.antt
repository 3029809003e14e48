-- What is told once events were run.
use Rattle.std.proofs.Common.{◌≡◌, ℕ, List, Result, Ok, Err, false, subst, inr}
use Rattle.std.specs.Prelude.{IfErr, IfOk}
use Rattle.std.specs.Result.{is_err}
use Rattle.stow_model.specs.Event.{Event, event_of}
use Rattle.stow_model.specs.declared.event.Event as coded
use Rattle.stow_workers.specs.StowHouse.declared.house.House.{House}
use Rattle.stow_workers.specs.StowHouse.declared.mark.Mark.{Mark}
use Rattle.stow_workers.specs.StowHouse.declared.outputs.Outputs.{Outputs}
use Rattle.stow_workers.specs.StowHouse.Outputs.{Told, told_in, marks_in}
use Rattle.stow_workers.specs.StowHouse.Runs.{Ran, RunsOver}
use Rattle.stow_workers.specs.StowHouse.Steps.{state_of}
use Rattle.stow_run.specs.declared.failure.Failure.{Failure}
use Rattle.stow_workers.specs.Sent.{WritesAll}
use Rattle.stow_tasks.specs.Ends.{IsOfOutput}
use Rattle.stow_tasks.specs.Told.{IsReported, ScriptState, usages_of}
use Rattle.stow_tasks.proofs.Telling.{ends_at_output}

-- what a run without a fault shows
pub run_of : {A E : Type 0} (old new : House A) (events : List (coded.Event A)) (r : Result (Outputs A) E)
    → is_err r ≡ false → IfOk r (λ outputs. Ran old events outputs new) → (outputs : Outputs A) × Ran old events outputs new
run_of old new events (Ok outputs) good ran = (outputs, ran)
run_of old new events (Err e) good ran = cc good

pub reported : (events : List Event) (old new : ScriptState) (r : Result (Unit {0}) Failure) (bytes : List ℕ) (told : List Told) (marks : List Mark)
    → RunsOver old.house events told marks new.house → bytes ≡ usages_of new.house.core
    → WritesAll r bytes old.written new.written → IfErr r IsOfOutput → IsReported events old new r
reported events old new (Ok done) bytes told marks runs is written of_output = record {
  told = told;
  marks = marks;
  runs = runs;
  written = subst (λ all. WritesAll {E = Failure} (Ok done) all old.written new.written) is written;
}
reported events old new (Err f) bytes told marks runs is written of_output = (
  ends_at_output f old.written.failures new.written.failures of_output written.failures,
  inr (record {
    told = told;
    marks = marks;
    runs = runs;
    written = subst (λ all. WritesAll (Err f) all old.written new.written) is written;
  }),
)
