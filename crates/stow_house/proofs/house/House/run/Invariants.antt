use Rattle.std.proofs.Common.{map, take}
use Rattle.stow_model.specs.Event.{event_of}
use Rattle.stow_house.specs.Steps.{state_of}
use Rattle.stow_house.specs.Outputs.{told_in, marks_in}
use Rattle.stow_house.specs.Runs.{RunsOver}
use Rattle.stow_house.proofs.house.House.run.Given as goal

-- the outputs are those of the events so far
abbrev pub invariant-loop-done : goal.invariant-loop-done
invariant-loop-done g l = RunsOver (state_of l.fn.self) (take l.done (map event_of l.events)) (told_in l.outputs) (marks_in l.outputs) (state_of l.self)
