use Rattle.std.proofs.Common.{◌≡◌, map}
use Rattle.stow_model.specs.Event.{event_of}
use Rattle.stow_script.specs.Script.{line_of}
use Rattle.stow_tasks.specs.Told.{events_in}
use Rattle.stow_tasks.proofs.usage.events_of.Given as goal

-- the events of the lines so far
abbrev pub invariant-loop-line : goal.invariant-loop-line
invariant-loop-line g l = map event_of l.events.items ≡ events_in (map line_of l.yielded)
