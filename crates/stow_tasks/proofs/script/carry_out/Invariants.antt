use Rattle.std.proofs.Common.{◌≡◌, map, take}
use Rattle.stow_script.specs.Script.{line_of}
use Rattle.stow_tasks.specs.Told.{progress_of}
use Rattle.stow_tasks.proofs.Telling.{IsToldSoFar}
use Rattle.stow_tasks.proofs.script.carry_out.Given as goal

abbrev pub invariant-loop-line : goal.invariant-loop-line
invariant-loop-line g l =
    IsToldSoFar (map line_of (take l.line-index l.lines)) (progress_of l.initial.house (g.W.Sink.contents l.initial.output) (g.W.Sink.failures l.initial.output)) (progress_of l.house (g.W.Sink.contents l.output) (g.W.Sink.failures l.output)) l.answers.items
    × (g.W.Sink.borrow l.output ≡ g.W.Sink.borrow l.initial.output)
