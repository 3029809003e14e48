use Rattle.std.proofs.Common.{sym, ◌∙◌, map}
use Rattle.stow_model.specs.Event.{event_of}
use Rattle.stow_workers.specs.StowHouse.Outputs.{told_in, marks_in}
use Rattle.stow_tasks.specs.Told.{progress_of}
use Rattle.stow_tasks.proofs.Reported.{run_of, reported}
use Rattle.stow_tasks.proofs.usage.report.Goals as goal

pub returns-clause-reported : goal.returns-clause-reported
returns-clause-reported g c =
    let ran = run_of c.args.house.now c.run.new.self c.args.events.now c.run.result (sym c.is_err.ensures.value ∙ c.if-is_err.false) c.run.ensures.ok in
    reported (map event_of c.args.events.now)
    (progress_of c.args.house.now (g.W.Sink.contents c.args.output.now) (g.W.Sink.failures c.args.output.now))
    (progress_of c.run.new.self (g.W.Sink.contents c.finish.new.output) (g.W.Sink.failures c.finish.new.output))
    c.finish.result c.as_slice.result.now (told_in ran.0) (marks_in ran.0) ran.1
    (c.as_slice.ensures.value ∙ c.in_ok-told.ensures) c.finish.ensures.written c.finish.ensures.err
