use Rattle.std.proofs.Common.{rules, ◌≡◌, inr, subst}
use Rattle.stow_tasks.specs.StowWorkers.Sent.{WritesAll, written_of}
use Rattle.stow_program.specs.Outcomes.{good_text}
use Rattle.stow_program.proofs.check.check.Goals as goal

pub returns-clause-checked : goal.returns-clause-checked
returns-clause-checked g c =
    let line : c.as_bytes.result.now ≡ good_text c.in_ok-tenants.tenants = search rules in
    let before = written_of (g.W.Sink.contents c.args.output.now) (g.W.Sink.failures c.args.output.now) in
    let after = written_of (g.W.Sink.contents c.finish.new.output) (g.W.Sink.failures c.finish.new.output) in
    inr (c.in_ok-tenants.tenants, c.in_ok-tenants.ensures.ok, subst (λ text. WritesAll c.finish.result text before after) line c.finish.ensures.written, c.finish.ensures.err)
