use Rattle.std.proofs.Common.{refl, ◌∙◌}
use Rattle.stow_workers.specs.Sent.{written_of, sent_of}
use Rattle.stow_workers.proofs.Pipelining.{holding_sent}
use Rattle.stow_workers.proofs.client.Client.serve_all.Goals as goal

pub returns-in-Some-clause-goes : goal.returns-in-Some-clause-goes
returns-in-Some-clause-goes g c first start read u = c.in-Some.ensures.goes (written_of (g.W.Sink.contents c.loop-stop.writer) (g.W.Sink.failures c.loop-stop.writer)) first start read (c.loop-stop.invariant.0 first start read u)

pub loop-stop-preserved-then-is_long : goal.loop-stop-preserved-then-is_long
loop-stop-preserved-then-is_long g c = (
  λ first start read u. holding_sent g.D.Door.answers c.args.tenants.now first start read c.step.new.door c.step.new.self (record c.step.new.self { replies = c.flush.new.self }) (sent_of (g.W.Sink.contents c.loop-stop.writer) (g.W.Sink.failures c.loop-stop.writer) c.step.new.self.replies) (sent_of (g.W.Sink.contents c.flush.new.writer) (g.W.Sink.failures c.flush.new.writer) c.flush.new.self)
      refl refl refl refl c.flush.ensures.sent (c.in_default.ensures.goes (written_of (g.W.Sink.contents c.loop-stop.writer) (g.W.Sink.failures c.loop-stop.writer)) first start read (c.loop-stop.invariant.0 first start read u)),
  c.flush.ensures.same_borrow ∙ c.loop-stop.invariant.1,
)

pub loop-stop-smaller-then-is_long : goal.loop-stop-smaller-then-is_long
loop-stop-smaller-then-is_long g c = c.in_default.ensures.lighter

pub loop-stop-preserved : goal.loop-stop-preserved
loop-stop-preserved g c = (λ first start read u. c.in_default.ensures.goes (written_of (g.W.Sink.contents c.loop-stop.writer) (g.W.Sink.failures c.loop-stop.writer)) first start read (c.loop-stop.invariant.0 first start read u), c.loop-stop.invariant.1)

pub loop-stop-smaller : goal.loop-stop-smaller
loop-stop-smaller g c = c.in_default.ensures.lighter
