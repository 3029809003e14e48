use Rattle.std.proofs.Common.{ap, arith}
use Rattle.std.specs.Prelude.{is_some}
use Rattle.stow_workers.proofs.Flushed.{at_first, one_more, at_last, at_few, after_all}
use Rattle.stow_workers.proofs.flushing.serve_wake.Goals as goal

pub loop-init : goal.loop-init
loop-init g c = at_first _ _

pub returns-in_default : goal.returns-in_default
returns-in_default g c = at_last _ _ _ _ _ _ c.loop-test.true (ap is_some c.in_default.is) c.loop.invariant c.flush.ensures

pub returns-then-messages-lt-MANY : goal.returns-then-messages-lt-MANY
returns-then-messages-lt-MANY g c = at_few _ _ _ _ _ _ _ c.loop-test.true c.in-Some.is c.if-messages-lt-MANY.true c.loop.invariant c.flush.ensures

pub loop-preserved : goal.loop-preserved
loop-preserved g c = one_more _ _ _ _ _ _ _ c.in-Some.is (let f = c.if-messages-lt-MANY.false in omega (arith, f)) c.loop.invariant c.flush.ensures

pub returns : goal.returns
returns g c = after_all _ _ _ _ (omega (arith, c.loop-test.false, c.loop.auto.counter-end)) c.loop.invariant
