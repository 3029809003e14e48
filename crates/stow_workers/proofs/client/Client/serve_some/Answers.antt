use Rattle.stow_workers.proofs.Turning.{led_none, led_then}
use Rattle.stow_workers.proofs.client.Client.serve_some.Goals as goal

pub loop-init : goal.loop-init
loop-init g c = (λ writer first start read u. u, led_none _ _)

pub returns-in-Some-clause-goes : goal.returns-in-Some-clause-goes
returns-in-Some-clause-goes g c writer first start read u = c.in-Some.ensures.goes writer first start read (c.loop.invariant.0 writer first start read u)

pub returns-in-Some-clause-led : goal.returns-in-Some-clause-led
returns-in-Some-clause-led g c = led_then _ _ _ _ c.loop.invariant.1 c.step.ensures.led

pub loop-preserved : goal.loop-preserved
loop-preserved g c = (λ writer first start read u. c.in_default.ensures.goes writer first start read (c.loop.invariant.0 writer first start read u), led_then _ _ _ _ c.loop.invariant.1 c.step.ensures.led)
