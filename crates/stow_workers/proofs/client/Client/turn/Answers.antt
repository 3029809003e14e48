use Rattle.stow_workers.proofs.Turning.{led_none, led_one, told_turn, told_shortens, asked_turn, asked_shortens}
use Rattle.stow_workers.proofs.client.Client.turn.Goals as goal

pub returns-in-Told-clause-shorter : goal.returns-in-Told-clause-shorter
returns-in-Told-clause-shorter g c = told_shortens _ _ _ _ _ c.in-Told.ensures

pub returns-in-Told-clause-turns : goal.returns-in-Told-clause-turns
returns-in-Told-clause-turns g c = told_turn _ _ _ _ _ _ _ c.in-Told.ensures

pub returns-in-Request-clause-shorter : goal.returns-in-Request-clause-shorter
returns-in-Request-clause-shorter g c = asked_shortens _ _ _ _ _ _ c.in-Request.ensures c.reuse.ensures

pub returns-in-Request-clause-turns : goal.returns-in-Request-clause-turns
returns-in-Request-clause-turns g c = asked_turn _ _ _ _ _ _ _ _ _ _ c.in-Request.ensures c.reuse.ensures c.call-reply.ensures

pub returns-in-Told-clause-led : goal.returns-in-Told-clause-led
returns-in-Told-clause-led g c = led_none _ _

pub returns-in-Request-clause-led : goal.returns-in-Request-clause-led
returns-in-Request-clause-led g c = led_one _ _ _ _ _ _ c.call-reply.ensures
