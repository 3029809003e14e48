use Rattle.stow_workers.proofs.Turning.{led_none}
use Rattle.stow_workers.proofs.nonblocking_connection.NonblockingConnection.serve.Goals as goal

pub returns-else-is_none-clause-led : goal.returns-else-is_none-clause-led
returns-else-is_none-clause-led g c = led_none _ _
