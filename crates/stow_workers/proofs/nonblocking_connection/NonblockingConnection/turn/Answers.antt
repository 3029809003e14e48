use Rattle.std.proofs.Common.{refl}
use Rattle.stow_workers.proofs.ConnectionTurns.{turn_goes, ended_receiving, reader_stays_on, reader_at_end, waits_or_not, not_read, not_read_at_end}
use Rattle.stow_workers.proofs.Turning.{led_none}
use Rattle.stow_workers.proofs.nonblocking_connection.NonblockingConnection.turn.Goals as goal

pub returns-in-Ok-clause-turns : goal.returns-in-Ok-clause-turns
returns-in-Ok-clause-turns g c = turn_goes _ _ _ _ _ _ _ _ _ _ c.receive.new.self c.serve.new.self _ _ _ _ c.in-Ok.ensures.receives c.serve.ensures.serves refl c.send.ensures.same c.send.ensures.sent c.outcome.ensures

pub returns-in-Ok-clause-reader : goal.returns-in-Ok-clause-reader
returns-in-Ok-clause-reader g c =
    let (waits, tells) = waits_or_not _ in
    reader_stays_on _ _ waits _ _ _ _ (c.outcome.ensures waits tells) c.in-Ok.ensures.receives.0

pub returns-in-Err-clause-turns : goal.returns-in-Err-clause-turns
returns-in-Err-clause-turns g c = λ first start read stands. ended_receiving _ _ first start read _ _ _ _ _ _ _ _ _ c.in-Err.ensures.receives stands

pub returns-in-Err-clause-reader : goal.returns-in-Err-clause-reader
returns-in-Err-clause-reader g c = reader_at_end _ _ _ _ _ _ _ c.in-Err.ensures.receives

pub returns-in-Err-clause-led : goal.returns-in-Err-clause-led
returns-in-Err-clause-led g c = led_none _ _

pub returns-in-Ok-clause-waiting : goal.returns-in-Ok-clause-waiting
returns-in-Ok-clause-waiting g c waits =
    let (kept, still) = not_read _ _ _ _ _ _ c.in-Ok.ensures.receives waits in
    (kept, c.serve.ensures.waiting still)

pub returns-in-Err-clause-waiting : goal.returns-in-Err-clause-waiting
returns-in-Err-clause-waiting g c waits = (not_read_at_end _ _ _ _ _ _ _ c.in-Err.ensures.receives waits, refl)
