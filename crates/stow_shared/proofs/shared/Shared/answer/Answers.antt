use Rattle.stow_model.specs.Reply.{reply_of}
use Rattle.stow_shared.proofs.Steps.{seat_calls}
use Rattle.stow_shared.proofs.shared.Shared.answer.Goals as goal

pub returns-in-Ok : goal.returns-in-Ok
returns-in-Ok g c = seat_calls g.J.Journal.keeps _ c.args.seat.now c.args.tenant c.args.words.now (reply_of c.call.result) _ c.call.new.seat c.call.ensures
