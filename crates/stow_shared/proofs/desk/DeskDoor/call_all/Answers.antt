use Rattle.std.proofs.Common.{map, refl}
use Rattle.stow_model.specs.Reply.{reply_of}
use Rattle.stow_shared.proofs.Desking.{desk_answers}
use Rattle.stow_shared.proofs.desk.DeskDoor.call_all.Goals as goal

pub returns-clause-answers : goal.returns-clause-answers
returns-clause-answers g c = desk_answers g.J.Journal.keeps c.args.self.now _ refl c.args.requests.now (reply_of c.call_all.result) (map reply_of c.call_all.new.more.items) c.requires.some c.call_all.ensures.answers
