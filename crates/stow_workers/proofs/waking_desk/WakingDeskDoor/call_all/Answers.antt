use Rattle.std.proofs.Common.{map}
use Rattle.stow_model.specs.Reply.{reply_of}
use Rattle.stow_workers.proofs.Waking.{waking_answers}
use Rattle.stow_workers.proofs.waking_desk.WakingDeskDoor.call_all.Goals as goal

pub returns-clause-answers : goal.returns-clause-answers
returns-clause-answers g c = waking_answers g.J.Journal.keeps c.args.self.now _ c.args.requests.now (reply_of c.call_all-first.result) (map reply_of c.call_all-first.new.more.items) c.requires.some c.call_all-first.ensures.answers
