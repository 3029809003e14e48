use Rattle.std.proofs.Common.{map, ap}
use Rattle.stow_model.specs.Reply.{reply_of}
use Rattle.stow_house.proofs.Pipelines.{front_first}
use Rattle.stow_service_tests.proofs.sessions.FakeDoor.call_all.Goals as goal

pub returns-clause-answers : goal.returns-clause-answers
returns-clause-answers g c = front_first _ c.args.self.now c.call.new.self c.args.requests.now c.index-requests-0.result (reply_of c.call.result) (map reply_of c.args.more.now.items) c.requires.some c.index-requests-0.is c.call.ensures (ap (map reply_of) c.requires.none)
