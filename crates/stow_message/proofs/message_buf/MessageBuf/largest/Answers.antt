use Rattle.stow_message.proofs.Bounded.{are_no_larger}
use Rattle.stow_message.proofs.message_buf.MessageBuf.largest.Goals as goal

pub returns : goal.returns
returns g c = are_no_larger c.self.inside.raw c.self.inside.largest c.args.self.now c.self.view_is c.self.invariant.bounded
