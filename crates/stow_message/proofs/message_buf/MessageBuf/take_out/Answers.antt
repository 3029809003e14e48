use Rattle.std.proofs.Common.{subst, sym}
use Rattle.stow_message.specs.MessageBuf.{MessageList}
use Rattle.stow_message.specs.Rising.{AreHeld}
use Rattle.stow_message.proofs.message_buf.MessageBuf.take_out.Goals as goal

pub remove_all-requires : goal.remove_all-requires
remove_all-requires g c = subst (λ (w : MessageList). AreHeld c.args.batch.now.messages w.messages) (sym c.settle.ensures) (c.holds.ensures.0 c.if-not-holds.false)
