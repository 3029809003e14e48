use Rattle.std.proofs.Common.{subst, arith}
use Rattle.std.specs.List.{All}
use Rattle.stow_message.specs.Packed.{IsMessage}
use Rattle.stow_message.specs.MessageBuf.{MessageList}
use Rattle.stow_message.proofs.Stored.{filled_valid}
use Rattle.stow_message.proofs.message_buf.MessageBuf.len.Goals as goal

pub returns-clause-valid : goal.returns-clause-valid
returns-clause-valid g c = subst (λ (w : MessageList). All IsMessage w.messages) c.self.view_is (filled_valid c.self.inside.raw c.self.invariant.filled)

pub returns-clause-small : goal.returns-clause-small
returns-clause-small g c = omega (arith, c.slot_count.ensures, c.self.invariant.filled.within)
