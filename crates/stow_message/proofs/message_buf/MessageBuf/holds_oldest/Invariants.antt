use Rattle.std.proofs.Common.{ℕ, ◌<◌, get_or}
use Rattle.stow_tree_model.specs.TreeMessage.{TreeMessage}
use Rattle.stow_message.proofs.Oldest.{IsOldest}
use Rattle.stow_message.proofs.message_buf.MessageBuf.holds_oldest.Given as goal

abbrev pub invariant-loop-i : goal.invariant-loop-i
invariant-loop-i g l = (j : ℕ) → j < l.i → (d : TreeMessage) → IsOldest l.batch.messages l.self.messages (get_or l.batch.messages j d)
