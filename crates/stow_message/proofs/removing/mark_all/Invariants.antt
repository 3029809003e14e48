use Rattle.std.proofs.Common.{take}
use Rattle.stow_message.specs.Filter.{Covers}
use Rattle.stow_message.specs.MessageBuf.{messages_in}
use Rattle.stow_message.proofs.removing.mark_all.Given as goal

abbrev pub invariant-loop-i : goal.invariant-loop-i
invariant-loop-i g l = Covers l.filter (take l.i (messages_in l.raw))
