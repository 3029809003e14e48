use Rattle.std.proofs.Common.{◌≡◌, take}
use Rattle.std.specs.List.{sum_by}
use Rattle.stow_message.specs.Packed.{message_size}
use Rattle.stow_message.proofs.message_buf.sum_of.Given as goal

-- the bytes of so many messages
abbrev pub invariant-loop-i : goal.invariant-loop-i
invariant-loop-i g l = l.total ≡ sum_by message_size (take l.i l.run)
