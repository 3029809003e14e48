use Rattle.std.proofs.Common.{◌≡◌, ◌++◌, take}
use Rattle.stow_slots.specs.StowRaw.RawBuf.{raw_lists}
use Rattle.stow_message.specs.Packed.{all_bytes}
use Rattle.stow_message.proofs.putting.append_all.Given as goal

abbrev pub invariant-loop-i : goal.invariant-loop-i
invariant-loop-i g l = l.raw ≡ raw_lists (l.fn.raw.front ++ all_bytes (take l.i l.run)) l.fn.raw.slots l.fn.raw.capacity
