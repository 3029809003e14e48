use Rattle.std.proofs.Common.{◌≡◌, [], ◌++◌, take, drop}
use Rattle.stow_slots.specs.StowRaw.RawBuf.{raw_lists}
use Rattle.stow_message.specs.MessageBuf.{AreNoLarger}
use Rattle.stow_message.specs.Packed.{all_bytes, places_from}
use Rattle.stow_message.proofs.message_buf.MessageBuf.squeeze_ordered.Given as goal

abbrev pub invariant-loop-i : goal.invariant-loop-i
invariant-loop-i g l = let old = l.initial.self-inside.raw in let ms = l.fn.self.messages in let old_marks = l.initial.self-inside.filter in record {
  raw : l.self-inside.raw ≡ raw_lists old.front (take l.i (places_from 0 ms) ++ drop l.i old.slots) old.capacity;
  marks : l.self-inside.filter ≡ old_marks;
  live : l.self-inside.live ≡ l.initial.self-inside.live;
  bounded : AreNoLarger l.largest (take l.i ms);
  spare : l.spare ≡ raw_lists (all_bytes (take l.i ms)) [] l.fn.spare.capacity;
}
