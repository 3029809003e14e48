use Rattle.std.proofs.Common.{sym, ap, subst}
use Rattle.std.specs.List.{sum_by}
use Rattle.stow_slots.specs.StowRaw.RawBuf.{RawLists}
use Rattle.stow_message.specs.Filter.{Covers}
use Rattle.stow_message.specs.MessageBuf.{messages_in, AreNoLarger, IsPackedBuffer}
use Rattle.stow_message.specs.Packed.{message_size}
use Rattle.stow_message.proofs.Pushed.{empty_filled}
use Rattle.stow_message.proofs.message_buf.MessageBuf.reset.Goals as goal

pub invariant_of-self : goal.invariant_of-self
invariant_of-self g c = record {
  filled = subst IsPackedBuffer (sym c.reset.ensures) (empty_filled c.self.inside.raw.capacity c.self.invariant.filled.within.1);
  covers = subst (λ (r : RawLists). Covers c.clear.new.self (messages_in r)) (sym c.reset.ensures) tt;
  bounded = subst (λ (r : RawLists). AreNoLarger 0 (messages_in r)) (sym c.reset.ensures) tt;
  counted = ap (λ (r : RawLists). sum_by message_size (messages_in r)) (sym c.reset.ensures);
}
