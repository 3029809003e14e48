use Rattle.std.proofs.Common.{sym, ap, subst}
use Rattle.std.specs.List.{sum_by}
use Rattle.stow_slots.specs.StowRaw.RawBuf.{RawLists}
use Rattle.stow_message.specs.Filter.{Covers}
use Rattle.stow_message.specs.MessageBuf.{messages_in, AreNoLarger, IsPackedBuffer}
use Rattle.stow_message.specs.Packed.{message_size}
use Rattle.stow_message.proofs.Pushed.{empty_filled}
use Rattle.stow_message.proofs.message_buf.MessageBuf.with_capacity.Goals as goal

pub invariant_of-result : goal.invariant_of-result
invariant_of-result g c = record {
  filled = subst IsPackedBuffer (sym c.in_ok-raw.ensures) (empty_filled c.args.capacity c.requires);
  covers = subst (λ (r : RawLists). Covers c.in_ok-filter.filter (messages_in r)) (sym c.in_ok-raw.ensures) tt;
  bounded = subst (λ (r : RawLists). AreNoLarger 0 (messages_in r)) (sym c.in_ok-raw.ensures) tt;
  counted = ap (λ (r : RawLists). sum_by message_size (messages_in r)) (sym c.in_ok-raw.ensures);
}
