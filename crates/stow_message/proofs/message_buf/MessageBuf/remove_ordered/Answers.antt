use Rattle.std.proofs.Common.{◌+◌, ◌≤◌, length, ap, sym, subst, arith}
use Rattle.std.specs.List.{sum_by}
use Rattle.stow_message.specs.Filter.{Covers, IsCovered}
use Rattle.stow_message.specs.MessageBuf.{MessageList, messages_in, AreNoLarger}
use Rattle.stow_message.specs.Packed.{message_size, IsNoLarger}
use Rattle.stow_message.proofs.Counted.{rest_counted, gone_counted}
use Rattle.stow_message.proofs.Pushed.{slots_of_messages}
use Rattle.stow_message.proofs.Removed.{all_removed, last_messages, last_filled, last_view}
use Rattle.stow_message.proofs.message_buf.MessageBuf.remove_ordered.Goals as goal

pub remove_slots-requires : goal.remove_slots-requires
remove_slots-requires g c = omega (arith, c.requires, slots_of_messages c.self.inside.raw, ap (λ (w : MessageList). length w.messages) c.self.view_is)

pub invariant_of-self : goal.invariant_of-self
invariant_of-self g c =
    let raw = c.self.inside.raw in let last = c.remove_slots.new.self in let h = c.self.invariant.filled in let i = c.args.index in let k = c.args.count in
    let le : i + k ≤ length raw.slots = omega (arith, c.requires, slots_of_messages raw, ap (λ (w : MessageList). length w.messages) c.self.view_is) in
    record {
      filled = last_filled raw last h i k le c.remove_slots.ensures;
      covers = subst (Covers c.self.inside.filter) (sym (last_messages raw last h i k le c.remove_slots.ensures)) (all_removed (IsCovered c.self.inside.filter) (messages_in raw) i (i + k) (omega arith) c.self.invariant.covers);
      bounded = subst (AreNoLarger c.self.inside.largest) (sym (last_messages raw last h i k le c.remove_slots.ensures)) (all_removed (IsNoLarger c.self.inside.largest) (messages_in raw) i (i + k) (omega arith) c.self.invariant.bounded);
      counted = omega (arith, c.self.invariant.counted, rest_counted (messages_in raw) i k, gone_counted raw c.args.self.now c.self.view_is i k _ c.bytes_in-gone.ensures, ap (sum_by message_size) (last_messages raw last h i k le c.remove_slots.ensures));
    }

pub overflow_sub-self : goal.overflow_sub-self
overflow_sub-self g c = omega (arith, c.self.invariant.counted, rest_counted (messages_in c.self.inside.raw) c.args.index c.args.count, gone_counted c.self.inside.raw c.args.self.now c.self.view_is c.args.index c.args.count _ c.bytes_in-gone.ensures)

pub returns : goal.returns
returns g c =
    let raw = c.self.inside.raw in
    let le : c.args.index + c.args.count ≤ length raw.slots = omega (arith, c.requires, slots_of_messages raw, ap (λ (w : MessageList). length w.messages) c.self.view_is) in
    last_view raw c.remove_slots.new.self c.self.invariant.filled c.args.index c.args.count le c.remove_slots.ensures c.args.self.now c.self.view_is
