use Rattle.std.proofs.Common.{◌+◌, ◌≤◌, drop, length, ap, sym, subst, ◌∙◌, arith}
use Rattle.std.specs.List.{sum_by}
use Rattle.stow_slots.specs.StowRaw.RawBuf.{RawLists}
use Rattle.stow_message.specs.Filter.{Covers, IsCovered}
use Rattle.stow_message.specs.MessageBuf.{messages_in, AreNoLarger}
use Rattle.stow_message.specs.Packed.{message_bytes, message_at, message_size, IsNoLarger}
use Rattle.stow_message.proofs.Removed.{all_removed, last_messages, last_filled, last_view}
use Rattle.stow_message.proofs.Single.{slot_within, single_counted}
use Rattle.stow_message.proofs.message_buf.MessageBuf.remove_young.Goals as goal

pub overflow_sub-self : goal.overflow_sub-self
overflow_sub-self g c =
    let raw = c.self.inside.raw in let at = c.in-Some.slot in let there = c.in-Some.ensures.taken in
    omega (arith, c.self.invariant.counted, single_counted raw c.args.place.count at there.0 c.packed_at.result.now (c.packed_at.ensures ∙ ap (λ (r : RawLists). message_bytes (message_at (drop at r.front))) there.1))

pub invariant_of-self-2 : goal.invariant_of-self-2
invariant_of-self-2 g c =
    let raw = c.self.inside.raw in let last = c.remove_young.new.self in let h = c.self.invariant.filled in let i = c.args.place.count in let at = c.in-Some.slot in let there = c.in-Some.ensures.taken in
    let within = slot_within raw i at there.0 in
    let le : i + 1 ≤ length raw.slots = omega (arith, within) in
    record {
      filled = last_filled raw last h i 1 le there.1;
      covers = subst (Covers c.self.inside.filter) (sym (last_messages raw last h i 1 le there.1)) (all_removed (IsCovered c.self.inside.filter) (messages_in raw) i (i + 1) (omega arith) c.self.invariant.covers);
      bounded = subst (AreNoLarger c.self.inside.largest) (sym (last_messages raw last h i 1 le there.1)) (all_removed (IsNoLarger c.self.inside.largest) (messages_in raw) i (i + 1) (omega arith) c.self.invariant.bounded);
      counted = omega (arith, c.self.invariant.counted, single_counted raw i at there.0 c.packed_at.result.now (c.packed_at.ensures ∙ ap (λ (r : RawLists). message_bytes (message_at (drop at r.front))) there.1), ap (sum_by message_size) (last_messages raw last h i 1 le there.1));
    }

pub returns-clause-gone : goal.returns-clause-gone
returns-clause-gone g c = λ _.
    let raw = c.self.inside.raw in let there = c.in-Some.ensures.taken in
    let within = slot_within raw c.args.place.count c.in-Some.slot there.0 in
    let le : c.args.place.count + 1 ≤ length raw.slots = omega (arith, within) in
    last_view raw c.remove_young.new.self c.self.invariant.filled c.args.place.count 1 le there.1 c.args.self.now c.self.view_is
