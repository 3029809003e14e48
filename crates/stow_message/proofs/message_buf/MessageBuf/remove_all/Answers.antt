use Rattle.std.proofs.Common.{◌≡◌, ℕ, List, ◌-◌, ◌*◌, ◌<◌, ◌≤◌, [], length, refl, ap, sym, subst, ◌∙◌, arith}
use Rattle.std.specs.List.{Contains, sum_by}
use Rattle.stow_slots.specs.StowRaw.RawBuf.{RawLists, raw_used}
use Rattle.stow_tree_model.specs.TreeMessage.{TreeMessage, message_of}
use Rattle.stow_tree_model.specs.Order.{MessagesRise}
use Rattle.stow_message.specs.Filter.{Covers, IsCovered}
use Rattle.stow_message.specs.MessageBuf.{MessageList, message_list, messages_in, AreNoLarger, IsPackedBuffer}
use Rattle.stow_message.specs.Packed.{message_size, IsNoLarger}
use Rattle.stow_message.specs.Rising.{AreHeld, without}
use Rattle.stow_message.proofs.Counted.{kept_counted}
use Rattle.stow_message.proofs.Each.{each_without}
use Rattle.stow_message.proofs.RisingLists.{all_by}
use Rattle.stow_message.proofs.Taken.{taken, unfound, held_found, kept_without, taken_messages, taken_filled, taken_used}
use Rattle.stow_message.proofs.TakenOut.{begun, filled_now, slots_stay, end_within, next, taken_is}
use Rattle.stow_message.proofs.message_buf.MessageBuf.remove_all.Goals as goal

-- the walk finds the whole batch
all_found : (raw : RawLists) (bs : List TreeMessage) → IsPackedBuffer raw → MessagesRise bs → AreHeld bs (messages_in raw) → unfound bs (messages_in raw) ≡ []
all_found raw bs h rise held = held_found bs (messages_in raw) rise h.rising (all_by (Contains (messages_in raw)) bs held)

pub loop-i-init : goal.loop-i-init
loop-i-init g c = let raw = c.self.inside.raw in let bs = c.args.batch.now.messages in record {
  taking = begun raw bs (all_found raw bs c.self.invariant.filled c.len-i-end.ensures.rising (subst (λ (w : MessageList). AreHeld bs w.messages) (sym c.self.view_is) c.requires));
  marks = refl;
  live = refl;
  largest = refl;
}

pub search_from-at-requires-clause-filled : goal.search_from-at-requires-clause-filled
search_from-at-requires-clause-filled g c = let l = c.loop-i in
    filled_now c.self.inside.raw c.self.invariant.filled c.args.batch.now.messages l.self-inside.raw l.kept l.i l.from l.invariant.taking

pub move_slots-requires : goal.move_slots-requires
move_slots-requires g c = let l = c.loop-i in let raw = c.self.inside.raw in let bs = c.args.batch.now.messages in let h = c.self.invariant.filled in let w = l.invariant.taking in
    let lt : l.i < length bs = omega (arith, c.loop-i-test.true, c.len-i-end.ensures.len) in
    let ends = end_within raw h bs l.self-inside.raw l.kept l.i l.from w lt (message_of c.message-gone.result) c.message-gone.ensures c.search_from-at.result c.search_from-at.ensures in
    (omega (arith, w.counts), omega (arith, ends, slots_stay raw h bs l.self-inside.raw l.kept l.i l.from w))

pub overflow_add-from : goal.overflow_add-from
overflow_add-from g c = let l = c.loop-i in let raw = c.self.inside.raw in let bs = c.args.batch.now.messages in let h = c.self.invariant.filled in let w = l.invariant.taking in
    let lt : l.i < length bs = omega (arith, c.loop-i-test.true, c.len-i-end.ensures.len) in
    let ends = end_within raw h bs l.self-inside.raw l.kept l.i l.from w lt (message_of c.message-gone.result) c.message-gone.ensures c.search_from-at.result c.search_from-at.ensures in
    record { fits = omega (arith, ends, h.within) }

pub loop-i-preserved : goal.loop-i-preserved
loop-i-preserved g c = let l = c.loop-i in let raw = c.self.inside.raw in let bs = c.args.batch.now.messages in let h = c.self.invariant.filled in let w = l.invariant.taking in
    let lt : l.i < length bs = omega (arith, c.loop-i-test.true, c.len-i-end.ensures.len) in record {
      taking = next raw h bs l.self-inside.raw l.kept l.i l.from w lt (message_of c.message-gone.result) c.message-gone.ensures c.search_from-at.result c.search_from-at.ensures
          _ refl c.move_slots.new.self c.move_slots.ensures _ refl _ refl;
      marks = l.invariant.marks;
      live = l.invariant.live;
      largest = l.invariant.largest;
    }

pub invariant_of-self : goal.invariant_of-self
invariant_of-self g c = let l = c.loop-i in let raw = c.self.inside.raw in let bs = c.args.batch.now.messages in let h = c.self.invariant.filled in let w = l.invariant.taking in
    let past : length bs ≤ l.i = omega (arith, c.loop-i-test.false, c.len-i-end.ensures.len) in let marks = c.self.inside.filter in
    let all = all_found raw bs h c.len-i-end.ensures.rising (subst (λ (w : MessageList). AreHeld bs w.messages) (sym c.self.view_is) c.requires) in
    let is = taken_is raw h bs l.self-inside.raw l.kept l.i l.from w past c.remove_slots.new.self (l.from - l.kept) refl c.remove_slots.ensures in
    record {
      filled = subst IsPackedBuffer (sym is) (taken_filled raw h bs all);
      covers = subst (λ (bits : List ℕ). Covers bits (messages_in c.remove_slots.new.self)) (sym l.invariant.marks) (subst (λ (r : RawLists). Covers marks (messages_in r)) (sym is)
          (subst (Covers marks) (sym (taken_messages raw h bs all)) (each_without (IsCovered marks) bs (messages_in raw) c.self.invariant.covers)));
      bounded = let most = c.self.inside.largest in subst (λ most. AreNoLarger most (messages_in c.remove_slots.new.self)) (sym l.invariant.largest) (subst (λ (r : RawLists). AreNoLarger most (messages_in r)) (sym is)
          (subst (AreNoLarger most) (sym (taken_messages raw h bs all)) (each_without (IsNoLarger most) bs (messages_in raw) c.self.invariant.bounded)));
      counted = omega (
        arith,
        l.invariant.live,
        c.self.invariant.counted,
        c.live.ensures,
        kept_counted bs (messages_in raw),
        ap (sum_by message_size) all,
        ap (sum_by message_size) (kept_without bs (messages_in raw) h.rising all),
        ap (λ r. sum_by message_size (messages_in r)) is,
        ap (sum_by message_size) (taken_messages raw h bs all),
      );
    }

pub returns : goal.returns
returns g c = let l = c.loop-i in let raw = c.self.inside.raw in let bs = c.args.batch.now.messages in let h = c.self.invariant.filled in let w = l.invariant.taking in
    let past : length bs ≤ l.i = omega (arith, c.loop-i-test.false, c.len-i-end.ensures.len) in
    let all = all_found raw bs h c.len-i-end.ensures.rising (subst (λ (w : MessageList). AreHeld bs w.messages) (sym c.self.view_is) c.requires) in
    let is = taken_is raw h bs l.self-inside.raw l.kept l.i l.from w past c.remove_slots.new.self (l.from - l.kept) refl c.remove_slots.ensures in
    let less : raw_used (taken raw bs) ≡ raw_used raw - 4 * length bs = omega (arith, taken_used raw h bs all) in
    ap (λ (r : RawLists). message_list (messages_in r) (raw_used r) r.capacity) is ∙ (λ j. message_list (taken_messages raw h bs all j) (less j) raw.capacity)
    ∙ ap (λ (w : MessageList). message_list (without bs w.messages) (w.used - 4 * length bs) w.capacity) c.self.view_is

pub overflow_sub-self : goal.overflow_sub-self
overflow_sub-self g c = let raw = c.self.inside.raw in let bs = c.args.batch.now.messages in let h = c.self.invariant.filled in
    let all = all_found raw bs h c.len-i-end.ensures.rising (subst (λ (w : MessageList). AreHeld bs w.messages) (sym c.self.view_is) c.requires) in
    omega (arith, c.loop-i.invariant.live, c.self.invariant.counted, c.live.ensures, kept_counted bs (messages_in raw), ap (sum_by message_size) all)
