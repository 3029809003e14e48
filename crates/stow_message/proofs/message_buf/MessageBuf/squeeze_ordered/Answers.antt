use Rattle.std.proofs.Common.{ℕ, List, ◌++◌, ◌∙◌, length, take, drop, refl, ap, sym, subst, arith}
use Rattle.std.specs.List.{sum_by}
use Rattle.stow_slots.specs.StowRaw.RawBuf.{raw_lists}
use Rattle.stow_message.specs.Filter.{Covers}
use Rattle.stow_message.specs.MessageBuf.{MessageList, AreNoLarger}
use Rattle.stow_message.specs.Packed.{message_size, message_at, IsNoLarger}
use Rattle.stow_message.proofs.Bounded.{still_no_larger}
use Rattle.stow_message.proofs.Counted.{is_counted}
use Rattle.stow_message.proofs.Covered.{covered}
use Rattle.stow_message.proofs.Each.{each_next, each_of_all}
use Rattle.stow_message.proofs.Pushed.{slots_of_messages}
use Rattle.stow_message.proofs.Reading.{length-message_bytes}
use Rattle.stow_message.proofs.Squeezed.{turn, end}
use Rattle.stow_message.proofs.message_buf.MessageBuf.squeeze_ordered.Goals as goal

pub slot-requires : goal.slot-requires
slot-requires g c = (turn c.self.inside.raw c.self.invariant.filled c.args.self.now c.self.view_is c.loop-i.i c.loop-i.self-inside.raw c.loop-i.invariant.raw c.loop-i.spare _ c.loop-i.invariant.spare (omega (arith, c.loop-i-test.true, c.slot_count-i-end.ensures))).slot

pub packed_at-message-requires : goal.packed_at-message-requires
packed_at-message-requires g c =
    let t = turn c.self.inside.raw c.self.invariant.filled c.args.self.now c.self.view_is c.loop-i.i c.loop-i.self-inside.raw c.loop-i.invariant.raw c.loop-i.spare _ c.loop-i.invariant.spare (omega (arith, c.loop-i-test.true, c.slot_count-i-end.ensures)) in
    record { begins = t.begins c.slot.result c.slot.ensures; small = t.small }

pub overflow_cast-at : goal.overflow_cast-at
overflow_cast-at g c =
    let t = turn c.self.inside.raw c.self.invariant.filled c.args.self.now c.self.view_is c.loop-i.i c.loop-i.self-inside.raw c.loop-i.invariant.raw c.loop-i.spare _ c.loop-i.invariant.spare (omega (arith, c.loop-i-test.true, c.slot_count-i-end.ensures)) in
    record { fits = omega (arith, c.front_len-at.ensures, t.place) }

pub push_front-requires : goal.push_front-requires
push_front-requires g c =
    let t = turn c.self.inside.raw c.self.invariant.filled c.args.self.now c.self.view_is c.loop-i.i c.loop-i.self-inside.raw c.loop-i.invariant.raw c.loop-i.spare _ c.loop-i.invariant.spare (omega (arith, c.loop-i-test.true, c.slot_count-i-end.ensures)) in
    omega (arith, t.room c.slot.result c.slot.ensures _ refl c.requires, ap length c.packed_at-message.ensures)

pub set_slot-requires : goal.set_slot-requires
set_slot-requires g c = (turn c.self.inside.raw c.self.invariant.filled c.args.self.now c.self.view_is c.loop-i.i c.loop-i.self-inside.raw c.loop-i.invariant.raw c.loop-i.spare _ c.loop-i.invariant.spare (omega (arith, c.loop-i-test.true, c.slot_count-i-end.ensures))).slot

pub loop-i-preserved : goal.loop-i-preserved
loop-i-preserved g c =
    let t = turn c.self.inside.raw c.self.invariant.filled c.args.self.now c.self.view_is c.loop-i.i c.loop-i.self-inside.raw c.loop-i.invariant.raw c.loop-i.spare _ c.loop-i.invariant.spare (omega (arith, c.loop-i-test.true, c.slot_count-i-end.ensures)) in
    let spare = c.loop-i.spare in
    record {
      raw = t.slots _ c.front_len-at.ensures _ c.set_slot.ensures;
      marks = c.loop-i.invariant.marks;
      live = c.loop-i.invariant.live;
      bounded = let m = message_at (drop c.slot.result c.loop-i.self-inside.raw.front) in let most = c.max-largest.result in
          each_next (IsNoLarger most) c.args.self.now.messages c.loop-i.i m t.more (t.there c.slot.result c.slot.ensures m refl) (omega (arith, ap length c.packed_at-message.ensures, length-message_bytes m, c.max-largest.ensures))
          (still_no_larger c.loop-i.largest most (take c.loop-i.i c.args.self.now.messages) (omega (arith, c.max-largest.ensures)) c.loop-i.invariant.bounded);
      spare = t.bytes c.slot.result c.slot.ensures _ refl _ (c.push_front.ensures ∙ ap (λ l. raw_lists (spare.front ++ l) spare.slots spare.capacity) c.packed_at-message.ensures);
    }

pub bring_front-requires : goal.bring_front-requires
bring_front-requires g c = (end c.self.inside.raw c.self.invariant.filled c.args.self.now c.self.view_is c.loop-i.i c.loop-i.self-inside.raw c.loop-i.invariant.raw c.loop-i.spare _ c.loop-i.invariant.spare (omega (arith, c.loop-i-test.false, c.slot_count-i-end.ensures))).room

pub renew_marks-requires : goal.renew_marks-requires
renew_marks-requires g c =
    let e = (end c.self.inside.raw c.self.invariant.filled c.args.self.now c.self.view_is c.loop-i.i c.loop-i.self-inside.raw c.loop-i.invariant.raw c.loop-i.spare _ c.loop-i.invariant.spare (omega (arith, c.loop-i-test.false, c.slot_count-i-end.ensures))) in
    let marks = c.self.inside.filter in
    record {
      filled = e.filled _ c.bring_front.ensures.brought;
      covers = subst (Covers c.loop-i.self-inside.filter) (sym (ap (λ (w : MessageList). w.messages) (e.is _ c.bring_front.ensures.brought)))
          (subst (λ (bits : List ℕ). Covers bits c.args.self.now.messages) (sym c.loop-i.invariant.marks)
          (covered c.self.inside.raw marks c.args.self.now c.self.view_is c.self.invariant.covers));
    }

pub invariant_of-self : goal.invariant_of-self
invariant_of-self g c = let e = (end c.self.inside.raw c.self.invariant.filled c.args.self.now c.self.view_is c.loop-i.i c.loop-i.self-inside.raw c.loop-i.invariant.raw c.loop-i.spare _ c.loop-i.invariant.spare (omega (arith, c.loop-i-test.false, c.slot_count-i-end.ensures))) in record {
  filled = e.filled _ c.bring_front.ensures.brought;
  covers = c.renew_marks.ensures;
  bounded = subst (AreNoLarger c.loop-i.largest) (sym (ap (λ (w : MessageList). w.messages) (e.is _ c.bring_front.ensures.brought)))
      (each_of_all (IsNoLarger c.loop-i.largest) c.args.self.now.messages c.loop-i.i
      (omega (arith, c.loop-i-test.false, c.slot_count-i-end.ensures, slots_of_messages c.self.inside.raw, ap (λ (w : MessageList). length w.messages) c.self.view_is)) c.loop-i.invariant.bounded);
  counted = c.loop-i.invariant.live ∙ is_counted c.self.inside.raw c.self.inside.live c.args.self.now c.self.view_is c.self.invariant.counted ∙ sym (ap (λ (w : MessageList). sum_by message_size w.messages) (e.is _ c.bring_front.ensures.brought));
}

pub returns-clause-squeezed : goal.returns-clause-squeezed
returns-clause-squeezed g c = (end c.self.inside.raw c.self.invariant.filled c.args.self.now c.self.view_is c.loop-i.i c.loop-i.self-inside.raw c.loop-i.invariant.raw c.loop-i.spare _ c.loop-i.invariant.spare (omega (arith, c.loop-i-test.false, c.slot_count-i-end.ensures))).is _ c.bring_front.ensures.brought
