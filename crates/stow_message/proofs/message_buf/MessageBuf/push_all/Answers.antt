use Rattle.std.proofs.Common.{ℕ, List, ◌≡◌, ◌+◌, ◌-◌, ◌*◌, ◌^◌, ◌<◌, ◌≤◌, length, refl, ap, sym, subst, arith, length-append}
use Rattle.std.specs.List.{sum_by}
use Rattle.stow_slots.specs.StowRaw.RawBuf.{RawLists, raw_used}
use Rattle.stow_tree_model.specs.TreeMessage.{TreeMessage, message_of}
use Rattle.stow_message.specs.Packed.{all_bytes, message_size, IsNoLarger}
use Rattle.stow_message.specs.Filter.{Covers, IsCovered}
use Rattle.stow_message.specs.MessageBuf.{MessageList, messages_in, AreNoLarger}
use Rattle.stow_message.proofs.Counted.{is_counted}
use Rattle.stow_message.proofs.Placed.{sum-all_placed}
use Rattle.stow_message.proofs.Covered.{covered, covers_more}
use Rattle.stow_message.proofs.Bounded.{still_no_larger, are_no_larger}
use Rattle.stow_message.proofs.Each.{each_all_placed}
use Rattle.stow_message.proofs.Squeezed.{all_sizes}
use Rattle.stow_message.proofs.Merged.{Filling, filling, filled_here, here_small, old_within, place_here, end_within, next, now_filled, now_seen}
use Rattle.stow_slots.proofs.Moved.{length-moved}
use Rattle.stow_message.proofs.message_buf.MessageBuf.push_all.Given as given
use Rattle.stow_message.proofs.message_buf.MessageBuf.push_all.Goals as goal
use Rattle.stow_message.proofs.message_buf.MessageBuf.push_all.Goals.{After-front_len}

-- the bytes of the run
grown : (g : given.Over) (c : After-front_len g) → c.front_len.result - c.front_len-at.result + 4 * c.len-count.result ≡ sum_by message_size c.args.run.now
grown g c = omega (
  arith,
  c.front_len.ensures,
  ap (λ (r : RawLists). length r.front) c.append_all.ensures,
  length-append c.self.inside.raw.front (all_bytes c.args.run.now),
  all_sizes c.args.run.now,
  c.front_len-at.ensures,
  c.len-count.ensures,
)

pub append_all-requires : goal.append_all-requires
append_all-requires g c = let run = c.args.run.now in
    omega (arith, c.requires.room, all_sizes run, ap (λ (w : MessageList). w.used) c.self.view_is, ap (λ (w : MessageList). w.capacity) c.self.view_is)

pub add_slots-requires : goal.add_slots-requires
add_slots-requires g c = let raw = c.self.inside.raw in let run = c.args.run.now in let e = c.append_all.ensures in
    omega (
      arith,
      c.requires.room,
      all_sizes run,
      ap (λ (w : MessageList). w.used) c.self.view_is,
      ap (λ (w : MessageList). w.capacity) c.self.view_is,
      c.len-count.ensures,
      ap raw_used e,
      ap (λ (r : RawLists). r.capacity) e,
      length-append raw.front (all_bytes run),
    )

pub loop-new-init : goal.loop-new-init
loop-new-init g c = let count = c.len-count.result in
    let start : 0 ≡ count + 0 - length c.args.run.now = omega (arith, c.len-count.ensures) in
    record {
      filling = subst (λ k. Filling c.args.self.now c.args.run.now c.add_slots.new.self 0 count k c.front_len-at.result) start
          (filling c.args.self.now c.args.run.now c.requires.room c.requires.valid c.self.inside.raw c.self.invariant.filled c.self.view_is c.append_all.new.raw c.add_slots.new.self c.append_all.ensures count c.len-count.ensures
          c.add_slots.ensures c.front_len-at.result c.front_len-at.ensures);
      marks = refl;
      live = refl;
      largest = refl;
    }

pub search_from-end-requires-clause-within : goal.search_from-end-requires-clause-within
search_from-end-requires-clause-within g c = let l = c.loop-new in let v = c.args.self.now in let run = c.args.run.now in
    old_within v run c.requires.room c.requires.valid l.self-inside.raw l.new l.old (l.old + l.new - length run) l.at l.invariant.filling

pub search_from-end-requires-clause-filled : goal.search_from-end-requires-clause-filled
search_from-end-requires-clause-filled g c = let l = c.loop-new in let v = c.args.self.now in let run = c.args.run.now in
    filled_here v run c.requires.room c.requires.valid l.self-inside.raw l.new l.old (l.old + l.new - length run) l.at l.invariant.filling

pub move_slots-requires : goal.move_slots-requires
move_slots-requires g c = let l = c.loop-new in let v = c.args.self.now in let run = c.args.run.now in
    let lt : l.new < length run = omega (arith, c.loop-new-test.true, c.len-count.ensures) in let end = c.search_from-end.result in
    let ends = end_within v run c.requires.room c.requires.valid l.self-inside.raw l.new l.old (l.old + l.new - length run) l.at l.invariant.filling lt (message_of c.get-message.result) c.get-message.ensures end c.search_from-end.ensures in
    (omega arith, omega (arith, ends.0, ends.1))

pub set_slot-requires : goal.set_slot-requires
set_slot-requires g c = let l = c.loop-new in let v = c.args.self.now in let run = c.args.run.now in let k = l.old + l.new - length run in let w = l.invariant.filling in
    let lt : l.new < length run = omega (arith, c.loop-new-test.true, c.len-count.ensures) in let end = c.search_from-end.result in let gap = c.len-count.result - l.new in let slots = l.self-inside.raw.slots in
    let ends = end_within v run c.requires.room c.requires.valid l.self-inside.raw l.new l.old k l.at w lt (message_of c.get-message.result) c.get-message.ensures end c.search_from-end.ensures in
    let order : l.old - gap ≤ l.old = omega arith in let fits : l.old + (end - l.old) ≤ length slots = omega (arith, ends.0, ends.1) in
    omega (
      arith,
      ap (λ (r : RawLists). length r.slots) c.move_slots.ensures,
      length-moved slots (l.old - gap) l.old (end - l.old) order fits,
      ends.0,
      ends.1,
      place_here v run c.requires.room c.requires.valid l.self-inside.raw l.new l.old k l.at w,
      lt,
      c.len-count.ensures,
    )

pub overflow_cast-at : goal.overflow_cast-at
overflow_cast-at g c = let l = c.loop-new in let run = c.args.run.now in
    record { fits = here_small c.args.self.now run c.requires.room c.requires.valid l.self-inside.raw l.new l.old (l.old + l.new - length run) l.at l.invariant.filling }

pub overflow_add-at : goal.overflow_add-at
overflow_add-at g c = let l = c.loop-new in let m = c.get-message.result in let run = c.args.run.now in
    record { fits = omega (arith, here_small c.args.self.now run c.requires.room c.requires.valid l.self-inside.raw l.new l.old (l.old + l.new - length run) l.at l.invariant.filling, c.size.ensures, m.is_short, m.key.is_key.is_short) }

pub loop-new-preserved : goal.loop-new-preserved
loop-new-preserved g c =
    let l = c.loop-new in let v = c.args.self.now in let run = c.args.run.now in let k = l.old + l.new - length run in let m : TreeMessage = message_of c.get-message.result in
    let lt : l.new < length run = omega (arith, c.loop-new-test.true, c.len-count.ensures) in let w = l.invariant.filling in let end = c.search_from-end.result in
    let counts = place_here v run c.requires.room c.requires.valid l.self-inside.raw l.new l.old k l.at w in
    record {
      filling = next v run c.requires.room c.requires.valid l.self-inside.raw l.new l.old k l.at w lt m c.get-message.ensures end c.search_from-end.ensures _ _ (omega (arith, counts, c.len-count.ensures, lt)) refl
          c.move_slots.new.self c.move_slots.ensures _ (omega (arith, counts, c.len-count.ensures, lt)) c.set_slot.new.self c.set_slot.ensures _ (omega (arith, c.size.ensures)) _ (omega (arith, counts));
      marks = l.invariant.marks;
      live = l.invariant.live;
      largest = l.invariant.largest;
    }

pub invariant_of-self : goal.invariant_of-self
invariant_of-self g c = let l = c.loop-new in
    let marks = c.mark_run.new.filter in
    record {
      filled = now_filled c.args.self.now c.args.run.now c.requires.room c.requires.valid l.self-inside.raw l.new l.old (l.old + l.new - length c.args.run.now) l.at l.invariant.filling c.requires.rising c.requires.new (omega (arith, c.loop-new-test.false, c.len-count.ensures));
      covers = subst (λ (bits : List ℕ). Covers bits (messages_in l.self-inside.raw)) (sym l.invariant.marks) (subst (Covers marks)
          (sym (ap (λ (w : MessageList). w.messages) (now_seen c.args.self.now c.args.run.now c.requires.room c.requires.valid l.self-inside.raw l.new l.old (l.old + l.new - length c.args.run.now) l.at l.invariant.filling c.requires.rising c.requires.new (omega (arith, c.loop-new-test.false, c.len-count.ensures)))))
          (each_all_placed (IsCovered marks) c.args.run.now c.args.self.now.messages c.mark_run.ensures.added
          (covers_more c.self.inside.filter marks c.args.self.now.messages c.mark_run.ensures.stay
          (covered c.self.inside.raw c.self.inside.filter c.args.self.now c.self.view_is c.self.invariant.covers))));
      counted = omega (
        arith,
        l.invariant.live,
        is_counted c.self.inside.raw c.self.inside.live c.args.self.now c.self.view_is c.self.invariant.counted,
        grown g (goal.at.invariant_of-self g c).After-front_len,
        sum-all_placed c.args.run.now c.args.self.now.messages,
        ap (λ (w : MessageList). sum_by message_size w.messages) (now_seen c.args.self.now c.args.run.now c.requires.room c.requires.valid l.self-inside.raw l.new l.old (l.old + l.new - length c.args.run.now) l.at l.invariant.filling c.requires.rising c.requires.new (omega (arith, c.loop-new-test.false, c.len-count.ensures))),
      );
      bounded = let most = c.max-self-inside.result in subst (AreNoLarger most)
          (sym (ap (λ (w : MessageList). w.messages) (now_seen c.args.self.now c.args.run.now c.requires.room c.requires.valid l.self-inside.raw l.new l.old (l.old + l.new - length c.args.run.now) l.at l.invariant.filling c.requires.rising c.requires.new (omega (arith, c.loop-new-test.false, c.len-count.ensures)))))
          (each_all_placed (IsNoLarger most) c.args.run.now c.args.self.now.messages
          (still_no_larger c.largest.result most c.args.run.now (omega (arith, c.max-self-inside.ensures)) c.largest.ensures)
          (still_no_larger c.self.inside.largest most c.args.self.now.messages (omega (arith, c.max-self-inside.ensures, l.invariant.largest))
          (are_no_larger c.self.inside.raw c.self.inside.largest c.args.self.now c.self.view_is c.self.invariant.bounded)));
    }

pub returns : goal.returns
returns g c = let l = c.loop-new in
    now_seen c.args.self.now c.args.run.now c.requires.room c.requires.valid l.self-inside.raw l.new l.old (l.old + l.new - length c.args.run.now) l.at l.invariant.filling c.requires.rising c.requires.new (omega (arith, c.loop-new-test.false, c.len-count.ensures))

-- all that takes room is within the block
fits : (g : given.Over) (c : After-front_len g) → c.self.inside.live + sum_by message_size c.args.run.now < 2 ^ 32
fits g c = omega (arith, c.requires.room, c.self.invariant.counted, c.self.invariant.filled.live, c.self.invariant.filled.within, ap (λ (w : MessageList). w.used) c.self.view_is, ap (λ (w : MessageList). w.capacity) c.self.view_is)

pub overflow_mul-bytes : goal.overflow_mul-bytes
overflow_mul-bytes g c = record { fits = omega (arith, c.len-count.ensures, all_sizes c.args.run.now, fits g c) }

pub overflow_add-bytes : goal.overflow_add-bytes
overflow_add-bytes g c = record { fits = omega (arith, grown g c, fits g c) }

pub overflow_add-self : goal.overflow_add-self
overflow_add-self g c =
    let n = (goal.at.overflow_add-self g c).After-front_len in
    record { fits = omega (arith, c.loop-new.invariant.live, grown g n, fits g n) }
