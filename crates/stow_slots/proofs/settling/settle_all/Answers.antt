use Rattle.std.proofs.Common.{◌≡◌, ◌+◌, ◌-◌, ◌<◌, ◌++◌, length, take, drop, get_or, ap, sym, subst, refl, ◌∙◌, arith}
use Rattle.std.specs.Prelude.{slice_set}
use Rattle.std.specs.List.{remove_range}
use Rattle.stow_raw.specs.RawBuf.{RawLists, raw_lists}
use Rattle.stow_slots.specs.Young.{all_lists}
use Rattle.stow_slots.proofs.Settled.{IsSettling, unadded, unadded_is, begun, counts, all_settled, one_more, low, high}
use Rattle.stow_slots.proofs.settling.settle_all.Goals as goal

pub loop-i-init : goal.loop-i-init
loop-i-init g c = record {
  settling = subst (λ (r : RawLists). IsSettling r c.add_slots.new.self c.args.young.now.items 0 0) (sym (unadded_is c.args.raw.now c.add_slots.new.self c.len-count.result c.add_slots.ensures))
      (begun c.args.raw.now c.add_slots.new.self c.args.young.now.items c.len-count.result c.requires (omega (arith, c.len-count.ensures)) c.add_slots.ensures);
  young = refl;
}

pub overflow_add-past : goal.overflow_add-past
overflow_add-past g c = let w = c.loop-i.invariant.settling in
    omega (arith, w.within, w.gap_is, c.loop-i-test.true, c.capacity-known.ensures, c.requires.room, c.len-count.ensures, ap (λ (r : RawLists). length r.slots) (unadded_is c.args.raw.now c.add_slots.new.self c.len-count.result c.add_slots.ensures))

pub overflow_add-count : goal.overflow_add-count
overflow_add-count g c = let w = c.loop-i.invariant.settling in
    omega (arith, w.within, w.gap_is, c.loop-i-test.true, c.capacity-known.ensures, c.requires.room, c.len-count.ensures, ap (λ (r : RawLists). length r.slots) (unadded_is c.args.raw.now c.add_slots.new.self c.len-count.result c.add_slots.ensures))

pub overflow_sub-behind : goal.overflow_sub-behind
overflow_sub-behind g c = let raw = unadded c.add_slots.new.self c.len-count.result in let young = c.args.young.now.items in let l = c.loop-i in let w = l.invariant.settling in
    let lt : l.i < length young = omega (arith, c.loop-i-test.true, c.len-count.ensures) in let y = c.index-slot.result.now in
    let is : y ≡ get_or young l.i y = c.index-slot.ensures ∙ ap (λ (v : _). get_or v.items l.i y) l.invariant.young in
    low raw l.raw young l.past l.i w lt y is

pub move_slots-requires : goal.move_slots-requires
move_slots-requires g c = let raw = unadded c.add_slots.new.self c.len-count.result in let young = c.args.young.now.items in let l = c.loop-i in let w = l.invariant.settling in
    let lt : l.i < length young = omega (arith, c.loop-i-test.true, c.len-count.ensures) in let y = c.index-slot.result.now in
    let is : y ≡ get_or young l.i y = c.index-slot.ensures ∙ ap (λ (v : _). get_or v.items l.i y) l.invariant.young in
    let up = high raw l.raw young l.past l.i w lt y is in let down = low raw l.raw young l.past l.i w lt y is in
    (omega (arith, lt, c.len-count.ensures), omega (arith, counts raw l.raw young l.past l.i w, up, down, c.len-count.ensures, w.within))

pub overflow_add-behind : goal.overflow_add-behind
overflow_add-behind g c = let raw = unadded c.add_slots.new.self c.len-count.result in let young = c.args.young.now.items in let l = c.loop-i in let w = l.invariant.settling in
    let lt : l.i < length young = omega (arith, c.loop-i-test.true, c.len-count.ensures) in let y = c.index-slot.result.now in
    let is : y ≡ get_or young l.i y = c.index-slot.ensures ∙ ap (λ (v : _). get_or v.items l.i y) l.invariant.young in
    omega (arith, high raw l.raw young l.past l.i w lt y is, lt, c.capacity-known.ensures, c.requires.room, ap (λ (r : RawLists). length r.slots) (unadded_is c.args.raw.now c.add_slots.new.self c.len-count.result c.add_slots.ensures))

pub loop-i-preserved : goal.loop-i-preserved
loop-i-preserved g c = let raw = unadded c.add_slots.new.self c.len-count.result in let young = c.args.young.now.items in let l = c.loop-i in let w = l.invariant.settling in
    let lt : l.i < length young = omega (arith, c.loop-i-test.true, c.len-count.ensures) in let y = c.index-slot.result.now in
    let is : y ≡ get_or young l.i y = c.index-slot.ensures ∙ ap (λ (v : _). get_or v.items l.i y) l.invariant.young in
    let count_is : c.len-count.result ≡ length young = omega (arith, c.len-count.ensures) in
    record {
      settling = one_more raw l.raw young l.past l.i w lt y is c.set_slot.new.self
          (c.set_slot.ensures ∙ ap (λ (r : RawLists). raw_lists r.front (slice_set r.slots (y.behind + l.i) y.slot) r.capacity) (c.move_slots.ensures ∙ ap (λ n. raw_lists l.raw.front (take (l.past + l.i + (y.behind - l.past)) (remove_range l.raw.slots (l.past + l.i) (n + l.past)) ++ drop (l.past + l.i + (y.behind - l.past)) l.raw.slots) l.raw.capacity) count_is));
      young = l.invariant.young;
    }

pub returns-clause-all : goal.returns-clause-all
returns-clause-all g c =
    all_settled (unadded c.add_slots.new.self c.len-count.result) c.loop-i.raw c.args.young.now.items c.loop-i.past c.loop-i.i c.loop-i.invariant.settling (omega (arith, c.loop-i-test.false, c.len-count.ensures))
    ∙ ap (λ (r : RawLists). all_lists r c.args.young.now.items) (unadded_is c.args.raw.now c.add_slots.new.self c.len-count.result c.add_slots.ensures)

pub returns-clause-none : goal.returns-clause-none
returns-clause-none g c = c.clear.ensures.items
