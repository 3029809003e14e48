use Rattle.std.proofs.Common.{◌+◌, ◌≤◌, ◌++◌, length, take, drop, ap, ◌∙◌, arith}
use Rattle.std.specs.List.{remove_range}
use Rattle.stow_raw.specs.RawBuf.{RawLists, raw_lists, raw_used}
use Rattle.stow_slots.proofs.Parts.{fits, settled, settled_all}
use Rattle.stow_slots.proofs.Moved.{length-moved}
use Rattle.stow_slots.proofs.slot_buf.SlotBuf.move_slots.Goals as goal

pub move_slots-requires : goal.move_slots-requires
move_slots-requires g c = (c.requires.0, omega (arith, c.requires.1, ap (λ (r : RawLists). length r.slots) (c.settle.ensures.all ∙ c.self.view_is)))

pub invariant_of-self : goal.invariant_of-self
invariant_of-self g c = let same = (c.settle.ensures.all ∙ c.self.view_is) in let xs = c.settle.new.raw.slots in
    let within : c.args.from + c.args.count ≤ length xs = omega (arith, c.requires.1, ap (λ (r : RawLists). length r.slots) same) in
    settled c.move_slots.new.self _ c.settle.ensures.none
    (omega (arith, ap raw_used c.move_slots.ensures, ap (λ (r : RawLists). r.capacity) c.move_slots.ensures, length-moved xs c.args.to c.args.from c.args.count c.requires.0 within, ap raw_used same, ap (λ (r : RawLists). r.capacity) same, fits c.self.inside.raw c.self.inside.young.items c.self.invariant c.args.self.now c.self.view_is))

pub returns : goal.returns
returns g c = settled_all c.move_slots.new.self _ c.settle.ensures.none ∙ c.move_slots.ensures
    ∙ ap (λ (r : RawLists). raw_lists r.front (take (c.args.to + c.args.count) (remove_range r.slots c.args.to c.args.from) ++ drop (c.args.to + c.args.count) r.slots) r.capacity) (c.settle.ensures.all ∙ c.self.view_is)
