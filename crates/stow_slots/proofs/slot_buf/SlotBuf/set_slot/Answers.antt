use Rattle.std.proofs.Common.{length, ap, ◌∙◌, arith, length-set}
use Rattle.std.specs.Prelude.{slice_set}
use Rattle.stow_raw.specs.RawBuf.{RawLists, raw_lists, raw_used}
use Rattle.stow_slots.proofs.Parts.{fits, settled, settled_all}
use Rattle.stow_slots.proofs.slot_buf.SlotBuf.set_slot.Goals as goal

pub set_slot-requires : goal.set_slot-requires
set_slot-requires g c = omega (arith, c.requires, ap (λ (r : RawLists). length r.slots) (c.settle.ensures.all ∙ c.self.view_is))

pub invariant_of-self : goal.invariant_of-self
invariant_of-self g c = let same = (c.settle.ensures.all ∙ c.self.view_is) in
    settled c.set_slot.new.self _ c.settle.ensures.none
    (omega (arith, ap raw_used c.set_slot.ensures, ap (λ (r : RawLists). r.capacity) c.set_slot.ensures, length-set c.settle.new.raw.slots c.args.index c.args.slot, ap raw_used same, ap (λ (r : RawLists). r.capacity) same, fits c.self.inside.raw c.self.inside.young.items c.self.invariant c.args.self.now c.self.view_is))

pub returns : goal.returns
returns g c = settled_all c.set_slot.new.self _ c.settle.ensures.none ∙ c.set_slot.ensures
    ∙ ap (λ (r : RawLists). raw_lists r.front (slice_set r.slots c.args.index c.args.slot) r.capacity) (c.settle.ensures.all ∙ c.self.view_is)
