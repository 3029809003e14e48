use Rattle.std.proofs.Common.{◌+◌, length, take, drop, ap, ◌∙◌, arith, length-append, length-take, length-drop}
use Rattle.std.specs.List.{remove_range}
use Rattle.stow_raw.specs.RawBuf.{RawLists, raw_lists, raw_used}
use Rattle.stow_slots.proofs.Parts.{fits, settled, settled_all}
use Rattle.stow_slots.proofs.slot_buf.SlotBuf.remove_slots.Goals as goal

pub remove_slots-requires : goal.remove_slots-requires
remove_slots-requires g c = omega (arith, c.requires, ap (λ (r : RawLists). length r.slots) (c.settle.ensures.all ∙ c.self.view_is))

pub invariant_of-self : goal.invariant_of-self
invariant_of-self g c = let same = (c.settle.ensures.all ∙ c.self.view_is) in let xs = c.settle.new.raw.slots in let i = c.args.from in let k = c.args.count in
    settled c.remove_slots.new.self _ c.settle.ensures.none
    (omega (arith, ap raw_used c.remove_slots.ensures, ap (λ (r : RawLists). r.capacity) c.remove_slots.ensures, length-append (take i xs) (drop (i + k) xs), length-take i xs, length-drop (i + k) xs, ap raw_used same, ap (λ (r : RawLists). r.capacity) same, fits c.self.inside.raw c.self.inside.young.items c.self.invariant c.args.self.now c.self.view_is))

pub returns : goal.returns
returns g c = settled_all c.remove_slots.new.self _ c.settle.ensures.none ∙ c.remove_slots.ensures
    ∙ ap (λ (r : RawLists). raw_lists r.front (remove_range r.slots c.args.from (c.args.from + c.args.count)) r.capacity) (c.settle.ensures.all ∙ c.self.view_is)
