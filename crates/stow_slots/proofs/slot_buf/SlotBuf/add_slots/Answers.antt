use Rattle.std.proofs.Common.{ℕ, ◌++◌, replicate, ap, ◌∙◌, arith, length-append}
use Rattle.std.proofs.lemmas.List.{length-replicate}
use Rattle.stow_raw.specs.RawBuf.{RawLists, raw_lists, raw_used}
use Rattle.stow_slots.proofs.Parts.{settled, settled_all}
use Rattle.stow_slots.proofs.slot_buf.SlotBuf.add_slots.Goals as goal

pub add_slots-requires : goal.add_slots-requires
add_slots-requires g c = let same = (c.settle.ensures.all ∙ c.self.view_is) in omega (arith, c.requires, ap raw_used same, ap (λ (r : RawLists). r.capacity) same)

pub invariant_of-self : goal.invariant_of-self
invariant_of-self g c = let same = (c.settle.ensures.all ∙ c.self.view_is) in
    settled c.add_slots.new.self _ c.settle.ensures.none
    (omega (arith, ap raw_used c.add_slots.ensures, ap (λ (r : RawLists). r.capacity) c.add_slots.ensures, length-append (replicate {A = ℕ} c.args.count 0) c.settle.new.raw.slots, length-replicate {A = ℕ} c.args.count 0, ap raw_used same, ap (λ (r : RawLists). r.capacity) same, c.requires))

pub returns : goal.returns
returns g c = settled_all c.add_slots.new.self _ c.settle.ensures.none ∙ c.add_slots.ensures
    ∙ ap (λ (r : RawLists). raw_lists r.front (replicate {A = ℕ} c.args.count 0 ++ r.slots) r.capacity) (c.settle.ensures.all ∙ c.self.view_is)
