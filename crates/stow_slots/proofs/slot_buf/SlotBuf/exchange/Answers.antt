use Rattle.std.proofs.Common.{length, ap, ◌∙◌, arith}
use Rattle.stow_raw.specs.RawBuf.{RawLists, raw_lists, raw_used}
use Rattle.stow_slots.proofs.Parts.{settled, settled_all}
use Rattle.stow_slots.proofs.slot_buf.SlotBuf.exchange.Goals as goal

pub invariant_of-self : goal.invariant_of-self
invariant_of-self g c =
    let same = (c.settle.ensures.all ∙ c.self.view_is) in let given = (c.swap.ensures.x_after ∙ c.take_slots.ensures) in
    settled c.swap.new.x _ c.settle.ensures.none
    (omega (arith, ap raw_used given, ap (λ (r : RawLists). r.capacity) given, ap (λ (r : RawLists). length r.slots) same, c.requires.room, c.requires.same))

pub returns-clause-exchanged : goal.returns-clause-exchanged
returns-clause-exchanged g c =
    let same = (c.settle.ensures.all ∙ c.self.view_is) in
    settled_all c.swap.new.x _ c.settle.ensures.none ∙ c.swap.ensures.x_after ∙ c.take_slots.ensures
    ∙ (λ i. raw_lists c.args.other.now.front (same i).slots (c.requires.same i))
