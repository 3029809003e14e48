use Rattle.std.proofs.Common.{ap, arith, ◌∙◌}
use Rattle.stow_raw.specs.RawBuf.{RawLists, raw_used}
use Rattle.stow_slots.proofs.Parts.{fits, settled, settled_all}
use Rattle.stow_slots.proofs.slot_buf.SlotBuf.settle.Goals as goal

pub invariant_of-self : goal.invariant_of-self
invariant_of-self g c = let same = (c.settle.ensures.all ∙ c.self.view_is) in
    settled c.settle.new.raw _ c.settle.ensures.none
    (omega (arith, ap raw_used same, ap (λ (r : RawLists). r.capacity) same, fits c.self.inside.raw c.self.inside.young.items c.self.invariant c.args.self.now c.self.view_is))

pub returns : goal.returns
returns g c = settled_all c.settle.new.raw _ c.settle.ensures.none ∙ c.settle.ensures.all ∙ c.self.view_is
