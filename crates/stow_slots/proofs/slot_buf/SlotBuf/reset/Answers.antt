use Rattle.std.proofs.Common.{[], ap, sym, subst, ◌∙◌, arith}
use Rattle.stow_raw.specs.RawBuf.{RawLists, raw_lists, raw_used}
use Rattle.stow_slots.specs.Young.{IsYoung, all_lists}
use Rattle.stow_slots.proofs.Parts.{empty, all_of_none}
use Rattle.stow_slots.proofs.slot_buf.SlotBuf.reset.Goals as goal

pub invariant_of-self : goal.invariant_of-self
invariant_of-self g c = subst (λ ys. IsYoung c.reset.new.self ys) (sym c.clear.ensures.items) (empty c.reset.new.self (omega (arith, ap raw_used c.reset.ensures)))

pub returns : goal.returns
returns g c = ap (all_lists c.reset.new.self) c.clear.ensures.items ∙ all_of_none c.reset.new.self ∙ c.reset.ensures ∙ ap (λ (r : RawLists). raw_lists [] [] r.capacity) c.self.view_is
