use Rattle.std.proofs.Common.{ap, sym, subst, ◌∙◌, arith}
use Rattle.stow_raw.specs.RawBuf.{raw_used}
use Rattle.stow_slots.specs.Young.{IsYoung, all_lists}
use Rattle.stow_slots.proofs.Parts.{empty, all_of_none}
use Rattle.stow_slots.proofs.slot_buf.SlotBuf.with_capacity.Goals as goal

pub invariant_of-result : goal.invariant_of-result
invariant_of-result g c = subst (λ ys. IsYoung c.in_ok-raw.raw ys) (sym c.in_ok-young.ensures.items) (empty c.in_ok-raw.raw (omega (arith, ap raw_used c.in_ok-raw.ensures)))

pub returns : goal.returns
returns g c = ap (all_lists c.in_ok-raw.raw) c.in_ok-young.ensures.items ∙ all_of_none c.in_ok-raw.raw ∙ c.in_ok-raw.ensures
