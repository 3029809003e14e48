use Rattle.std.proofs.Common.{◌≡◌, ℕ, refl, ap, sym, ◌∙◌, List, [], ◌∷◌, ◌++◌, length, subst, arith}
use Rattle.stow_model.specs.Wire.{array_line, IsBegun, IsFaulty}
use Rattle.stow_model.specs.declared.stream_fault.StreamFault.TheVariants.{InvalidArrayLength}
use Rattle.stow_model.specs.Parts.{ends}
use Rattle.stow_model.proofs.Numbers.{empty}
use Rattle.stow_model.proofs.Messages.{none_begun, null_begun, number_begun, number_faulty, blank_whole}
use Rattle.stow_model.proofs.Inlines.{not_array}
use Rattle.stow_resp.proofs.Lines.{array_at}
use Rattle.stow_resp.proofs.line.line.Goals as goal

pub returns-in_default : goal.returns-in_default
returns-in_default c = subst IsBegun (sym (empty c.args.bytes.now c.in_default.ensures.cases)) none_begun

pub returns-then-sign-ne42 : goal.returns-then-sign-ne42
returns-then-sign-ne42 c = (omega (arith, ap length c.in-Some.ensures.cases.0), not_array c.args.bytes.now c.in-Some.after.now c.in-Some.sign.now c.in-Some.ensures.cases.0 c.if-sign-ne42.true)

pub returns-in_default-split_first : goal.returns-in_default-split_first
returns-in_default-split_first c =
    let one : c.args.bytes.now ≡ 42 ∷ [] = c.in-Some.ensures.cases.0 ∙ (λ i. c.if-sign-ne42.false i ∷ empty c.in-Some.after.now c.in_default-split_first.ensures.cases i) in
    subst IsBegun (sym one) (null_begun (42 ∷ []) (49 ∷ 13 ∷ 10 ∷ []) 45 refl)

pub returns-in-Number-eq0-default : goal.returns-in-Number-eq0-default
returns-in-Number-eq0-default c =
    let n = c.in-Number-eq0-default in
    let line = n.ensures.1 ∙ ap (λ k. ends k ++ n.rest.now) n.field-0-test in
    (array_line 0, blank_whole, array_at c.args.bytes.now c.in-Some.after.now n.rest.now c.in-Some.sign.now 0 c.in-Some.ensures.cases.0 c.if-sign-ne42.false line)

pub returns-in-More : goal.returns-in-More
returns-in-More c = subst IsBegun (ap (λ s. s ∷ c.in-Some.after.now) (sym c.if-sign-ne42.false) ∙ sym c.in-Some.ensures.cases.0) (number_begun c.in-Some.after.now c.in-More.ensures)

pub returns-in-Stuck : goal.returns-in-Stuck
returns-in-Stuck c =
    let after = c.in-Some.after.now in
    let plus : (z : List ℕ) → after ≡ 45 ∷ z → ⊥ = λ z e. c.if-first-eq45.false (cc (c.in-Some-split_first.ensures.cases.0, e)) in
    subst (λ t. IsFaulty t InvalidArrayLength) (ap (λ s. s ∷ after) (sym c.if-sign-ne42.false) ∙ sym c.in-Some.ensures.cases.0) (number_faulty after plus c.in-Stuck.ensures)
