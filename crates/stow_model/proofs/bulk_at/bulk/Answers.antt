use Rattle.std.proofs.Common.{ap, sym, ◌∙◌, ◌∷◌, subst}
use Rattle.stow_model.specs.declared.stream_fault.StreamFault.TheVariants.{ExpectedBulk, InvalidBulkLength}
use Rattle.stow_model.specs.Parts.{IsBegunBulk, IsStuckBulk}
use Rattle.stow_model.proofs.Numbers.{empty}
use Rattle.stow_model.proofs.Bulks.{none_begun, number_begun, sign_stuck, number_stuck}
use Rattle.stow_model.proofs.bulk_at.bulk.Goals as goal

pub returns-in_default : goal.returns-in_default
returns-in_default c = subst IsBegunBulk (sym (empty c.args.bytes.now c.in_default.ensures.cases)) none_begun

pub returns-then-sign-ne36 : goal.returns-then-sign-ne36
returns-then-sign-ne36 c = subst (λ t. IsStuckBulk t ExpectedBulk) (sym c.in-Some.ensures.cases.0) (sign_stuck c.in-Some.sign.now c.in-Some.after.now c.if-sign-ne36.true)

pub returns-in-More : goal.returns-in-More
returns-in-More c = subst IsBegunBulk (ap (λ s. s ∷ c.in-Some.after.now) (sym c.if-sign-ne36.false) ∙ sym c.in-Some.ensures.cases.0) (number_begun c.in-Some.after.now c.in-More.ensures)

pub returns-in-Stuck : goal.returns-in-Stuck
returns-in-Stuck c = subst (λ t. IsStuckBulk t InvalidBulkLength) (ap (λ s. s ∷ c.in-Some.after.now) (sym c.if-sign-ne36.false) ∙ sym c.in-Some.ensures.cases.0) (number_stuck c.in-Some.after.now c.in-Stuck.ensures)
