use Rattle.std.proofs.Common.{sym, ap, ◌∙◌}
use Rattle.stow_model.specs.Wire.{text_of_line}
use Rattle.stow_model.proofs.Numbers.{empty}
use Rattle.stow_model.proofs.Inlines.{text_with_cr, text_without_cr}
use Rattle.stow_model.proofs.inline_at.text_of_line.Goals as goal

pub returns-in_default : goal.returns-in_default
returns-in_default c = let none = empty c.args.line.now c.in_default.ensures.cases in none ∙ sym (ap text_of_line none)

pub returns-then-last-eq13 : goal.returns-then-last-eq13
returns-then-last-eq13 c = text_with_cr c.args.line.now c.in-Some.front.now c.in-Some.last.now c.in-Some.ensures.cases.0 c.if-last-eq13.true

pub returns-else-last-eq13 : goal.returns-else-last-eq13
returns-else-last-eq13 c = text_without_cr c.args.line.now c.in-Some.front.now c.in-Some.last.now c.in-Some.ensures.cases.0 c.if-last-eq13.false
