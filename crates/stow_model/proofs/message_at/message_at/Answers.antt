use Rattle.std.proofs.Common.{◌≡◌, sym, ◌∙◌, [], ◌∷◌, subst}
use Rattle.stow_model.specs.Wire.{IsBegun}
use Rattle.stow_model.proofs.Numbers.{empty, so_far_none, so_far_begun}
use Rattle.stow_model.proofs.Messages.{none_begun, number_begun}
use Rattle.stow_model.proofs.Inlines.{not_array}
use Rattle.stow_model.proofs.message_at.message_at.Goals as goal

pub returns-in_default : goal.returns-in_default
returns-in_default g c = subst IsBegun (sym (empty c.args.bytes.now c.in_default.ensures.cases)) none_begun

pub in_line-requires : goal.in_line-requires
in_line-requires g c = not_array c.args.bytes.now c.in-Some.after.now c.in-Some.sign.now c.in-Some.ensures.cases.0 c.if-sign-ne42.true

pub returns-in-None : goal.returns-in-None
returns-in-None g c =
    let at : c.args.bytes.now ≡ 42 ∷ [] = c.in-Some.ensures.cases.0 ∙ (λ i. c.if-sign-ne42.false i ∷ empty c.in-Some.after.now c.in-None.ensures.cases i) in
    subst IsBegun (sym at) (number_begun [] (so_far_begun 1024 [] 0 (so_far_none 1024)))
