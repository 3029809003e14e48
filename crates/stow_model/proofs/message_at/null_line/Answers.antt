use Rattle.std.proofs.Common.{◌≡◌, ap, sym, ◌∙◌, arith, refl, [], ◌∷◌, subst}
use Rattle.stow_model.specs.declared.stream_fault.StreamFault.TheVariants.{InvalidArrayLength}
use Rattle.stow_model.specs.Wire.{IsBegun, IsFaulty, null_line}
use Rattle.stow_model.proofs.Numbers.{empty}
use Rattle.stow_model.proofs.Messages.{null_begun, null_faulty, null_whole}
use Rattle.stow_model.proofs.message_at.null_line.Goals as goal

pub returns-in_default : goal.returns-in_default
returns-in_default g c =
    subst (λ t. IsBegun (42 ∷ 45 ∷ t)) (sym (empty c.args.rest.now c.in_default.ensures.cases)) (null_begun (42 ∷ 45 ∷ []) (13 ∷ 10 ∷ []) 49 refl)

pub returns-then-one-ne49 : goal.returns-then-one-ne49
returns-then-one-ne49 g c =
    subst (λ t. IsFaulty (42 ∷ 45 ∷ t) InvalidArrayLength) (sym c.in-Some.ensures.cases.0)
    (null_faulty [] (13 ∷ 10 ∷ []) c.in-Some.after_one.now 49 c.in-Some.one.now refl tt c.if-one-ne49.true)

pub returns-in_default-split_first : goal.returns-in_default-split_first
returns-in_default-split_first g c =
    let at : c.args.rest.now ≡ 49 ∷ [] = c.in-Some.ensures.cases.0 ∙ (λ i. c.if-one-ne49.false i ∷ empty c.in-Some.after_one.now c.in_default-split_first.ensures.cases i) in
    subst (λ t. IsBegun (42 ∷ 45 ∷ t)) (sym at) (null_begun (42 ∷ 45 ∷ 49 ∷ []) (10 ∷ []) 13 refl)

pub returns-then-carriage_return-ne13 : goal.returns-then-carriage_return-ne13
returns-then-carriage_return-ne13 g c =
    let at : c.args.rest.now ≡ 49 ∷ c.in-Some-split_first.carriage_return.now ∷ c.in-Some-split_first.after_return.now = c.in-Some.ensures.cases.0 ∙ (λ i. c.if-one-ne49.false i ∷ c.in-Some-split_first.ensures.cases.0 i) in
    subst (λ t. IsFaulty (42 ∷ 45 ∷ t) InvalidArrayLength) (sym at)
    (null_faulty (49 ∷ []) (10 ∷ []) c.in-Some-split_first.after_return.now 13 c.in-Some-split_first.carriage_return.now refl ((λ bad. omega arith), tt) c.if-carriage_return-ne13.true)

pub returns-in_default-split_first-2 : goal.returns-in_default-split_first-2
returns-in_default-split_first-2 g c =
    let after : c.in-Some.after_one.now ≡ 13 ∷ [] = c.in-Some-split_first.ensures.cases.0 ∙ (λ i. c.if-carriage_return-ne13.false i ∷ empty c.in-Some-split_first.after_return.now c.in_default-split_first-2.ensures.cases i) in
    let at : c.args.rest.now ≡ 49 ∷ 13 ∷ [] = c.in-Some.ensures.cases.0 ∙ (λ i. c.if-one-ne49.false i ∷ after i) in
    subst (λ t. IsBegun (42 ∷ 45 ∷ t)) (sym at) (null_begun (42 ∷ 45 ∷ 49 ∷ 13 ∷ []) [] 10 refl)

pub returns-then-line_feed-ne10 : goal.returns-then-line_feed-ne10
returns-then-line_feed-ne10 g c =
    let lf = c.in-Some-split_first-2.line_feed.now in
    let later = c.in-Some-split_first-2.later.now in
    let after : c.in-Some.after_one.now ≡ 13 ∷ lf ∷ later = c.in-Some-split_first.ensures.cases.0 ∙ (λ i. c.if-carriage_return-ne13.false i ∷ c.in-Some-split_first-2.ensures.cases.0 i) in
    let at : c.args.rest.now ≡ 49 ∷ 13 ∷ lf ∷ later = c.in-Some.ensures.cases.0 ∙ (λ i. c.if-one-ne49.false i ∷ after i) in
    subst (λ t. IsFaulty (42 ∷ 45 ∷ t) InvalidArrayLength) (sym at)
    (null_faulty (49 ∷ 13 ∷ []) [] later 10 lf refl ((λ bad. omega arith), ((λ bad. omega arith), tt)) c.if-line_feed-ne10.true)

pub returns : goal.returns
returns g c =
    let lf = c.in-Some-split_first-2.line_feed.now in
    let later = c.in-Some-split_first-2.later.now in
    let after : c.in-Some.after_one.now ≡ 13 ∷ 10 ∷ later = c.in-Some-split_first.ensures.cases.0 ∙ (λ i. c.if-carriage_return-ne13.false i ∷ (c.in-Some-split_first-2.ensures.cases.0 ∙ ap (λ x. x ∷ later) c.if-line_feed-ne10.false) i) in
    let at : c.args.rest.now ≡ 49 ∷ 13 ∷ 10 ∷ later = c.in-Some.ensures.cases.0 ∙ (λ i. c.if-one-ne49.false i ∷ after i) in
    (null_line, null_whole, ap (λ t. 42 ∷ 45 ∷ t) at)
