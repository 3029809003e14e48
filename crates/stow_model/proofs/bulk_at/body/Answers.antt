use Rattle.std.proofs.Common.{◌≡◌, ap, sym, ◌∙◌, arith, [], ◌∷◌, subst}
use Rattle.stow_model.specs.Wire.{FitsBulk}
use Rattle.stow_model.specs.declared.stream_fault.StreamFault.TheVariants.{BulkNotEnded}
use Rattle.stow_model.specs.Parts.{IsBegunBulk, IsStuckBulk}
use Rattle.stow_model.proofs.Numbers.{empty}
use Rattle.stow_model.proofs.Bulks.{body_begun, cr_begun, word_more, word_stuck, cr_stuck, word_whole, at_word}
use Rattle.stow_model.proofs.bulk_at.body.Goals as goal

pub returns-then-rest-len : goal.returns-then-rest-len
returns-then-rest-len c = body_begun c.args.len c.args.rest.now c.requires (omega arith)

pub returns-in_default : goal.returns-in_default
returns-in_default c =
    let word = c.split_at.result.0.now in
    let fits : FitsBulk word = let e = c.split_at.ensures.front_len in omega arith in
    subst IsBegunBulk (at_word c.args.len c.args.rest.now word c.split_at.result.1.now [] c.split_at.ensures.front_len c.split_at.ensures.front c.split_at.ensures.back (empty _ c.in_default.ensures.cases))
    (word_more word fits)

pub returns-then-carriage_return-ne13 : goal.returns-then-carriage_return-ne13
returns-then-carriage_return-ne13 c =
    let word = c.split_at.result.0.now in
    let fits : FitsBulk word = let e = c.split_at.ensures.front_len in omega arith in
    subst (λ t. IsStuckBulk t BulkNotEnded) (at_word c.args.len c.args.rest.now word c.split_at.result.1.now _ c.split_at.ensures.front_len c.split_at.ensures.front c.split_at.ensures.back c.in-Some.ensures.cases.0)
    (word_stuck word c.in-Some.after_return.now c.in-Some.carriage_return.now fits c.if-carriage_return-ne13.true)

pub returns-in_default-split_first : goal.returns-in_default-split_first
returns-in_default-split_first c =
    let word = c.split_at.result.0.now in
    let fits : FitsBulk word = let e = c.split_at.ensures.front_len in omega arith in
    let after : c.split_at.result.1.now ≡ 13 ∷ [] = c.in-Some.ensures.cases.0 ∙ (λ i. c.if-carriage_return-ne13.false i ∷ empty c.in-Some.after_return.now c.in_default-split_first.ensures.cases i) in
    subst IsBegunBulk (at_word c.args.len c.args.rest.now word c.split_at.result.1.now (13 ∷ []) c.split_at.ensures.front_len c.split_at.ensures.front c.split_at.ensures.back after)
    (cr_begun word fits)

pub returns-then-line_feed-ne10 : goal.returns-then-line_feed-ne10
returns-then-line_feed-ne10 c =
    let word = c.split_at.result.0.now in
    let fits : FitsBulk word = let e = c.split_at.ensures.front_len in omega arith in
    let lf = c.in-Some-split_first.line_feed.now in
    let later = c.in-Some-split_first.later.now in
    let after : c.split_at.result.1.now ≡ 13 ∷ lf ∷ later = c.in-Some.ensures.cases.0 ∙ (λ i. c.if-carriage_return-ne13.false i ∷ c.in-Some-split_first.ensures.cases.0 i) in
    subst (λ t. IsStuckBulk t BulkNotEnded) (at_word c.args.len c.args.rest.now word c.split_at.result.1.now _ c.split_at.ensures.front_len c.split_at.ensures.front c.split_at.ensures.back after)
    (cr_stuck word later lf fits c.if-line_feed-ne10.true)

pub returns : goal.returns
returns c =
    let word = c.split_at.result.0.now in
    let fits : FitsBulk word = let e = c.split_at.ensures.front_len in omega arith in
    let later = c.in-Some-split_first.later.now in
    let after : c.split_at.result.1.now ≡ 13 ∷ 10 ∷ later = c.in-Some.ensures.cases.0 ∙ (λ i. c.if-carriage_return-ne13.false i ∷ (c.in-Some-split_first.ensures.cases.0 ∙ ap (λ x. x ∷ later) c.if-line_feed-ne10.false) i) in
    (fits, sym (at_word c.args.len c.args.rest.now word c.split_at.result.1.now _ c.split_at.ensures.front_len c.split_at.ensures.front c.split_at.ensures.back after) ∙ word_whole word later)
