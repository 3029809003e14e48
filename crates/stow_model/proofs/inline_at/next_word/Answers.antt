use Rattle.std.proofs.Common.{◌-◌, not, ℕ, length, take, drop, refl, sym, ◌∙◌, subst, rules, tests}
use Rattle.std.proofs.lemmas.Iterator.{YieldsList-from_slice}
use Rattle.std.proofs.lemmas.Iterator.Search.{position_from_yields_List}
use Rattle.stow_model.specs.Wire.{is_space}
use Rattle.stow_model.specs.Parts.{IsNextWord}
use Rattle.stow_model.proofs.Inlines.{no_word, word_found}
use Rattle.stow_model.proofs.inline_at.next_word.Goals as goal

pub returns-in_err-start : goal.returns-in_err-start
returns-in_err-start c =
    let at = position_from_yields_List (λ (b : ℕ). not (is_space b)) _ _ _ c.position.ensures.ran (YieldsList-from_slice c.args.text.now c.iter.ensures.rest) (λ x b q k. search (rules, tests)) in
    subst (IsNextWord c.args.text.now) (sym c.from_residual.ensures) (no_word c.args.text.now (sym at ∙ c.in_err-start.was))

pub returns : goal.returns
returns c =
    let text = c.args.text.now in
    let from = take (length text - c.in_ok-start.start) (drop c.in_ok-start.start text) in
    let at = position_from_yields_List (λ (b : ℕ). not (is_space b)) _ _ _ c.position.ensures.ran (YieldsList-from_slice text c.iter.ensures.rest) (λ x b q k. search (rules, tests)) in
    let end = position_from_yields_List is_space _ _ _ c.position-end.ensures.ran (YieldsList-from_slice (take (length text - c.in_ok-start.start) (drop c.in_ok-start.start text)) c.iter-2.ensures.rest) (λ x b q k. search (rules, tests)) in
    word_found text from c.split_at.result.0.now c.split_at.result.1.now c.in_ok-start.start c.unwrap_or.result c.position-end.result (sym at ∙ c.in_ok-start.was) refl end c.unwrap_or.ensures c.split_at.ensures.front c.split_at.ensures.back
