use Rattle.std.proofs.Common.{◌<◌, ◌++◌, length, refl, ap, sym, subst, ◌∙◌, rules, tests, arith}
use Rattle.std.proofs.lemmas.Iterator.{YieldsList-from_slice}
use Rattle.std.proofs.lemmas.Iterator.Search.{any_from_yields_List}
use Rattle.stow_model.specs.Wire.{is_quote, words_of_text}
use Rattle.stow_model.specs.Parts.{AsksForWords}
use Rattle.stow_model.proofs.Inlines.{asks_for_words, message_blank, message_words}
use Rattle.stow_model.proofs.inline_at.inline_message.Goals as goal

pub returns-then-count-eq0-clause-ok : goal.returns-then-count-eq0-clause-ok
returns-then-count-eq0-clause-ok g c =
    let text = c.text_of_line-text.result.now in
    let any = any_from_yields_List is_quote _ _ _ c.any.ensures.ran (YieldsList-from_slice text c.iter.ensures.rest) (λ x b q k. search (rules, tests)) in
    message_blank c.args.line.now text (words_of_text text) c.text_of_line-text.ensures (sym any ∙ c.if-any.false) refl (sym c.word_count-count.ensures ∙ c.if-count-eq0.true)

pub returns-in_err-words-clause-err : goal.returns-in_err-words-clause-err
returns-in_err-words-clause-err g c =
    let text = c.text_of_line-text.result.now in
    let any = any_from_yields_List is_quote _ _ _ c.any.ensures.ran (YieldsList-from_slice text c.iter.ensures.rest) (λ x b q k. search (rules, tests)) in
    let some : 0 < length (words_of_text text) = let n = c.word_count-count.ensures in omega arith in
    let all : AsksForWords c.args.line.now = asks_for_words c.args.line.now text c.text_of_line-text.ensures (sym any ∙ c.if-any.false) some in
    search (rules, all)

pub returns-in_err-copy_words-clause-err : goal.returns-in_err-copy_words-clause-err
returns-in_err-copy_words-clause-err g c =
    let text = c.text_of_line-text.result.now in
    let any = any_from_yields_List is_quote _ _ _ c.any.ensures.ran (YieldsList-from_slice text c.iter.ensures.rest) (λ x b q k. search (rules, tests)) in
    let some : 0 < length (words_of_text text) = let n = c.word_count-count.ensures in omega arith in
    let all : AsksForWords c.args.line.now = asks_for_words c.args.line.now text c.text_of_line-text.ensures (sym any ∙ c.if-any.false) some in
    search (rules, all)

pub returns-clause-ok : goal.returns-clause-ok
returns-clause-ok g c =
    let text = c.text_of_line-text.result.now in
    let any = any_from_yields_List is_quote _ _ _ c.any.ensures.ran (YieldsList-from_slice text c.iter.ensures.rest) (λ x b q k. search (rules, tests)) in
    let some : 0 < length (words_of_text text) = let n = c.word_count-count.ensures in omega arith in
    message_words c.args.line.now text c.copy_words.new.words c.text_of_line-text.ensures (sym any ∙ c.if-any.false) (c.in_ok-copy_words.ensures ∙ ap (λ w. w ++ words_of_text text) c.in_ok-words.ensures) (subst (λ w. 0 < length w) (sym (c.in_ok-copy_words.ensures ∙ ap (λ w. w ++ words_of_text text) c.in_ok-words.ensures)) some)
