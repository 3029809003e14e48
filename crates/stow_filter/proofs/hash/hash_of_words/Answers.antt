use Rattle.std.proofs.Common.{◌≡◌, ◌+◌, ◌-◌, ◌*◌, ◌/◌, suc, length, drop, ap, sym, ◌∙◌, arith, drop-drop}
use Rattle.std.specs.Int.{w64, from_be_bytes}
use Rattle.stow_filter.specs.Filter.{mixed, words_mixed}
use Rattle.stow_filter.proofs.hash.hash_of_words.Goals as goal

pub loop-i-preserved : goal.loop-i-preserved
loop-i-preserved c =
    let bs = c.args.bytes.now in let i = c.loop-i.i in let left = length bs / 8 - (i + 1) in let rest = drop (8 * i) bs in
    let one : length bs / 8 - i ≡ suc left = omega (arith, c.loop-i-test.true) in let at : 8 * i + 8 ≡ 8 * (i + 1) = omega arith in
    let next : drop (8 * (i + 1)) bs ≡ drop 8 rest = ap (λ n. drop n bs) (sym at) ∙ sym (drop-drop 8 (8 * i) bs) in
    let hash : c.mixed-hash.result ≡ mixed c.loop-i.hash (from_be_bytes w64 rest) = c.mixed-hash.ensures ∙ ap (mixed c.loop-i.hash) c.word_at.ensures.number in
    (λ j. words_mixed (hash j) left (next j)) ∙ ap (λ n. words_mixed c.loop-i.hash n rest) (sym one) ∙ c.loop-i.invariant
