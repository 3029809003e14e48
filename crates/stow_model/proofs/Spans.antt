-- Words that stand in one block of bytes.
use Rattle.std.proofs.Common.{◌≡◌, ℕ, ◌+◌, ◌-◌, ◌≤◌, List, [], ◌∷◌, ◌++◌, length, take, drop, map, refl, ap, ◌∙◌, sym, arith, length-append, length-drop}
use Rattle.std.proofs.lemmas.List.{take-append-le, drop-append-le, drop_at, take_all, map-append}
use Rattle.std.specs.List.{AllByRecursion}
use Rattle.stow_model.specs.declared.span.Span.{Span}
use Rattle.stow_model.specs.Spans.{word_at, words_at, IsInside, AreInside}

-- ---- a block that grows keeps its words

pub span_stays : (block more : List ℕ) (span : Span) → IsInside block span → IsInside (block ++ more) span
span_stays block more span h = (h.0, let l = length-append block more in omega (arith, h.1))

pub word_stays : (block more : List ℕ) (span : Span) → IsInside block span → word_at (block ++ more) span ≡ word_at block span
word_stays block more span h =
    ap (take (span.end - span.start)) (drop-append-le span.start block more (omega (arith, h.0, h.1)))
    ∙ take-append-le (span.end - span.start) (drop span.start block) more (let l = length-drop span.start block in omega (arith, h.0, h.1))

pub spans_stay : (block more : List ℕ) (spans : List Span) → AreInside block spans → AreInside (block ++ more) spans
spans_stay block more [] h = tt
spans_stay block more (span ∷ spans) h = (span_stays block more span h.0, spans_stay block more spans h.1)

pub words_stay : (block more : List ℕ) (spans : List Span) → AreInside block spans → words_at (block ++ more) spans ≡ words_at block spans
words_stay block more [] h = refl
words_stay block more (span ∷ spans) h = λ i. word_stays block more span h.0 i ∷ words_stay block more spans h.1 i

-- ---- one word more

pub spans_more : (block : List ℕ) (spans : List Span) (span : Span) → AreInside block spans → IsInside block span → AreInside block (spans ++ span ∷ [])
spans_more block [] span h k = (k, tt)
spans_more block (first ∷ spans) span h k = (h.0, spans_more block spans span h.1 k)

pub word_at_end : (block word : List ℕ) (span : Span) → span.start ≡ length block → span.end ≡ length (block ++ word) → word_at (block ++ word) span ≡ word
word_at_end block word span from to =
    ap (take (span.end - span.start)) (drop_at block word span.start (sym from))
    ∙ take_all (span.end - span.start) word (let l = length-append block word in omega arith)

pub one_more : (block word : List ℕ) (spans : List Span) (span : Span) → AreInside block spans → span.start ≡ length block → span.end ≡ length (block ++ word) → words_at (block ++ word) (spans ++ span ∷ []) ≡ words_at block spans ++ word ∷ []
one_more block word spans span h from to =
    map-append (word_at (block ++ word)) spans (span ∷ [])
    ∙ (λ i. words_stay block word spans h i ++ word_at_end block word span from to i ∷ [])
