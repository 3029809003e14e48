-- Words that stand in one block of bytes.
use Rattle.std.specs.Prelude.{ℕ, ◌-◌, ◌≤◌, List, length, take, drop, map}
use Rattle.std.specs.List.{AllByRecursion, AllByRecursion-prop}
use Rattle.std.proofs.Props.{props}
use Rattle.stow_model.specs.declared.span.Span.{Span}

-- the bytes of a span
abbrev pub word_at : List ℕ → Span → List ℕ
word_at block span = take (span.end - span.start) (drop span.start block)

-- the words of spans, in order
abbrev pub words_at : List ℕ → List Span → List (List ℕ)
words_at block spans = map (word_at block) spans

-- the block has all bytes of the span
abbrev pub IsInside : List ℕ → Span → Type 0
IsInside block span = (span.start ≤ span.end) × (span.end ≤ length block)

-- the block has all bytes of the spans
abbrev pub AreInside : List ℕ → List Span → Type 0
AreInside block spans = AllByRecursion (IsInside block) spans

-- there is one proof at most that the block has them, so that a value may keep it
pub inside_once : (block : List ℕ) (spans : List Span) → IsProp (AreInside block spans)
inside_once block spans = AllByRecursion-prop (IsInside block) (λ span. hlevel props) spans
