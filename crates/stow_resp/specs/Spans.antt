-- Spans that are kept of the first words of an array.
use Rattle.std.specs.Prelude.{◌≡◌, ℕ, List, [], ◌∷◌, ◌++◌, length, ◌⊎◌}
use Rattle.stow_model.specs.declared.span.Span.{Span}

-- the span of the word after so many is kept behind the spans of all these, or none is
abbrev pub IsSpanKept : List Span → ℕ → Span → List Span → Type 0
IsSpanKept old found span new = (new ≡ old) ⊎ ((length old ≡ found) × (new ≡ old ++ span ∷ []))
