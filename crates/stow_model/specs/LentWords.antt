-- Words that are lent.
use Rattle.std.specs.Prelude.{◌≡◌, ◌≢◌, ℕ, List, [], ◌∷◌, length, Option, Some, None}
use Rattle.std.specs.Borrow.{Bor}
use Rattle.stow_model.specs.Spans.{words_at}
use Rattle.stow_model.specs.declared.lent_words.LentWords.{LentWords}

-- the list of lent words
abbrev pub words_in : LentWords → List (List ℕ)
words_in words = words_at words.block.now words.spans.now

-- the first of some words, and those after it
abbrev pub IsFirst : List (List ℕ) → Option (Bor (List ℕ) × LentWords) → Type 0
IsFirst words None = words ≡ []
IsFirst words (Some (word, later)) = words ≡ word.now ∷ words_in later

-- the one word
abbrev pub IsOnly : List (List ℕ) → Option (Bor (List ℕ)) → Type 0
IsOnly words None = length words ≢ 1
IsOnly words (Some word) = words ≡ word.now ∷ []

-- both of two words
abbrev pub AreTwo : List (List ℕ) → Option (Bor (List ℕ) × Bor (List ℕ)) → Type 0
AreTwo words None = length words ≢ 2
AreTwo words (Some (first, second)) = words ≡ first.now ∷ second.now ∷ []

-- all of three words
abbrev pub AreThree : List (List ℕ) → Option (Bor (List ℕ) × Bor (List ℕ) × Bor (List ℕ)) → Type 0
AreThree words None = length words ≢ 3
AreThree words (Some (first, second, third)) =
    words ≡ first.now ∷ second.now ∷ third.now ∷ []
