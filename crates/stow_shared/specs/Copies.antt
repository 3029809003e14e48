-- The copies of a call's words that its entry and its receipt take.
use Rattle.std.specs.Prelude.{◌≡◌, ℕ, Bool, true, false, List, [], Option, Some, None}
use Rattle.stow_shared.specs.declared.copies.Copies.{Copies}

-- both are copies of these words, where entries are kept; where they aren't there are none
abbrev pub AreCopies : {A : Type 0} → Bool → List (List ℕ) → Option (Copies A) → Type 0
AreCopies keeps words None = keeps ≡ false
AreCopies keeps words (Some copies) = (keeps ≡ true) × (copies.entry ≡ words)
    × (copies.receipt ≡ words)

-- the words that were copied, if any were
abbrev pub copied : {A : Type 0} → Option (Copies A) → List (List ℕ)
copied None = []
copied (Some copies) = copies.entry

-- entry and receipt get the same words, where entries are kept
abbrev pub AreAlike : {A : Type 0} → Bool → Option (Copies A) → Type 0
AreAlike keeps None = keeps ≡ false
AreAlike keeps (Some copies) = (keeps ≡ true) × (copies.receipt ≡ copies.entry)
