-- Children in a row, which share out the keys between them.
use Rattle.std.specs.Prelude.{◌≡◌, ℕ, zero, suc, ◌<◌, ◌≤◌, slice_index_or, List, [], ◌∷◌, true, false, length}
use Rattle.std.specs.declared.cmp.Ordering.TheVariants.{Less}
use Rattle.std.specs.Ordering.{is_lt}
use Rattle.std.specs.List.{AllByRecursion, flat_map, sum_by}
use Rattle.stow_tree_model.specs.StowBytes.Bytes.{bytes_cmp}
use Rattle.stow_tree_model.specs.TreeMessage.{TreeMessage}
use Rattle.stow_leaves.specs.StowLeaf.Intervals.{top_key, spans, NoneOutside}
use Rattle.stow_leaves.specs.StowLeaf.LeafRows.{LeafRows, row_messages, first_fence}

-- what a parent knows of a child
pub record Part : Type 0 where
  pub low : List ℕ
  pub height : ℕ
  -- the messages in its buffers
  pub messages : List TreeMessage
  pub leaves : List LeafRows
  pub weight : ℕ

-- the low of the first part, or else the upper end
abbrev pub low_or : List ℕ → List Part → List ℕ
low_or high [] = high
low_or high (p ∷ ps) = p.low

-- a part's fences and messages are from its low on, and below the upper end
pub record IsTile (p : Part) (high : List ℕ) : Type 0 where
  pub fences : AllByRecursion (λ leaf. spans p.low high leaf.0 ≡ true) p.leaves
  pub first : first_fence high p.leaves ≡ p.low
  pub ordered : bytes_cmp p.low high ≡ Less
  pub messages : NoneOutside p.low high p.messages
  pub rows : NoneOutside p.low high (row_messages p.leaves)

-- each part ends where the next begins, and the last at the upper end
abbrev pub TiledTo : List ℕ → List Part → Type 0
TiledTo high [] = Unit {0}
TiledTo high (p ∷ ps) = IsTile p (low_or high ps) × TiledTo high ps

-- where the part at this place ends, of a row that ends here
abbrev pub end_of : List ℕ → List Part → ℕ → List ℕ
end_of high [] i = high
end_of high (p ∷ ps) zero = low_or high ps
end_of high (p ∷ ps) (suc i) = end_of high ps i

abbrev pub high_of : List Part → ℕ → List ℕ
high_of = end_of top_key

abbrev pub messages_in : List Part → List TreeMessage
messages_in parts = flat_map (λ p. p.messages) parts

abbrev pub leaves_in : List Part → List LeafRows
leaves_in parts = flat_map (λ p. p.leaves) parts

abbrev pub weight_in : List Part → ℕ
weight_in parts = sum_by (λ p. p.weight) parts

-- the part at this place is the one for the key
pub record IsFor (ps : List Part) (key : List ℕ) (i : ℕ) : Type 0 where
  pub inside : i < length ps
  pub spanned : (d : Part) → spans (slice_index_or ps i d).low (high_of ps i) key ≡ true

-- the part at this place begins at the key or below it
abbrev pub BeginsUpTo : List Part → List ℕ → ℕ → Type 0
BeginsUpTo ps key at = (d : Part) → is_lt (bytes_cmp key (slice_index_or ps at d).low) ≡ false

-- the part at this place, if there is one, begins above the key
abbrev pub BeginsAbove : List Part → List ℕ → ℕ → Type 0
BeginsAbove ps key at = at < length ps
    → (d : Part) → is_lt (bytes_cmp key (slice_index_or ps at d).low) ≡ true

-- the part for the key is from the one place on and before the other
pub record LiesBetween (ps : List Part) (key : List ℕ) (at end : ℕ) : Type 0 where
  pub order : at < end
  pub inside : end ≤ length ps
  pub from : BeginsUpTo ps key at
  pub below : BeginsAbove ps key end
