-- Where leaves begin and end.
use Rattle.std.proofs.Common.{zero, suc, ◌≡◌, ℕ, ◌+◌, ◌<◌, ◌≤◌, List, [], ◌∷◌, ◌++◌, length, map, take, drop, get_or, Option, Some, refl, sym, ap, ◌∙◌, arith}
use Rattle.std.specs.Prelude.{slice_get}
use Rattle.stow_leaf.specs.Intervals.{top_key}
use Rattle.stow_leaf.specs.LeafRows.{LeafRows, leaf_rows}
use Rattle.stow_leaf.specs.declared.leaf.Leaf.{Leaf}
use Rattle.stow_leaves.specs.Absorbs.{fence_at}

pub fence_here : {A : Type 0} (leaves : List (Leaf A)) (i : ℕ) (x : Leaf A) → i < length leaves → x ≡ get_or leaves i x → x.low ≡ fence_at (map leaf_rows leaves) i
fence_here [] i x l e = absurd (omega arith)
fence_here (y ∷ leaves) zero x l e = ap (λ (k : Leaf _). k.low) e
fence_here (y ∷ leaves) (suc i) x l e = fence_here leaves i x (omega arith) e

pub fence_behind : {A : Type 0} (leaves : List (Leaf A)) (i : ℕ) → length leaves ≤ i → top_key ≡ fence_at (map leaf_rows leaves) i
fence_behind [] zero l = refl
fence_behind [] (suc i) l = refl
fence_behind (x ∷ leaves) zero l = absurd (omega arith)
fence_behind (x ∷ leaves) (suc i) l = fence_behind leaves i (omega arith)

-- the leaf at a place, and those below and above it
pub parted : (leaves : List LeafRows) (i : ℕ) (leaf : LeafRows) → slice_get leaves i ≡ Some leaf → leaves ≡ take i leaves ++ (leaf ∷ drop (i + 1) leaves)
parted [] i leaf e = absurd cc
parted (l ∷ leaves) zero leaf e = ap (λ k. k ∷ leaves) (same l leaf e) where
  same : (a b : LeafRows) → ◌≡◌ {A = Option LeafRows} (Some a) (Some b) → a ≡ b
  same a b e = cc
parted (l ∷ leaves) (suc i) leaf e =
    let k : suc i + 1 ≡ suc (i + 1) = omega arith in
    ap (λ ls. l ∷ ls) (parted leaves i leaf e) ∙ ap (λ n. l ∷ (take i leaves ++ (leaf ∷ drop n (l ∷ leaves)))) (sym k)

pub fence_is : (leaves : List LeafRows) (i : ℕ) (leaf : LeafRows) → slice_get leaves i ≡ Some leaf → fence_at leaves i ≡ leaf.0
fence_is [] i leaf e = absurd cc
fence_is (l ∷ leaves) zero leaf e = ap (λ (k : LeafRows). k.0) (same l leaf e) where
  same : (a b : LeafRows) → ◌≡◌ {A = Option LeafRows} (Some a) (Some b) → a ≡ b
  same a b e = cc
fence_is (l ∷ leaves) (suc i) leaf e = fence_is leaves i leaf e
