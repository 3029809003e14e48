-- A row that is cut before a child.
use Rattle.std.proofs.Common.{zero, suc, ◌≡◌, ℕ, ◌<◌, List, [], ◌∷◌, ◌++◌, length, Option, Some, refl, sym, ap, ◌∙◌, arith, length-append}
use Rattle.std.specs.Prelude.{slice_get, slice_index_or, slice_set}
use Rattle.stow_leaves.specs.StowLeaf.declared.leaf.Leaf.{Leaf}
use Rattle.stow_node.specs.declared.child.Child.{Child}
use Rattle.stow_node.specs.declared.child.Child.TheVariants as in_child
use Rattle.stow_node.specs.Subtree.{Subtree}

get_front : {X : Type 0} (before rest : List X) (c : X) → slice_get (before ++ c ∷ rest) (length before) ≡ Some c
get_front [] rest c = refl
get_front (b ∷ before) rest c = get_front before rest c

set_front : {X : Type 0} (before rest : List X) (c d : X) → before ++ d ∷ rest ≡ slice_set (before ++ c ∷ rest) (length before) d
set_front [] rest c d = refl
set_front (b ∷ before) rest c d = ap (λ l. b ∷ l) (set_front before rest c d)

pub set_same : {X : Type 0} (cs : List X) (i : ℕ) (c : X) → slice_get cs i ≡ Some c → slice_set cs i c ≡ cs
set_same [] i c e = refl
set_same {X} (d ∷ cs) zero c e = ap (λ k. k ∷ cs) (same c d e) where
  same : (c d : X) → ◌≡◌ {A = Option X} (Some d) (Some c) → c ≡ d
  same c d e = cc
set_same (d ∷ cs) (suc i) c e = ap (λ l. d ∷ l) (set_same cs i c e)

-- the row, told as what is before a child and the child with what is behind it
pub record SplitAt {X : Type 0} (cs before rest : List X) (i : ℕ) (c : X) : Type 0 where
  pub at : slice_get cs i ≡ Some c
  pub set : (d : X) → before ++ slice_set rest 0 d ≡ slice_set cs i d

pub split_at : {X : Type 0} (cs before rest : List X) (i : ℕ) (d x : X) → cs ≡ before ++ rest → length before ≡ i → i < length cs → slice_index_or rest 0 d ≡ x → SplitAt cs before rest i x
split_at cs before [] i d x are many inside is = let n = ap length are ∙ length-append before [] in absurd (omega (arith, n, many, inside))
split_at {X} cs before (r ∷ rest) i d x are many inside is = record {
  at = ap (λ l. slice_get l i) are ∙ ap (slice_get (before ++ r ∷ rest)) (sym many) ∙ get_front before rest r ∙ ap (λ k. Some k) is;
  set = λ e. set_front before rest r e ∙ (λ j. slice_set (sym are j) (many j) e);
}

pub no_leaf : {A : Type 0} (cs : List (Child A)) (i : ℕ) (leaf : Leaf A) (n : Subtree) → slice_get cs i ≡ Some (in_child.Leaf leaf) → slice_get cs i ≡ Some (in_child.Node n) → ⊥
no_leaf {A} cs i leaf n e f = other leaf n (sym e ∙ f) where
  other : (leaf : Leaf A) (n : Subtree) → ◌≡◌ {A = Option (Child A)} (Some (in_child.Leaf leaf)) (Some (in_child.Node n)) → ⊥
  other leaf n e = cc
