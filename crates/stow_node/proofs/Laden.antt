-- The bytes of leaves' pages, counted one after another.
use Rattle.std.proofs.Common.{zero, suc, ◌≡◌, ℕ, ◌+◌, ◌<◌, ◌≤◌, List, [], ◌∷◌, ◌++◌, length, take, drop, get_or, refl, sym, ap, ◌∙◌, arith}
use Rattle.std.proofs.lemmas.Grind.{flat_map-append}
use Rattle.std.proofs.lemmas.List.{map-append, take_more, take-append-drop}
use Rattle.std.proofs.lemmas.List.Sums.{sum_by-append, sum_by-cons}
use Rattle.stow_leaves.specs.StowPage.Format.{packed_page}
use Rattle.stow_leaves.specs.StowLeaf.LeafRows.{LeafRows}
use Rattle.stow_leaves.specs.StowLeaf.declared.leaf.Leaf.{Leaf}
use Rattle.stow_node.specs.declared.child.Child.{Child}
use Rattle.stow_node.specs.declared.child.Child.TheVariants as in_child
use Rattle.stow_node.specs.Moves.{page_bytes}
use Rattle.stow_node.specs.Nodes.{part_of, parts_of, leaves_of}
use Rattle.stow_node.specs.Parts.{Part, leaves_in}

leaves_of-append : {A : Type 0} (xs ys : List (Child A)) → leaves_of (xs ++ ys) ≡ leaves_of xs ++ leaves_of ys
leaves_of-append xs ys = ap leaves_in (map-append part_of xs ys) ∙ flat_map-append (λ (p : Part). p.leaves) (parts_of xs) (parts_of ys)

pages-append : {A : Type 0} (xs ys : List (Child A)) → page_bytes (leaves_of (xs ++ ys)) ≡ page_bytes (leaves_of xs) + page_bytes (leaves_of ys)
pages-append xs ys = ap page_bytes (leaves_of-append xs ys) ∙ sum_by-append (λ (l : LeafRows). length (packed_page l.1)) (leaves_of xs) (leaves_of ys)

-- one leaf more
pub pages_more : {A : Type 0} (cs : List (Child A)) (i : ℕ) (c : Child A) (leaf : Leaf A) → i < length cs → c ≡ get_or cs i c → c ≡ in_child.Leaf leaf → page_bytes (leaves_of (take (i + 1) cs)) ≡ page_bytes (leaves_of (take i cs)) + length (packed_page leaf.rows)
pages_more {A} cs i c leaf l here is =
    ap (λ (k : List (Child A)). page_bytes (leaves_of k)) (take_more cs i c l ∙ ap (λ d. take i cs ++ d ∷ []) (sym here ∙ is))
    ∙ pages-append (take i cs) (in_child.Leaf leaf ∷ [])
    ∙ ap (λ n. page_bytes (leaves_of (take i cs)) + n) (sum_by-cons (λ (l : LeafRows). length (packed_page l.1)) (leaf.low, leaf.rows) [] ∙ omega arith)

-- some leaves have no more than all
pub pages_within : {A : Type 0} (cs : List (Child A)) (i : ℕ) → page_bytes (leaves_of (take i cs)) ≤ page_bytes (leaves_of cs)
pages_within {A} cs i =
    let e = ap (λ (k : List (Child A)). page_bytes (leaves_of k)) (sym (take-append-drop i cs)) ∙ pages-append (take i cs) (drop i cs) in
    omega (arith, e)

-- all of them
pub pages_all : {A : Type 0} (cs : List (Child A)) (i : ℕ) → length cs ≤ i → page_bytes (leaves_of (take i cs)) ≡ page_bytes (leaves_of cs)
pages_all {A} cs i l = ap (λ (k : List (Child A)). page_bytes (leaves_of k)) (all cs i l) where
  all : (ds : List (Child A)) (j : ℕ) → length ds ≤ j → take j ds ≡ ds
  all [] zero h = refl
  all [] (suc j) h = refl
  all (d ∷ ds) zero h = absurd (omega arith)
  all (d ∷ ds) (suc j) h = ap (λ k. d ∷ k) (all ds j (omega arith))
