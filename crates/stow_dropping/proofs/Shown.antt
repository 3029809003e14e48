-- Rows of heads, one after another.
use Rattle.std.proofs.Common.{◌≡◌, ℕ, zero, suc, ◌+◌, ◌<◌, List, [], ◌∷◌, ◌++◌, length, take, get_or, ap, sym, ◌∙◌, subst, arith}
use Rattle.stow_ledger.specs.declared.shown_row.ShownRow.{ShownRow}
use Rattle.stow_tree.specs.StowRead.declared.row_head.RowHead.{RowHead}
use Rattle.stow_dropping.specs.Parts.{shown_of, all_shown, HaveWholeKeys}
use Rattle.stow_tree_model.specs.Intervals.{IsWholeKey}

-- the first heads were gone over
pub record AreShownSoFar {A : Type 0} (heads : List (RowHead A)) (i : ℕ) (rows : List ShownRow) : Type 0 where
  pub so_far : rows ≡ all_shown (take i heads)
  pub keys : HaveWholeKeys (take i heads)

rows_more : {A : Type 0} (heads : List (RowHead A)) (i : ℕ) (head : RowHead A) → i < length heads → head ≡ get_or heads i head → all_shown (take (suc i) heads) ≡ all_shown (take i heads) ++ shown_of head ∷ []
rows_more [] i head l is = absurd (omega (arith, l))
rows_more (h ∷ heads) zero head l is = ap (λ x. shown_of x ∷ []) (sym is)
rows_more (h ∷ heads) (suc i) head l is = ap (λ rows. shown_of h ∷ rows) (rows_more heads i head (omega (arith, l)) is)

keys_more : {A : Type 0} (heads : List (RowHead A)) (i : ℕ) (head : RowHead A) → i < length heads → head ≡ get_or heads i head → HaveWholeKeys (take i heads) → IsWholeKey head.key → HaveWholeKeys (take (suc i) heads)
keys_more [] i head l is all one = absurd (omega (arith, l))
keys_more (h ∷ heads) zero head l is all one = (subst (λ (x : RowHead _). IsWholeKey x.key) is one, tt)
keys_more (h ∷ heads) (suc i) head l is all one = (all.0, keys_more heads i head (omega (arith, l)) is all.1 one)

pub one_more_shown : {A : Type 0} (heads : List (RowHead A)) (i : ℕ) (head : RowHead A) (rows more : List ShownRow) → i < length heads → head ≡ get_or heads i head → AreShownSoFar heads i rows → more ≡ rows ++ shown_of head ∷ [] → IsWholeKey head.key → AreShownSoFar heads (i + 1) more
one_more_shown heads i head rows more l is shown adds whole = subst (λ n. AreShownSoFar heads n more) next (record {
  so_far = adds ∙ ap (λ front. front ++ shown_of head ∷ []) shown.so_far ∙ sym (rows_more heads i head l is);
  keys = keys_more heads i head l is shown.keys whole;
})
  where
    next : suc i ≡ i + 1
    next = omega arith
