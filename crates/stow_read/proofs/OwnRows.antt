-- The rows that a leaf has of one key stand side by side.
use Rattle.std.proofs.Common.{◌≡◌, ◌≢◌, ℕ, zero, suc, ◌+◌, ◌≤◌, Bool, true, false, cond, List, [], ◌∷◌, ◌++◌, length, take, drop, map, Option, Some, refl, ap, ◌∙◌, sym, subst, arith, ⊎_elim}
use Rattle.std.specs.Prelude.{slice_get}
use Rattle.std.specs.List.{AllByRecursion}
use Rattle.std.specs.List.Sorted.{IsStrictlySortedBy}
use Rattle.std.specs.declared.cmp.Ordering.TheVariants.{Less}
use Rattle.stow_tree_model.specs.Merged.{same_key}
use Rattle.stow_tree_model.specs.Order.{place_cmp, version_place, VersionsRise}
use Rattle.stow_tree_model.specs.Version.{Version}
use Rattle.stow_tree_model.proofs.Orders.{key_cases}
use Rattle.stow_node.specs.StowPage.Format.{AreVersions}
use Rattle.stow_node.specs.StowPage.Rows.{IsCountUpTo}
use Rattle.stow_node.proofs.StowLeaf.Found.{is_cut, place_le}
use Rattle.stow_node.proofs.StowLeaf.Intervals.{lt, lt_self, at_most}
use Rattle.stow_read.proofs.Versioned.{own_rows}

-- the rows before the place have been gone over, and all others' keys are the key or above it
pub record IsTaking (key : List ℕ) (rows : List Version) (at : ℕ) (vs : List Version) : Type 0 where
  pub so_far : vs ≡ own_rows key (take at rows)
  pub from : AllByRecursion (λ (v : Version). lt v.key key ≡ false) (drop at rows)

other_key : (key : List ℕ) (v : Version) → (key ≡ v.key → ⊥) → same_key key v.key ≡ false
other_key key v ne = ⊎_elim (λ (h : (key ≡ v.key) × (same_key key v.key ≡ true)). absurd (ne h.0)) (λ (h : (key ≢ v.key) × (same_key key v.key ≡ false)). h.1) (key_cases key v.key)

none_own : (key : List ℕ) (rows : List Version) → AllByRecursion (λ (v : Version). key ≡ v.key → ⊥) rows → own_rows key rows ≡ []
none_own key [] h = refl
none_own key (v ∷ rows) h = ap (λ b. cond b (v ∷ own_rows key rows) (own_rows key rows)) (other_key key v h.0) ∙ none_own key rows h.1

own_append : (key : List ℕ) (xs ys : List Version) → own_rows key (xs ++ ys) ≡ own_rows key xs ++ own_rows key ys
own_append key [] ys = refl
own_append key (v ∷ xs) ys = ap (λ vs. cond (same_key key v.key) (v ∷ vs) vs) (own_append key xs ys) ∙ step (same_key key v.key) where
  step : (b : Bool) → cond b (v ∷ own_rows key xs ++ own_rows key ys) (own_rows key xs ++ own_rows key ys) ≡ cond b (v ∷ own_rows key xs) (own_rows key xs) ++ own_rows key ys
  step true = refl
  step false = refl

pub taking_first : (key : List ℕ) (rows : List Version) (at : ℕ) → AreVersions rows → IsCountUpTo rows (key, 0) at → IsTaking key rows at []
taking_first key rows at vs count = record {
  so_far = sym (none_own key (take at rows) (lower (take at rows) (is_cut rows key at vs count).lower));
  from = (is_cut rows key at vs count).upper;
}
  where
    lower : (xs : List Version) → AllByRecursion (λ (v : Version). lt v.key key ≡ true) xs → AllByRecursion (λ (v : Version). key ≡ v.key → ⊥) xs
    lower [] h = tt
    lower (v ∷ xs) h = (λ e. let z : true ≡ false = sym h.0 ∙ ap (λ k. lt k key) (sym e) ∙ lt_self key in absurd (cc), lower xs h.1)

cut_at : (rows : List Version) (at : ℕ) (v : Version) → slice_get rows at ≡ Some v → (drop at rows ≡ v ∷ drop (at + 1) rows) × (take (at + 1) rows ≡ take at rows ++ v ∷ [])
cut_at [] at v e = absurd cc
cut_at (w ∷ rows) zero v e = let same : w ≡ v = is w v e in (ap (λ x. x ∷ rows) same, ap (λ x. x ∷ []) same) where
  is : (a b : Version) → ◌≡◌ {A = Option Version} (Some a) (Some b) → a ≡ b
  is a b e = cc
cut_at (w ∷ rows) (suc at) v e =
    let more : suc at + 1 ≡ suc (at + 1) = omega arith in
    let on = cut_at rows at v e in
    (on.0 ∙ ap (λ k. v ∷ drop k (w ∷ rows)) (sym more), ap (λ k. take k (w ∷ rows)) more ∙ ap (λ xs. w ∷ xs) on.1)

pub taking_on : (key : List ℕ) (rows : List Version) (at : ℕ) (v : Version) (vs vs' : List Version) → slice_get rows at ≡ Some v → same_key key v.key ≡ true → IsTaking key rows at vs → vs' ≡ vs ++ v ∷ [] → IsTaking key rows (at + 1) vs'
taking_on key rows at v vs vs' e same t more = record {
  so_far = more ∙ ap (λ xs. xs ++ v ∷ []) t.so_far
      ∙ ap (λ b. own_rows key (take at rows) ++ cond b (v ∷ []) []) (sym same)
      ∙ sym (own_append key (take at rows) (v ∷ []))
      ∙ ap (own_rows key) (sym (cut_at rows at v e).1);
  from = (subst (AllByRecursion (λ (w : Version). lt w.key key ≡ false)) (cut_at rows at v e).0 t.from).1;
}

pub taken_all : (key : List ℕ) (rows : List Version) (at : ℕ) (vs : List Version) → length rows ≤ at → IsTaking key rows at vs → vs ≡ own_rows key rows
taken_all key rows at vs l t = t.so_far ∙ ap (own_rows key) (all rows at l) where
  all : (xs : List Version) (i : ℕ) → length xs ≤ i → take i xs ≡ xs
  all [] zero h = refl
  all [] (suc i) h = refl
  all (x ∷ xs) zero h = absurd (omega arith)
  all (x ∷ xs) (suc i) h = ap (λ ys. x ∷ ys) (all xs i (omega arith))

rise_dropped : (rows : List Version) (i : ℕ) → VersionsRise rows → VersionsRise (drop i rows)
unfolding IsStrictlySortedBy
rise_dropped rows zero up = up
rise_dropped [] (suc i) up = up
rise_dropped (v ∷ rows) (suc i) up = rise_dropped rows i up.1

-- the first row of another key ends those of the key
pub taken_until : (key : List ℕ) (rows : List Version) (at : ℕ) (v : Version) (vs : List Version) → VersionsRise rows → slice_get rows at ≡ Some v → same_key key v.key ≡ false → IsTaking key rows at vs → vs ≡ own_rows key rows
unfolding IsStrictlySortedBy
taken_until key rows at v vs up e other t =
    t.so_far
    ∙ sym (ap (own_rows key) (sym (parts rows at)) ∙ own_append key (take at rows) (drop at rows)
    ∙ ap (λ xs. own_rows key (take at rows) ++ own_rows key xs) (cut_at rows at v e).0
    ∙ ap (λ xs. own_rows key (take at rows) ++ xs) (none_own key (v ∷ drop (at + 1) rows) (not_own, later (drop (at + 1) rows) rise.0))
    ∙ nothing (own_rows key (take at rows)))
  where
    parts : (xs : List Version) (i : ℕ) → take i xs ++ drop i xs ≡ xs
    parts xs zero = refl
    parts [] (suc i) = refl
    parts (x ∷ xs) (suc i) = ap (λ ys. x ∷ ys) (parts xs i)

    nothing : (xs : List Version) → xs ++ [] ≡ xs
    nothing [] = refl
    nothing (x ∷ xs) = ap (λ ys. x ∷ ys) (nothing xs)

    not_own : key ≡ v.key → ⊥
    not_own k = ⊎_elim
        (λ (h : (key ≡ v.key) × (same_key key v.key ≡ true)). let z : true ≡ false = sym h.1 ∙ other in cc)
        (λ (h : (key ≢ v.key) × (same_key key v.key ≡ false)). h.0 k)
        (key_cases key v.key)

    rise : VersionsRise (v ∷ drop (at + 1) rows)
    rise = subst VersionsRise (cut_at rows at v e).0 (rise_dropped rows at up)

    under : lt key v.key ≡ true
    under = ⊎_elim (λ (h : key ≡ v.key). absurd (not_own h)) (λ (h : lt key v.key ≡ true). h)
        (at_most key v.key (subst (AllByRecursion (λ (w : Version). lt w.key key ≡ false)) (cut_at rows at v e).0 t.from).0)

    later : (xs : List Version) → AllByRecursion (λ q. place_cmp (version_place v) q ≡ Less) (map version_place xs) → AllByRecursion (λ (w : Version). key ≡ w.key → ⊥) xs
    later [] a = tt
    later (w ∷ xs) a = (
      λ k. let z : true ≡ false = sym under ∙ ap (λ x. lt x v.key) k ∙ place_le (version_place v) (version_place w) a.0 in absurd (cc),
      later xs a.1,
    )
