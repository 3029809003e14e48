-- A drop's charge.
use Rattle.std.proofs.Common.{◌≡◌, ℕ, ◌+◌, ◌-◌, Bool, true, false, List, [], ◌∷◌, ◌++◌, refl, ap, ◌∙◌, sym, subst, arith, ⊎_elim, cond}
use Rattle.std.specs.Prelude.{filter, not, sum_by, ◌&&◌, ◌||◌}
use Rattle.std.specs.List.{flat_map, AllZip}
use Rattle.std.specs.FinMap as finite
use Rattle.std.proofs.lemmas.Bool.{cases_Bool, cond-true, cond-false}
use Rattle.std.proofs.lemmas.List.Folds.{list_any-append}
use Rattle.std.proofs.lemmas.List.Sums.{sum_by-cons}
use Rattle.stow_state.specs.StowModel.Store.{Rows, Store, Shown, cost, is_same_version, shown_by, charge}
use Rattle.stow_ledger.specs.declared.shown_row.ShownRow.{ShownRow}
use Rattle.stow_ledger.specs.Charges.{version_cost, is_shown, row_cost, row_freed}
use Rattle.stow_ledger.specs.Shown.{is_in, without_snapshot, IsToldOf, DropIsCharged}
use Rattle.stow_ledger.proofs.Costs.{Once, cost_by_once, contra, same_is}
use Rattle.stow_ledger.proofs.RowLemmas.{once_rows, in_copies, any_values}

-- the versions that a test keeps
pub in_kept : (test : Shown → Bool) (v : Shown) (xs : List Shown) → is_in v (filter test xs) ≡ (is_in v xs && test v)
in_kept test v [] = refl
in_kept test v (x ∷ xs) = ⊎_elim
    (λ (t : test x ≡ true).
    ap (λ b. is_in v (cond b (x ∷ filter test xs) (filter test xs))) t ∙ ap (λ b. is_same_version v x || b) (in_kept test v xs) ∙ ⊎_elim
    (λ (s : is_same_version v x ≡ true).
    let kept : test v ≡ true = ap test (same_is v x s) ∙ t in
    ap (λ b. b || (is_in v xs && test v)) s ∙ sym (ap (λ b. (b || is_in v xs) && test v) s ∙ kept))
    (λ (d : is_same_version v x ≡ false). ap (λ b. b || (is_in v xs && test v)) d ∙ sym (ap (λ b. (b || is_in v xs) && test v) d))
    (cases_Bool (is_same_version v x)))
    (λ (f : test x ≡ false).
    ap (λ b. is_in v (cond b (x ∷ filter test xs) (filter test xs))) f ∙ in_kept test v xs ∙ ⊎_elim
    (λ (s : is_same_version v x ≡ true).
    let lost : test v ≡ false = ap test (same_is v x s) ∙ f in
    ap (λ b. is_in v xs && b) lost ∙ and_none (is_in v xs) ∙ sym (ap (λ b. (is_same_version v x || is_in v xs) && b) lost ∙ and_none (is_same_version v x || is_in v xs)))
    (λ (d : is_same_version v x ≡ false). sym (ap (λ b. (b || is_in v xs) && test v) d))
    (cases_Bool (is_same_version v x)))
    (cases_Bool (test x))
  where
    and_none : (b : Bool) → (b && false) ≡ false
    and_none true = refl
    and_none false = refl

once_kept : (test : Shown → Bool) (xs : List Shown) → Once xs → Once (filter test xs)
once_kept test [] h = tt
once_kept test (x ∷ xs) (n, h) = ⊎_elim
    (λ (t : test x ≡ true). subst Once (sym (cond-true (test x) (x ∷ filter test xs) (filter test xs) t)) (in_kept test x xs ∙ ap (λ b. b && test x) n, once_kept test xs h))
    (λ (f : test x ≡ false). subst Once (sym (cond-false (test x) (x ∷ filter test xs) (filter test xs) f)) (once_kept test xs h))
    (cases_Bool (test x))

or_moved : (a b c : Bool) → (a || (b || c)) ≡ ((a || b) || (c && not (a || b)))
or_moved true b c = refl
or_moved false true c = refl
or_moved false false true = refl
or_moved false false false = refl

not_then : (c y : Bool) → (c && not y) ≡ true → y ≡ false
not_then true true h = absurd (contra false h refl)
not_then true false h = refl
not_then false true h = absurd (contra false h refl)
not_then false false h = refl

-- what is freed is the sum over the rows told
freed_told : (after : Store) (pins : List ℕ) (shown : List Shown) (rows : List ShownRow) → AllZip (IsToldOf after pins) shown rows → sum_by cost (filter (λ v. not (is_in v (shown_by after))) shown) ≡ sum_by (row_freed pins) rows
freed_told after pins [] [] h = refl
freed_told after pins [] (r ∷ rows) h = absurd h
freed_told after pins (v ∷ shown) [] h = absurd h
freed_told after pins (v ∷ shown) (r ∷ rows) (told, h) =
    let rest = filter (λ v. not (is_in v (shown_by after))) shown in
    let later = freed_told after pins shown rows h in
    let same : row_cost r ≡ cost v = λ i. version_cost (told.key i) (told.version i).length in
    ap (λ b. sum_by cost (cond (not b) (v ∷ rest) rest)) (sym told.still)
    ∙ elim (is_shown pins r) as (λ b. sum_by cost (cond (not b) (v ∷ rest) rest) ≡ cond b 0 (row_cost r) + sum_by (row_freed pins) rows) [
      | true ↦ later ∙ none_more (sum_by (row_freed pins) rows)
      | false ↦ sum_by-cons cost v rest ∙ (λ i. sym same i + later i)
    ]
    ∙ sym (sum_by-cons (row_freed pins) r rows)
  where
    none_more : (n : ℕ) → n ≡ 0 + n
    none_more n = omega arith

pub drop_is_charged_law : DropIsCharged
unfolding charge
drop_is_charged_law store id copy rows pins live told =
    let after = without_snapshot store id in
    let present = finite.entries store.rows in
    let copies = flat_map finite.entries (finite.values store.snapshots) in
    let others = flat_map finite.entries (finite.values (finite.remove store.snapshots id)) in
    let freed = filter (λ v. not (is_in v (present ++ others))) (finite.entries copy) in
    let members : (v : Shown) → is_in v (present ++ copies) ≡ (is_in v (present ++ others) || is_in v freed) = λ v.
    list_any-append (is_same_version v) present copies
    ∙ ap (λ b. is_in v present || b) (in_copies v (finite.values store.snapshots) ∙ any_values (λ (c : Rows). is_in v (finite.entries c)) store.snapshots id copy live ∙ ap (λ b. b || is_in v (finite.entries copy)) (sym (in_copies v (finite.values (finite.remove store.snapshots id)))))
    ∙ or_moved (is_in v present) (is_in v others) (is_in v (finite.entries copy))
    ∙ ap (λ b. b || (is_in v (finite.entries copy) && not b)) (sym (list_any-append (is_same_version v) present others))
    ∙ ap (λ b. is_in v (present ++ others) || b) (sym (in_kept (λ v. not (is_in v (present ++ others))) v (finite.entries copy))) in
    let apart : (v : Shown) → is_in v freed ≡ true → is_in v (present ++ others) ≡ false = λ v t.
    not_then (is_in v (finite.entries copy)) (is_in v (present ++ others)) (sym (in_kept (λ v. not (is_in v (present ++ others))) v (finite.entries copy)) ∙ t) in
    let sums = cost_by_once (present ++ copies) (present ++ others) freed (once_kept (λ v. not (is_in v (present ++ others))) (finite.entries copy) (once_rows copy)) members apart in
    let told_sum = freed_told after pins (finite.entries copy) rows told in
    let sum : charge after ≡ charge store - sum_by (row_freed pins) rows = moved (charge store) (charge after) (sum_by cost freed) (sum_by (row_freed pins) rows) sums told_sum in
    λ i. record { charge = sum i; rows = finite.len store.rows }
  where
    moved : (before later f freed : ℕ) → before ≡ later + f → f ≡ freed → later ≡ before - freed
    moved before later f freed p q = omega arith
