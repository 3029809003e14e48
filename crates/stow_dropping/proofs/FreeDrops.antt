-- Drops that free nothing.
use Rattle.std.proofs.Common.{◌≡◌, ◌≢◌, ℕ, ◌+◌, Bool, true, false, List, [], ◌∷◌, ◌++◌, Some, refl, ap, ◌∙◌, sym, arith, ⊎_elim}
use Rattle.std.specs.Prelude.{IsTrue, ◌||◌}
use Rattle.std.specs.List.{AllByRecursion, flat_map, list_any}
use Rattle.std.specs.declared.cmp.Ordering.{Ordering}
use Rattle.std.specs.declared.cmp.Ordering.TheVariants.{Less, Equal, Greater}
use Rattle.std.specs.Ordering.{nat_cmp, is_eq, eq_by_cmp}
use Rattle.std.specs.Cmp.{nat_cmp_total}
use Rattle.std.specs.FinMap as finite
use Rattle.std.proofs.lemmas.Bool.{cases_Bool, cond-false}
use Rattle.std.proofs.lemmas.List.Folds.{list_any-append}
use Rattle.stow_ledger.specs.StowModel.Store.{Rows, Store, Shown, is_same_version, shown_by, charge}
use Rattle.stow_ledger.specs.Shown.{is_in, charge_of, without_snapshot}
use Rattle.stow_ledger.proofs.Costs.{cost_by_once, contra, same_is}
use Rattle.stow_ledger.proofs.RowLemmas.{in_copies, any_values}
use Rattle.stow_dropping.specs.Free.{DropIsFree, SecondDropIsFree, PresentDropIsFree}

or_parts : (a b c : Bool) → (a || (b || c)) ≡ ((a || b) || c)
or_parts true b c = refl
or_parts false b c = refl

or_true : (b : Bool) → (b || true) ≡ true
or_true true = refl
or_true false = refl

absorbed : (s c : Bool) → (c ≡ true → s ≡ true) → (s || c) ≡ (s || false)
absorbed true c kept = refl
absorbed false true kept = sym (kept refl)
absorbed false false kept = refl

-- a drop is free where the store still shows each version that the copy has
free_where_kept : (store : Store) (id : ℕ) (copy : Rows) → finite.get store.snapshots id ≡ Some copy → ((v : Shown) → is_in v (finite.entries copy) ≡ true → is_in v (shown_by (without_snapshot store id)) ≡ true)
    → charge_of (without_snapshot store id) ≡ charge_of store
unfolding charge
free_where_kept store id copy live kept =
    let present = finite.entries store.rows in
    let copies = flat_map finite.entries (finite.values store.snapshots) in
    let others = flat_map finite.entries (finite.values (finite.remove store.snapshots id)) in
    let members : (v : Shown) → is_in v (present ++ copies) ≡ (is_in v (present ++ others) || is_in v []) = λ v.
    list_any-append (is_same_version v) present copies
    ∙ ap (λ b. is_in v present || b) (in_copies v (finite.values store.snapshots) ∙ any_values (λ (c : Rows). is_in v (finite.entries c)) store.snapshots id copy live ∙ ap (λ b. b || is_in v (finite.entries copy)) (sym (in_copies v (finite.values (finite.remove store.snapshots id)))))
    ∙ or_parts (is_in v present) (is_in v others) (is_in v (finite.entries copy))
    ∙ ap (λ b. b || is_in v (finite.entries copy)) (sym (list_any-append (is_same_version v) present others))
    ∙ absorbed (is_in v (present ++ others)) (is_in v (finite.entries copy)) (kept v) in
    let sums = cost_by_once (present ++ copies) (present ++ others) [] tt members (λ v t. absurd (contra false t refl)) in
    let sum : charge (without_snapshot store id) ≡ charge store = sym (plus_none _ _ sums) in
    λ i. record { charge = sum i; rows = finite.len store.rows }
  where
    plus_none : (a b : ℕ) → a ≡ b + 0 → a ≡ b
    plus_none a b e = omega arith

-- a version that is among those of which each is shown is shown
one_of : (all : List Shown) (v : Shown) (es : List Shown) → AllByRecursion (λ e. IsTrue (is_in e all)) es → is_in v es ≡ true → is_in v all ≡ true
one_of all v [] h t = absurd (contra false t refl)
one_of all v (e ∷ es) h t = ⊎_elim
    (λ (s : is_same_version v e ≡ true). ap (λ w. is_in w all) (same_is v e s) ∙ h.0)
    (λ (d : is_same_version v e ≡ false). one_of all v es h.1 (ap (λ b. b || is_in v es) (sym d) ∙ t))
    (cases_Bool (is_same_version v e))

pub drop_is_free_law : DropIsFree
drop_is_free_law store id copy live shown = free_where_kept store id copy live (λ v. one_of (shown_by (without_snapshot store id)) v (finite.entries copy) shown)

not_tied : (a b : ℕ) → a ≢ b → eq_by_cmp nat_cmp a b ≡ false
not_tied a b ne = step (nat_cmp a b) refl where
  step : (r : Ordering) → nat_cmp a b ≡ r → is_eq r ≡ false
  step Less e = refl
  step Equal e = absurd (ne (finite.nat_cmp-IsAntisymmetric a b e))
  step Greater e = refl

pub second_drop_is_free_law : SecondDropIsFree
second_drop_is_free_law store id other copy ne live second = free_where_kept store id copy live (λ v t.
    let others = flat_map finite.entries (finite.values (finite.remove store.snapshots id)) in
    list_any-append (is_same_version v) (finite.entries store.rows) others
    ∙ ap (λ b. is_in v (finite.entries store.rows) || b)
    (in_copies v (finite.values (finite.remove store.snapshots id))
    ∙ any_values (λ (c : Rows). is_in v (finite.entries c)) (finite.remove store.snapshots id) other copy left
    ∙ ap (λ b. list_any (λ (c : Rows). is_in v (finite.entries c)) (finite.values (finite.remove (finite.remove store.snapshots id) other)) || b) t
    ∙ or_true (list_any (λ (c : Rows). is_in v (finite.entries c)) (finite.values (finite.remove (finite.remove store.snapshots id) other))))
    ∙ or_true (is_in v (finite.entries store.rows)))
  where
    left : finite.get (finite.remove store.snapshots id) other ≡ Some copy
    left = finite.get-remove nat_cmp_total store.snapshots id other ∙ cond-false _ _ _ (not_tied other id ne) ∙ second

pub present_drop_is_free_law : PresentDropIsFree
present_drop_is_free_law store id live = free_where_kept store id store.rows live (λ v t.
    let others = flat_map finite.entries (finite.values (finite.remove store.snapshots id)) in
    list_any-append (is_same_version v) (finite.entries store.rows) others ∙ ap (λ b. b || is_in v others) t)
