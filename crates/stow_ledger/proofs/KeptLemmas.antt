-- An account stays that of its store.
use Rattle.std.proofs.Common.{◌≡◌, ℕ, ◌+◌, Bool, true, false, List, [], ◌∷◌, ◌++◌, length, Some, None, refl, ap, ◌∙◌, sym, arith, ⊎_elim, cond}
use Rattle.std.specs.Prelude.{map, ◌||◌}
use Rattle.std.specs.List.{list_any, flat_map}
use Rattle.std.specs.declared.cmp.Ordering.{Ordering}
use Rattle.std.specs.declared.cmp.Ordering.TheVariants.{Less, Equal, Greater}
use Rattle.std.specs.Ordering.{nat_cmp, is_eq, eq_by_cmp}
use Rattle.std.specs.Cmp.{nat_cmp_total, nat_cmp_is}
use Rattle.stow_versions.specs.StowBytes.Bytes.{bytes_cmp}
use Rattle.std.specs.FinMap.{FinMap}
use Rattle.std.specs.FinMap as finite
use Rattle.std.proofs.lemmas.Bool.{cases_Bool, cond-true, cond-false}
use Rattle.std.proofs.lemmas.List.Folds.{list_any-append}
use Rattle.stow_state.specs.StowModel.Store.{Version, Rows, Shown, is_same_version, empty_store, charge, usage}
use Rattle.stow_ledger.specs.declared.charge.Charge.{Charge}
use Rattle.stow_ledger.specs.Shown.{is_in, cost_of_all, copied}
use Rattle.stow_ledger.specs.Kept.{NewAccountIsEmpty, PresentIsCharged, CommitIsCharged, with_snapshot, TakeIsFree, ReportIsUsage}
use Rattle.stow_ledger.proofs.Costs.{cost_by_once, or_false, contra}
use Rattle.stow_ledger.proofs.RowLemmas.{in_copies, any_values}

nothing : {X : Type 0} (es : List X) → length es ≡ 0 → es ≡ []
nothing [] e = refl
nothing (x ∷ es) e = absurd (omega arith)

entries-empty : {K X : Type 0} (R : K → K → Ordering) → finite.entries (finite.empty {X = X} {R = R}) ≡ []
entries-empty {K} {X} R = nothing _ (sym (finite.len-entries (finite.empty {X = X} {R = R})) ∙ finite.len-empty R X)

pub new_account_is_empty_law : NewAccountIsEmpty
unfolding charge
new_account_is_empty_law quota =
    let rows : finite.entries (empty_store quota).rows ≡ [] = entries-empty bytes_cmp in
    let copies : finite.entries (empty_store quota).snapshots ≡ [] = entries-empty nat_cmp in
    record {
      quota = refl;
      charged = λ i. cost_of_all (sym rows i ++ flat_map finite.entries (map (λ (e : ℕ × Rows). e.1) (sym copies i)));
      rows = sym (finite.len-empty bytes_cmp Version);
      commands = refl;
      refusals = refl;
    }

pub present_is_charged_law : PresentIsCharged
present_is_charged_law store account is = λ i. record { charge = is.charged i; rows = is.rows i }

pub commit_is_charged_law : CommitIsCharged
commit_is_charged_law before after account outcome is same e = record {
  quota = is.quota ∙ sym same.quota;
  charged = ap (λ (c : Charge). c.charge) e;
  rows = ap (λ (c : Charge). c.rows) e;
  commands = is.commands ∙ sym same.commands;
  refusals = is.refusals ∙ sym same.refusals;
}

-- a key that is new, put in and taken out again
insert_remove : (m : FinMap nat_cmp Rows) (id : ℕ) (x : Rows) → finite.get m id ≡ None → finite.remove (finite.insert m id x) id ≡ m
insert_remove m id x new = finite.same_map nat_cmp_total finite.nat_cmp-IsAntisymmetric _ _ (λ q.
    finite.get-remove nat_cmp_total (finite.insert m id x) id q
    ∙ ap (cond (eq_by_cmp nat_cmp q id) None) (finite.get-insert nat_cmp_total m id x q)
    ∙ ⊎_elim
    (λ (t : eq_by_cmp nat_cmp q id ≡ true).
    cond-true (eq_by_cmp nat_cmp q id) None (cond (eq_by_cmp nat_cmp q id) (Some x) (finite.get m q)) t
    ∙ sym (ap (finite.get m) (finite.nat_cmp-IsAntisymmetric q id (equal_is (nat_cmp q id) t)) ∙ new))
    (λ (f : eq_by_cmp nat_cmp q id ≡ false).
    cond-false (eq_by_cmp nat_cmp q id) None (cond (eq_by_cmp nat_cmp q id) (Some x) (finite.get m q)) f
    ∙ cond-false (eq_by_cmp nat_cmp q id) (Some x) (finite.get m q) f)
    (cases_Bool (eq_by_cmp nat_cmp q id)))
  where
    equal_is : (r : Ordering) → is_eq r ≡ true → r ≡ Equal
    equal_is Less t = absurd (contra false t refl)
    equal_is Equal t = refl
    equal_is Greater t = absurd (contra false t refl)

pub take_is_free_law : TakeIsFree
unfolding charge
take_is_free_law store id new =
    let more = finite.insert store.snapshots id store.rows in
    let present = finite.entries store.rows in
    let copies = flat_map finite.entries (finite.values more) in
    let live : finite.get more id ≡ Some store.rows = finite.get-insert nat_cmp_total store.snapshots id store.rows id ∙ cond-true (eq_by_cmp nat_cmp id id) (Some store.rows) (finite.get store.snapshots id) (tied id) in
    let members : (v : Shown) → is_in v (present ++ copies) ≡ (is_in v (present ++ copied store) || is_in v []) = λ v.
    list_any-append (is_same_version v) present copies
    ∙ ap (λ b. is_in v present || b) (in_copies v (finite.values more) ∙ any_values (λ (c : Rows). is_in v (finite.entries c)) more id store.rows live
    ∙ ap (λ (m : FinMap nat_cmp Rows). list_any (λ (c : Rows). is_in v (finite.entries c)) (finite.values m) || is_in v present) (insert_remove store.snapshots id store.rows new)
    ∙ ap (λ b. b || is_in v present) (sym (in_copies v (finite.values store.snapshots))))
    ∙ again (is_in v present) (is_in v (copied store))
    ∙ sym (list_any-append (is_same_version v) present (copied store))
    ∙ sym (or_false (is_in v (present ++ copied store))) in
    let sums = cost_by_once (present ++ copies) (present ++ copied store) [] tt members (λ v t. absurd (contra false t refl)) in
    let sum : charge (with_snapshot store id) ≡ charge store = plus_none _ _ sums in
    λ i. record { charge = sum i; rows = finite.len store.rows }
  where
    tied : (n : ℕ) → eq_by_cmp nat_cmp n n ≡ true
    tied n = ap is_eq (sym (nat_cmp_is n n Equal refl))

    again : (a c : Bool) → (a || (c || a)) ≡ (a || c)
    again true c = refl
    again false true = refl
    again false false = refl

    plus_none : (a b : ℕ) → a ≡ b + 0 → a ≡ b
    plus_none a b e = omega arith

pub report_is_usage_law : ReportIsUsage
unfolding usage
report_is_usage_law store account versions is last live = λ i. record {
  rows = is.rows i;
  charge = is.charged i;
  quota = is.quota i;
  writes = last i;
  commands = is.commands i;
  refusals = is.refusals i;
  snapshots = live i;
}
