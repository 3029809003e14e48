-- What rows show, by their look-ups.
use Rattle.std.proofs.Common.{◌≡◌, ℕ, Bool, true, false, List, [], ◌∷◌, Option, Some, None, refl, ap, ◌∙◌, sym, subst, ⊎_elim, cond, eqb}
use Rattle.std.specs.Prelude.{T, map, not, ◌&&◌, ◌||◌}
use Rattle.std.specs.declared.cmp.Ordering.{Ordering}
use Rattle.std.specs.declared.cmp.Ordering.TheVariants.{Less, Equal, Greater}
use Rattle.std.specs.List.{list_any, flat_map}
use Rattle.std.specs.Ordering.{nat_cmp, is_lt, is_eq, eq_by_cmp}
use Rattle.std.specs.Cmp.{nat_cmp_total}
use Rattle.std.proofs.lemmas.Cmp.{eq_by_cmp_equiv}
use Rattle.std.specs.Option.{unwrap_or}
use Rattle.std.specs.Str.{bytes_eq}
use Rattle.std.specs.FinMap.{FinMap, find, is_sorted}
use Rattle.std.specs.FinMap.Entries.{below_all, where_key, find-where_key, is_sorted-where_key}
use Rattle.std.specs.FinMap as finite
use Rattle.std.proofs.lemmas.Bool.{cases_Bool, cond-true, cond-false}
use Rattle.std.proofs.lemmas.Slice.Eq.{bytes_eq-Decides as bytes_decides}
use Rattle.std.proofs.lemmas.Map.Text.{is_eq-slice_cmp}
use Rattle.std.proofs.lemmas.List.Folds.{list_any-append}
use Rattle.stow_versions.specs.StowBytes.Bytes.{bytes_cmp}
use Rattle.stow_state.specs.StowModel.Store.{Version, Rows, Shown, is_same_version}
use Rattle.stow_ledger.specs.Shown.{is_in}
use Rattle.stow_ledger.proofs.Costs.{Once, or_false, contra}

t_first : (a b : Bool) → T (a && b) → T a
t_first true b p = tt
t_first false b p = p

t_second : (a b : Bool) → T (a && b) → T b
t_second true b p = p
t_second false b p = absurd p

-- what is less isn't equal
not_equal : (r : Ordering) → T (is_lt r) → is_eq r ≡ false
not_equal Less h = refl
not_equal Equal h = absurd h
not_equal Greater h = absurd h

module _ {K X : Type 0} (R : K → K → Ordering) where
  -- a key below all others isn't among them
  pub find_below : (q : K) (es : List (K × X)) → T (below_all R q es) → find R q es ≡ None
  find_below q [] h = refl
  find_below q (e ∷ es) h =
      cond-false (eq_by_cmp R q e.0) (Some e.1) (find R q es) (not_equal (R q e.0) (t_first (is_lt (R q e.0)) (below_all R q es) h))
      ∙ find_below q es (t_second (is_lt (R q e.0)) (below_all R q es) h)

  -- without a key below all, the others are the same
  pub without_below : (q : K) (es : List (K × X)) → T (below_all R q es) → where_key R (λ y. not (eq_by_cmp R q y)) es ≡ es
  without_below q [] h = refl
  without_below q (e ∷ es) h =
      cond-true (not (eq_by_cmp R q e.0)) (e ∷ where_key R (λ y. not (eq_by_cmp R q y)) es) (where_key R (λ y. not (eq_by_cmp R q y)) es) (ap not (not_equal (R q e.0) (t_first (is_lt (R q e.0)) (below_all R q es) h)))
      ∙ ap (λ xs. e ∷ xs) (without_below q es (t_second (is_lt (R q e.0)) (below_all R q es) h))

-- the version is this row
abbrev pub is_row : Option Version → Version → Bool
is_row None v = false
is_row (Some w) v = eqb v.number w.number && bytes_eq v.value w.value

pub key_eq : (x y : List ℕ) → eq_by_cmp bytes_cmp x y ≡ bytes_eq x y
key_eq x y = is_eq-slice_cmp x y

-- rows in order show a version just where they have it under its key
in_sorted : (v : Shown) (es : List Shown) → T (is_sorted bytes_cmp es) → is_in v es ≡ is_row (find bytes_cmp v.0 es) v.1
in_sorted v [] h = refl
in_sorted v (e ∷ es) h =
    let later = in_sorted v es (t_second (below_all bytes_cmp e.0 es) (is_sorted bytes_cmp es) h) in
    ⊎_elim
    (λ (t : bytes_eq v.0 e.0 ≡ true).
    let same : v.0 ≡ e.0 = (bytes_decides v.0 e.0).0 t in
    let none : find bytes_cmp v.0 es ≡ None = ap (λ k. find bytes_cmp k es) same ∙ find_below bytes_cmp e.0 es (t_first (below_all bytes_cmp e.0 es) (is_sorted bytes_cmp es) h) in
    ap (λ b. (b && is_row (Some e.1) v.1) || is_in v es) t
    ∙ ap (λ b. is_row (Some e.1) v.1 || b) (later ∙ ap (λ o. is_row o v.1) none)
    ∙ or_false (is_row (Some e.1) v.1)
    ∙ ap (λ o. is_row o v.1) (sym (cond-true (eq_by_cmp bytes_cmp v.0 e.0) (Some e.1) (find bytes_cmp v.0 es) (key_eq v.0 e.0 ∙ t))))
    (λ (f : bytes_eq v.0 e.0 ≡ false).
    ap (λ b. (b && is_row (Some e.1) v.1) || is_in v es) f ∙ later
    ∙ ap (λ o. is_row o v.1) (sym (cond-false (eq_by_cmp bytes_cmp v.0 e.0) (Some e.1) (find bytes_cmp v.0 es) (key_eq v.0 e.0 ∙ f))))
    (cases_Bool (bytes_eq v.0 e.0))

pub in_rows : (rows : Rows) (v : Shown) → is_in v (finite.entries rows) ≡ is_row (finite.get rows v.0) v.1
in_rows rows v = in_sorted v (finite.entries rows) (finite.entries_sorted rows) ∙ ap (λ o. is_row o v.1) (sym (finite.get-entries rows v.0))

once_sorted : (es : List Shown) → T (is_sorted bytes_cmp es) → Once es
once_sorted [] h = tt
once_sorted (e ∷ es) h = (
  in_sorted e es (t_second (below_all bytes_cmp e.0 es) (is_sorted bytes_cmp es) h)
      ∙ ap (λ o. is_row o e.1) (find_below bytes_cmp e.0 es (t_first (below_all bytes_cmp e.0 es) (is_sorted bytes_cmp es) h)),
  once_sorted es (t_second (below_all bytes_cmp e.0 es) (is_sorted bytes_cmp es) h),
)

-- no row stands twice
pub once_rows : (rows : Rows) → Once (finite.entries rows)
once_rows rows = once_sorted (finite.entries rows) (finite.entries_sorted rows)

-- ---- copies

pub in_copies : (v : Shown) (copies : List Rows) → is_in v (flat_map finite.entries copies) ≡ list_any (λ (copy : Rows). is_in v (finite.entries copy)) copies
in_copies v [] = refl
in_copies v (copy ∷ copies) = list_any-append (is_same_version v) (finite.entries copy) (flat_map finite.entries copies) ∙ ap (λ b. is_in v (finite.entries copy) || b) (in_copies v copies)

-- the entries of a map without a key
entries-remove : {X : Type 0} (m : FinMap nat_cmp X) (q : ℕ) → finite.entries (finite.remove m q) ≡ where_key nat_cmp (λ y. not (eq_by_cmp nat_cmp q y)) (finite.entries m)
entries-remove {X} m q =
    let kept = where_key nat_cmp (λ y. not (eq_by_cmp nat_cmp q y)) (finite.entries m) in
    let sorted : T (is_sorted nat_cmp kept) = is_sorted-where_key nat_cmp (λ y. not (eq_by_cmp nat_cmp q y)) (finite.entries m) (finite.entries_sorted m) in
    let same : finite.remove m q ≡ finite.from_sorted kept = finite.same_map nat_cmp_total finite.nat_cmp-IsAntisymmetric _ _ (λ k.
    finite.get-remove nat_cmp_total m q k ∙ turned (eq_by_cmp nat_cmp k q) (eq_by_cmp nat_cmp q k) (finite.get m k) (tie k q)
    ∙ sym (finite.get-from_sorted nat_cmp kept k sorted
    ∙ find-where_key nat_cmp (λ y. not (eq_by_cmp nat_cmp q y)) k (λ x e. ap (λ y. not (eq_by_cmp nat_cmp q y)) (sym (finite.nat_cmp-IsAntisymmetric k x e))) (finite.entries m)
    ∙ ap (λ o. cond (not (eq_by_cmp nat_cmp q k)) o None) (sym (finite.get-entries m k)))) in
    ap finite.entries same ∙ finite.entries-from_sorted nat_cmp kept sorted
  where
    turned : {X : Type 0} (a b : Bool) (o : Option X) → a ≡ b → cond a None o ≡ cond (not b) o None
    turned true true o e = refl
    turned true false o e = absurd (contra true refl e)
    turned false true o e = absurd (contra true refl (sym e))
    turned false false o e = refl

    tie : (a b : ℕ) → eq_by_cmp nat_cmp a b ≡ eq_by_cmp nat_cmp b a
    tie a b = (eq_by_cmp_equiv nat_cmp_total).symm a b

or_swapped : (a b c : Bool) → (a || (b || c)) ≡ ((a || b) || c)
or_swapped true b c = refl
or_swapped false b c = refl

or_turned : (a b : Bool) → (a || b) ≡ (b || a)
or_turned true true = refl
or_turned true false = refl
or_turned false true = refl
or_turned false false = refl

-- a test finds the entries of the others, and the one
any_entries : {X : Type 0} (test : X → Bool) (q : ℕ) (x : X) (es : List (ℕ × X)) → T (is_sorted nat_cmp es) → find nat_cmp q es ≡ Some x → list_any test (map (λ (e : ℕ × X). e.1) es) ≡ (list_any test (map (λ (e : ℕ × X). e.1) (where_key nat_cmp (λ y. not (eq_by_cmp nat_cmp q y)) es)) || test x)
any_entries {X} test q x [] h f = absurd (none_some f)
  where
    none_some : {X : Type 0} {x : X} → ◌≡◌ {A = Option X} None (Some x) → ⊥
    none_some e = cc
any_entries {X} test q x (e ∷ es) h f =
    let others = where_key nat_cmp (λ y. not (eq_by_cmp nat_cmp q y)) es in
    ⊎_elim
    (λ (t : eq_by_cmp nat_cmp q e.0 ≡ true).
    let is_x : Some e.1 ≡ Some x = sym (cond-true (eq_by_cmp nat_cmp q e.0) (Some e.1) (find nat_cmp q es) t) ∙ f in
    let same : q ≡ e.0 = finite.nat_cmp-IsAntisymmetric q e.0 (equal_is (nat_cmp q e.0) t) in
    let stay : others ≡ es = without_below nat_cmp q es (subst (λ k. T (below_all nat_cmp k es)) (sym same) (t_first (below_all nat_cmp e.0 es) (is_sorted nat_cmp es) h)) in
    ap (λ y. test y || list_any test (map (λ (e : ℕ × X). e.1) es)) (some_same x is_x)
    ∙ or_turned (test x) (list_any test (map (λ (e : ℕ × X). e.1) es))
    ∙ ap (λ ys. list_any test (map (λ (e : ℕ × X). e.1) ys) || test x) (sym (cond-false (not (eq_by_cmp nat_cmp q e.0)) (e ∷ others) others (ap not t) ∙ stay)))
    (λ (d : eq_by_cmp nat_cmp q e.0 ≡ false).
    ap (λ b. test e.1 || b) (any_entries test q x es (t_second (below_all nat_cmp e.0 es) (is_sorted nat_cmp es) h) (sym (cond-false (eq_by_cmp nat_cmp q e.0) (Some e.1) (find nat_cmp q es) d) ∙ f))
    ∙ or_swapped (test e.1) (list_any test (map (λ (e : ℕ × X). e.1) others)) (test x)
    ∙ ap (λ ys. list_any test (map (λ (e : ℕ × X). e.1) ys) || test x) (sym (cond-true (not (eq_by_cmp nat_cmp q e.0)) (e ∷ others) others (ap not d))))
    (cases_Bool (eq_by_cmp nat_cmp q e.0))
  where
    equal_is : (r : Ordering) → is_eq r ≡ true → r ≡ Equal
    equal_is Less t = absurd (contra false t refl)
    equal_is Equal t = refl
    equal_is Greater t = absurd (contra false t refl)

    some_same : {X : Type 0} {y : X} (x : X) → Some y ≡ Some x → y ≡ x
    some_same x e = ap (λ o. unwrap_or o x) e

pub any_values : {X : Type 0} (test : X → Bool) (m : FinMap nat_cmp X) (q : ℕ) (x : X) → finite.get m q ≡ Some x → list_any test (finite.values m) ≡ (list_any test (finite.values (finite.remove m q)) || test x)
any_values {X} test m q x f =
    any_entries test q x (finite.entries m) (finite.entries_sorted m) (sym (finite.get-entries m q) ∙ f)
    ∙ ap (λ es. list_any test (map (λ (e : ℕ × X). e.1) es) || test x) (sym (entries-remove m q))
