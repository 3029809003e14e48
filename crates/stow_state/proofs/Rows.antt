-- One tenant's rows.
use Rattle.std.proofs.Common.{◌≡◌, ◌≢◌, ℕ, ◌≤◌, Bool, true, false, List, [], ◌∷◌, Option, Some, None, refl, ap, ◌∙◌, sym, subst, ⊎_elim, inl, inr, ◌⊎◌, cond}
use Rattle.std.specs.Prelude.{map, filter, Contains, T, ◌&&◌}
use Rattle.std.specs.Ordering.{eq_by_cmp, is_lt}
use Rattle.std.specs.Cmp.Lexicographic.{nat_list_cmp_total}
use Rattle.std.specs.FinMap as finite
use Rattle.std.specs.FinMap.{find, is_sorted}
use Rattle.std.specs.FinMap.Entries.{below_all, same_entries, is_sorted-where_key, find-where_key}
use Rattle.std.specs.List.Sorted.{IsStrictlySortedBy}
use Rattle.std.specs.declared.cmp.Ordering.TheVariants.{Less}
use Rattle.stow_model.specs.StowBytes.Bytes.{bytes_cmp}
use Rattle.std.specs.List.{AllByRecursion}
use Rattle.std.proofs.lemmas.Bool.{cond-true, cond-false}
use Rattle.std.proofs.lemmas.Map.Lookups.{exact_bytes}
use Rattle.stow_model.specs.Store.{Rows, Version, Shown, is_within}
use Rattle.stow_tree_model.specs.Keys.{packed, own_key, tenant_of}
use Rattle.stow_tree_model.specs.Op.{Op}
use Rattle.stow_tree_model.specs.Order.{VersionPlace, place_cmp}
use Rattle.stow_tree_model.specs.Operations.{latest}
use Rattle.stow_tree_model.specs.Messages.{Messages, ops_of, value, with_all}
use Rattle.stow_tree_model.specs.Merged.{same_key}
use Rattle.stow_tree_model.proofs.Orders.{key_cases, place_cases}
use Rattle.stow_tree_model.proofs.Packed.{own_key-packed, tenant_of-packed}
use Rattle.stow_tree_model.proofs.Histories.{latest_none}
use Rattle.stow_tree_model.proofs.SetLemmas.{others_stay_law}
use Rattle.stow_state.specs.Rows.{is_of, version_of, with_row, rows_among, rows_at, RowsByValue, OtherRowsStay, AgreeingRows, RowsRise, IntervalInOrder}

pub get-with_row : (k : List ℕ) (v : Option Version) (rows : Rows) (q : List ℕ) → finite.get (with_row k v rows) q ≡ cond (same_key q k) v (finite.get rows q)
get-with_row k None rows q = finite.get-remove nat_list_cmp_total rows k q
get-with_row k (Some v) rows q = finite.get-insert nat_list_cmp_total rows k v q

-- the key stands at none of the places
abbrev Missing : List ℕ → List VersionPlace → Type 0
Missing key places = AllByRecursion (λ p. p.0 ≢ key) places

-- a key with a place shows its value, and one without shows nothing
abbrev Shows : Messages → ℕ → ℕ → List VersionPlace → List ℕ → Type 0
Shows m tenant n places q = (finite.get (rows_among m tenant n places) q ≡ version_of (value m (packed tenant q) n))
    ⊎ (Missing (packed tenant q) places × (finite.get (rows_among m tenant n places) q ≡ None))

-- a place of another key is passed over
passed : (m : Messages) (tenant n : ℕ) (p : VersionPlace) (places : List VersionPlace) (q : List ℕ) → p.0 ≢ packed tenant q
    → finite.get (rows_among m tenant n (p ∷ places)) q ≡ finite.get (rows_among m tenant n places) q → Shows m tenant n places q → Shows m tenant n (p ∷ places) q
passed m tenant n p places q ne e (inl h) = inl (e ∙ h)
passed m tenant n p places q ne e (inr h) = inr ((ne, h.0), e ∙ h.1)

shows : (m : Messages) (tenant n : ℕ) (places : List VersionPlace) (q : List ℕ) → Shows m tenant n places q
shows m tenant n [] q = inr (tt, finite.get-empty _ q)
shows m tenant n (p ∷ places) q = ⊎_elim
    (λ (h : (packed tenant (own_key p.0) ≡ p.0) × (is_of tenant p.0 ≡ true)).
    let got : finite.get (rows_among m tenant n (p ∷ places)) q ≡ cond (same_key q (own_key p.0)) (version_of (value m p.0 n)) (finite.get (rows_among m tenant n places) q) =
    ap (λ (r : Rows). finite.get r q) (cond-true _ _ _ h.1) ∙ get-with_row (own_key p.0) (version_of (value m p.0 n)) (rows_among m tenant n places) q in
    ⊎_elim
    (λ (s : (q ≡ own_key p.0) × (same_key q (own_key p.0) ≡ true)).
    inl (got ∙ cond-true _ _ _ s.1 ∙ ap (λ k. version_of (value m k n)) (sym (ap (packed tenant) s.0 ∙ h.0))))
    (λ (s : (q ≢ own_key p.0) × (same_key q (own_key p.0) ≡ false)).
    passed m tenant n p places q (λ e. s.0 (sym (ap own_key e ∙ own_key-packed tenant q))) (got ∙ cond-false _ _ _ s.1) (shows m tenant n places q))
    (key_cases q (own_key p.0)))
    (λ (h : (packed tenant (own_key p.0) ≢ p.0) × (is_of tenant p.0 ≡ false)).
    passed m tenant n p places q (λ e. h.0 (ap (λ k. packed tenant (own_key k)) e ∙ ap (packed tenant) (own_key-packed tenant q) ∙ sym e))
    (ap (λ (r : Rows). finite.get r q) (cond-false _ _ _ h.1)) (shows m tenant n places q))
    (key_cases (packed tenant (own_key p.0)) p.0)

find_missing : (es : List (VersionPlace × Op)) (key : List ℕ) (k : ℕ) → Missing key (map (λ e. e.0) es) → find place_cmp (key, k) es ≡ None
find_missing [] key k h = refl
find_missing (e ∷ es) key k h = ⊎_elim
    (λ (s : (◌≡◌ {A = VersionPlace} (key, k) e.0) × (eq_by_cmp place_cmp (key, k) e.0 ≡ true)). absurd (h.0 (sym (ap (λ (p : VersionPlace). p.0) s.0))))
    (λ (s : (◌≢◌ {A = VersionPlace} (key, k) e.0) × (eq_by_cmp place_cmp (key, k) e.0 ≡ false)). cond-false _ _ _ s.1 ∙ find_missing es key k h.1)
    (place_cases (key, k) e.0)

pub rows_by_value_law : RowsByValue
unfolding rows_at
rows_by_value_law m tenant n q = ⊎_elim
    (λ (h : finite.get (rows_among m tenant n (finite.keys m)) q ≡ version_of (value m (packed tenant q) n)). h)
    (λ (h : Missing (packed tenant q) (finite.keys m) × (finite.get (rows_among m tenant n (finite.keys m)) q ≡ None)).
    h.1 ∙ ap version_of (sym (latest_none (ops_of m (packed tenant q)) n (λ k l. finite.get-entries m (packed tenant q, k) ∙ find_missing (finite.entries m) (packed tenant q) k h.0))))
    (shows m tenant n (finite.keys m) q)

pub same_rows : (a b : Rows) → ((q : List ℕ) → finite.get a q ≡ finite.get b q) → a ≡ b
same_rows a b h = finite.same_map nat_list_cmp_total exact_bytes a b h

-- rows are the same where the values are
pub rows_by_values : (l m : Messages) (tenant n k : ℕ) → ((q : List ℕ) → value l (packed tenant q) n ≡ value m (packed tenant q) k) → rows_at l tenant n ≡ rows_at m tenant k
rows_by_values l m tenant n k h = same_rows _ _ (λ q. rows_by_value_law l tenant n q ∙ ap version_of (h q) ∙ sym (rows_by_value_law m tenant k q))

pub other_rows_stay_law : OtherRowsStay
other_rows_stay_law m tenant number ms other n is index ne = rows_by_values (with_all m ms) m other n n (λ q.
    ap (λ f. latest f n) (others_stay_law m tenant number ms (packed other q) is (λ e. ne (sym (tenant_of-packed other q index) ∙ e))))

pub agreeing_rows_law : AgreeingRows
agreeing_rows_law l m pins bound tenant n index a shown = rows_by_values l m tenant n n (λ q.
    let own : tenant_of (packed tenant q) ≡ tenant = tenant_of-packed tenant q index in
    ⊎_elim
    (λ (p : Contains (pins tenant) n). (a (packed tenant q)).at_pins n (subst (λ t. Contains (pins t) n) (sym own) p))
    (λ (p : bound tenant ≤ n). (a (packed tenant q)).from_bound n (subst (λ t. bound t ≤ n) (sym own) p))
    shown)

-- ---- rows in order

both : (a b : Bool) → T a → T b → T (a && b)
both true b p q = q
both false b p q = p

below : (key : List ℕ) (rows : List Shown) → AllByRecursion (λ k. bytes_cmp key k ≡ Less) (map (λ row. row.0) rows) → T (below_all bytes_cmp key rows)
below key [] h = tt
below key (row ∷ rows) h = both _ _ (subst (λ r. T (is_lt r)) (sym h.0) tt) (below key rows h.1)

sorted : (rows : List Shown) → RowsRise rows → T (is_sorted bytes_cmp rows)
unfolding IsStrictlySortedBy
sorted [] h = tt
sorted (row ∷ rows) h = both _ _ (below row.0 rows h.0) (sorted rows h.1)

pub interval_in_order_law : IntervalInOrder
interval_in_order_law m tenant n from to rows rises is =
    let own : Rows = rows_at m tenant n in
    same_entries bytes_cmp nat_list_cmp_total exact_bytes (filter (λ row. is_within from to row.0) (finite.entries own)) rows
    (is_sorted-where_key bytes_cmp (is_within from to) (finite.entries own) (finite.entries_sorted own)) (sorted rows rises)
    (λ q. find-where_key bytes_cmp (is_within from to) q (λ x e. ap (is_within from to) (sym (exact_bytes q x e))) (finite.entries own)
    ∙ ap (λ (o : Option Version). cond (is_within from to q) o None) (sym (finite.get-entries own q) ∙ rows_by_value_law m tenant n q)
    ∙ sym (is q))
