-- The rows that a walk over all of a tenant's keys tells.
use Rattle.std.proofs.Common.{◌≡◌, ◌≢◌, ℕ, ◌+◌, ◌<◌, ◌≤◌, ◌^◌, Bool, true, false, List, [], ◌∷◌, Option, Some, None, refl, ap, ◌∙◌, sym, subst, arith, ⊎_elim, inl, inr, ◌⊎◌}
use Rattle.std.proofs.Math.Bool.{false≢true}
use Rattle.std.specs.Prelude.{map, filter, not, Contains, IsSome}
use Rattle.std.specs.List.{AllByRecursion}
use Rattle.std.specs.List.Sorted.{IsStrictlySortedBy}
use Rattle.std.specs.declared.cmp.Ordering.TheVariants.{Less}
use Rattle.std.specs.Ordering.{is_lt, ordering_then}
use Rattle.std.specs.FinMap as finite
use Rattle.std.specs.FinMap.{find}
use Rattle.std.proofs.lemmas.Bool.{cond-true, cond-false}
use Rattle.stow_tree_model.specs.StowBytes.Bytes.{bytes_cmp}
use Rattle.stow_tree_model.specs.StowBytes.Limits.{tenant_limit}
use Rattle.stow_ledger.specs.StowModel.Store.{Version, Shown, is_within}
use Rattle.stow_tree_model.specs.Intervals.{IsWholeKey, IsWithin}
use Rattle.stow_tree_model.specs.Keys.{packed, own_key}
use Rattle.stow_tree_model.specs.Merged.{same_key}
use Rattle.stow_tree_model.specs.Messages.{Messages, ops_of, value}
use Rattle.stow_tree_model.specs.Operations.{NumberedValue, latest}
use Rattle.stow_tree_model.proofs.Latest.{contains_cases}
use Rattle.stow_tree_model.proofs.Orders.{key_cases, less_than, same_number}
use Rattle.stow_tree_model.proofs.Packed.{own_key-packed}
use Rattle.stow_tree_model.proofs.PackedOrder.{packed_in_order_law, packed-parts, tenant_interval_law}
use Rattle.stow_tree_model.proofs.Rising.{less_from}
use Rattle.stow_ledger.specs.StowState.Rows.{rows_at, version_of, RowsRise}
use Rattle.stow_ledger.proofs.StowState.Rows.{rows_by_value_law, interval_in_order_law}
use Rattle.stow_tree.specs.StowRead.Walk.{is_inside, head_keys, IsHead}
use Rattle.stow_tree.specs.StowRead.declared.row_head.RowHead.{RowHead}
use Rattle.stow_tree.proofs.StowRead.FirstKeys.{inside_from, inside_to, insided}
use Rattle.stow_dropping.specs.Parts.{HaveWholeKeys}

-- ---- keys of the tenant

abbrev pub AreHeads : {A : Type 0} → Messages → ℕ → List (RowHead A) → Type 0
AreHeads m at heads = AllByRecursion (λ (row : RowHead _). IsHead (ops_of m row.key) at row) heads

abbrev pub AreOwn : {A : Type 0} → ℕ → List (RowHead A) → Type 0
AreOwn t heads = AllByRecursion (λ (row : RowHead _). packed t (own_key row.key) ≡ row.key) heads

not_both : (b : Bool) → b ≡ true → not b ≡ true → ⊥
not_both true e f = false≢true f
not_both false e f = false≢true e

own_of_inside : (t : ℕ) (key : List ℕ) → t ≤ tenant_limit → IsWholeKey key → is_inside (packed t []) false (packed (t + 1) []) key ≡ true → packed t (own_key key) ≡ key
own_of_inside t key l is inside = subst (λ u. packed u (own_key key) ≡ key) ((tenant_interval_law t key l is.0 is.1).1 within) (packed-parts key is.0 is.1) where
  within : IsWithin (packed t []) (packed (t + 1) []) key
  within = (
    λ e. not_both (is_lt (bytes_cmp key (packed t []))) (ap is_lt e) (inside_from (packed t []) false (packed (t + 1) []) key inside),
    less_from (bytes_cmp key (packed (t + 1) [])) (inside_to (packed t []) false (packed (t + 1) []) key inside),
  )

pub are_own : {A : Type 0} (t : ℕ) (heads : List (RowHead A)) → t ≤ tenant_limit → HaveWholeKeys heads → AllByRecursion (λ key. is_inside (packed t []) false (packed (t + 1) []) key ≡ true) (head_keys heads) → AreOwn t heads
are_own t [] l whole inside = tt
are_own t (row ∷ heads) l whole inside = (own_of_inside t row.key l whole.0 inside.0, are_own t heads l whole.1 inside.1)

-- .. and each of the tenant's keys is inside
pub inside_own : (t : ℕ) (q : List ℕ) → t ≤ tenant_limit → is_inside (packed t []) false (packed (t + 1) []) (packed t q) ≡ true
inside_own t q l = insided (packed t []) false (packed (t + 1) []) (packed t q) (ap not (lower q)) (ap is_lt (packed_in_order_law t (t + 1) q [] (omega (arith, l)) (omega (arith, l)) ∙ ap (λ o. ordering_then o (bytes_cmp q [])) (less_than t (t + 1) (omega arith)))) where
  never : (k : List ℕ) → is_lt (bytes_cmp k []) ≡ false
  never [] = refl
  never (x ∷ k) = refl

  lower : (k : List ℕ) → is_lt (bytes_cmp (packed t k) (packed t [])) ≡ false
  lower k = ap is_lt (packed_in_order_law t t k [] (omega (arith, l)) (omega (arith, l)) ∙ ap (λ o. ordering_then o (bytes_cmp k [])) (same_number t)) ∙ never k

-- ---- the rows with their bytes

abbrev pub shown_version : NumberedValue → Version
shown_version v = record { number = v.number; value = v.value }

abbrev pub shown_in : {A : Type 0} (m : Messages) (at : ℕ) (heads : List (RowHead A)) → AreHeads m at heads → List Shown
shown_in m at [] told = []
shown_in m at (row ∷ heads) told = (own_key row.key, shown_version told.0.value) ∷ shown_in m at heads told.1

own_cmp : (t : ℕ) (a b : List ℕ) → t < 2 ^ 32 → bytes_cmp (packed t a) (packed t b) ≡ bytes_cmp a b
own_cmp t a b l = packed_in_order_law t t a b l l ∙ ap (λ o. ordering_then o (bytes_cmp a b)) (same_number t)

own_above : {A : Type 0} (m : Messages) (t at : ℕ) (a : List ℕ) (heads : List (RowHead A)) (told : AreHeads m at heads) → t < 2 ^ 32 → packed t (own_key a) ≡ a → AreOwn t heads → AllByRecursion (λ k. bytes_cmp a k ≡ Less) (head_keys heads)
    → AllByRecursion (λ k. bytes_cmp (own_key a) k ≡ Less) (map (λ (e : Shown). e.0) (shown_in m at heads told))
own_above m t at a [] told l own are up = tt
own_above m t at a (row ∷ heads) told l own are up = (
  sym (own_cmp t (own_key a) (own_key row.key) l) ∙ (λ i. bytes_cmp (own i) (are.0 i)) ∙ up.0,
  own_above m t at a heads told.1 l own are.1 up.1,
)

own_rise : {A : Type 0} (m : Messages) (t at : ℕ) (heads : List (RowHead A)) (told : AreHeads m at heads) → t < 2 ^ 32 → AreOwn t heads → IsStrictlySortedBy bytes_cmp (head_keys heads) → RowsRise (shown_in m at heads told)
unfolding IsStrictlySortedBy
own_rise m t at [] told l are up = tt
own_rise m t at (row ∷ heads) told l are up = (own_above m t at row.key heads told.1 l are.0 are.1 up.0, own_rise m t at heads told.1 l are.1 up.1)

-- the tenant has this row of the head's key
pub row_there : {A : Type 0} (m : Messages) (t at : ℕ) (row : RowHead A) (head : IsHead (ops_of m row.key) at row) → packed t (own_key row.key) ≡ row.key → finite.get (rows_at m t at) (own_key row.key) ≡ Some (shown_version head.value)
row_there m t at row head own = rows_by_value_law m t at (own_key row.key) ∙ ap (λ k. version_of (value m k at)) own ∙ ap version_of head.has

-- ---- they are all of the tenant's rows

abbrev Missing : {A : Type 0} → List ℕ → List (RowHead A) → Type 0
Missing q heads = AllByRecursion (λ (row : RowHead _). own_key row.key ≢ q) heads

found_or_missing : {A : Type 0} (m : Messages) (t at : ℕ) (q : List ℕ) (heads : List (RowHead A)) (told : AreHeads m at heads) → AreOwn t heads
    → (find bytes_cmp q (shown_in m at heads told) ≡ finite.get (rows_at m t at) q) ⊎ (Missing q heads × (find bytes_cmp q (shown_in m at heads told) ≡ None))
found_or_missing m t at q [] told are = inr (tt, refl)
found_or_missing m t at q (row ∷ heads) told are = ⊎_elim
    (λ (s : (q ≡ own_key row.key) × (same_key q (own_key row.key) ≡ true)). inl (cond-true _ _ _ s.1 ∙ sym (row_there m t at row told.0 are.0) ∙ ap (finite.get (rows_at m t at)) (sym s.0)))
    (λ (ne : (q ≢ own_key row.key) × (same_key q (own_key row.key) ≡ false)). ⊎_elim
    (λ (h : find bytes_cmp q (shown_in m at heads told.1) ≡ finite.get (rows_at m t at) q). inl (cond-false _ _ _ ne.1 ∙ h))
    (λ (h : Missing q heads × (find bytes_cmp q (shown_in m at heads told.1) ≡ None)). inr (((λ e. ne.0 (sym e)), h.0), cond-false _ _ _ ne.1 ∙ h.1))
    (found_or_missing m t at q heads told.1 are.1))
    (key_cases q (own_key row.key))

not_missing : {A : Type 0} (t : ℕ) (q : List ℕ) (heads : List (RowHead A)) → Contains (head_keys heads) (packed t q) → Missing q heads → ⊥
not_missing t q [] c missing = let l = c.1 in omega (arith, l)
not_missing t q (row ∷ heads) c missing = ⊎_elim
    (λ (e : row.key ≡ packed t q). missing.0 (ap own_key e ∙ own_key-packed t q))
    (λ (h : Contains (head_keys heads) (packed t q)). not_missing t q heads h missing.1)
    (contains_cases row.key (packed t q) (head_keys heads) c)

none_of : (o : Option NumberedValue) → (IsSome o → ⊥) → version_of o ≡ None
none_of None h = refl
none_of (Some v) h = absurd (h refl)

every_key : (q : List ℕ) → is_within [] [] q ≡ true
every_key [] = refl
every_key (x ∷ q) = refl

all_kept : (p : List ℕ → Bool) (es : List Shown) → ((k : List ℕ) → p k ≡ true) → filter (λ e. p e.0) es ≡ es
all_kept p [] h = refl
all_kept p (e ∷ es) h = cond-true _ _ _ (h e.0) ∙ ap (λ rest. e ∷ rest) (all_kept p es h)

pub all_rows : {A : Type 0} (m : Messages) (t at : ℕ) (heads : List (RowHead A)) (told : AreHeads m at heads) → t ≤ tenant_limit → AreOwn t heads → IsStrictlySortedBy bytes_cmp (head_keys heads)
    → ((q : List ℕ) → IsSome (latest (ops_of m (packed t q)) at) → Contains (head_keys heads) (packed t q)) → finite.entries (rows_at m t at) ≡ shown_in m at heads told
all_rows m t at heads told l are up whole =
    sym (all_kept (is_within [] []) (finite.entries (rows_at m t at)) every_key)
    ∙ interval_in_order_law m t at [] [] (shown_in m at heads told) (own_rise m t at heads told (omega (arith, l)) are up) (λ q. look q ∙ rows_by_value_law m t at q ∙ sym (cond-true _ _ _ (every_key q)))
  where
    look : (q : List ℕ) → find bytes_cmp q (shown_in m at heads told) ≡ finite.get (rows_at m t at) q
    look q = ⊎_elim
        (λ (h : find bytes_cmp q (shown_in m at heads told) ≡ finite.get (rows_at m t at) q). h)
        (λ (h : Missing q heads × (find bytes_cmp q (shown_in m at heads told) ≡ None)).
        h.1 ∙ sym (rows_by_value_law m t at q ∙ none_of (value m (packed t q) at) (λ s. not_missing t q heads (whole q s) h.0)))
        (found_or_missing m t at q heads told are)
