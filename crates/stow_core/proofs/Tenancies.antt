-- What each tenant has beside its messages, in the list of all.
use Rattle.std.proofs.Common.{◌≡◌, ◌≢◌, ℕ, zero, suc, ◌+◌, ◌-◌, ◌<◌, ◌≤◌, List, [], ◌∷◌, ◌++◌, length, map, take, get_or, set, eqb, add-one, Some, None, refl, ap, sym, ◌∙◌, subst, arith, ⊎_elim}
use Rattle.std.proofs.lemmas.Bool.{cases_eq, cond-true, cond-false, eq-eqb, ne_eqb}
use Rattle.std.proofs.lemmas.List.{get_or-map, length-map}
use Rattle.std.proofs.lemmas.Option.{slice_get_past, slice_get_read}
use Rattle.std.specs.Prelude.{slice_get}
use Rattle.std.specs.FinMap.{FinMap}
use Rattle.std.specs.FinMap as finite
use Rattle.std.specs.Ordering.{nat_cmp}
use Rattle.stow_core.specs.Tenancies.{TenancyState, tenancy_with, tenancy_of, versions_of, new_tenancy, own_state, tenancy_at}
use Rattle.stow_core.specs.declared.tenancy.Tenancy.{Tenancy}
use Rattle.stow_ledger.specs.Accounts.{AccountState, new_account}
use Rattle.stow_model.specs.Login.{Entry, quota_from, quota_of}
use Rattle.stow_ledger.specs.StowState.State.{TenantState, new_tenant}
use Rattle.stow_ledger.specs.StowState.Steps.{with_tenant}
use Rattle.stow_ledger.proofs.StowState.Snapshots.{entries-empty}
use Rattle.stow_versions.specs.VersionsState.{VersionsState, new_versions}

-- ---- lists

place_of : (p : ℕ) → suc p - 1 ≡ p
place_of p = omega arith

slice_get-set : {X : Type 0} (xs : List X) (p : ℕ) (x : X) → p < length xs → slice_get (set xs p x) p ≡ Some x
slice_get-set [] p x below = absurd (omega (arith, below))
slice_get-set (y ∷ xs) zero x below = refl
slice_get-set (y ∷ xs) (suc p) x below = slice_get-set xs p x (omega (arith, below))

slice_get-set_other : {X : Type 0} (xs : List X) (p q : ℕ) (x : X) → q ≢ p → slice_get (set xs p x) q ≡ slice_get xs q
slice_get-set_other [] p q x differ = refl
slice_get-set_other (y ∷ xs) zero zero x differ = absurd (differ refl)
slice_get-set_other (y ∷ xs) zero (suc q) x differ = refl
slice_get-set_other (y ∷ xs) (suc p) zero x differ = refl
slice_get-set_other (y ∷ xs) (suc p) (suc q) x differ = slice_get-set_other xs p q x (λ e. differ (ap suc e))

slice_there : {X : Type 0} (xs : List X) (p : ℕ) → p < length xs → (x : X) × (slice_get xs p ≡ Some x)
slice_there [] p low = absurd (omega (arith, low))
slice_there (x ∷ xs) zero low = (x, refl)
slice_there (x ∷ xs) (suc p) low = slice_there xs p (omega (arith, low))

pub take_all : {X : Type 0} (xs : List X) (n : ℕ) → length xs ≤ n → take n xs ≡ xs
take_all [] zero le = refl
take_all [] (suc n) le = refl
take_all (x ∷ xs) zero le = absurd (omega (arith, le))
take_all (x ∷ xs) (suc n) le = ap (λ t. x ∷ t) (take_all xs n (omega (arith, le)))

-- ---- tenancies

pub set_own : (t : ℕ) (tenancies : List TenancyState) (own : TenancyState) → 1 ≤ t → t ≤ length tenancies → tenancy_at t (set tenancies (t - 1) own) ≡ Some own
set_own zero tenancies own low high = absurd (omega (arith, low))
set_own (suc p) tenancies own low high = subst (λ k. slice_get (set tenancies k own) p ≡ Some own) (sym (place_of p)) (slice_get-set tenancies p own (omega (arith, high)))

pub set_other : (t other : ℕ) (tenancies : List TenancyState) (own : TenancyState) → 1 ≤ t → other ≢ t → tenancy_at other (set tenancies (t - 1) own) ≡ tenancy_at other tenancies
set_other zero other tenancies own low differ = absurd (omega (arith, low))
set_other (suc p) zero tenancies own low differ = refl
set_other (suc p) (suc q) tenancies own low differ = subst (λ k. slice_get (set tenancies k own) q ≡ slice_get tenancies q) (sym (place_of p)) (slice_get-set_other tenancies p q own (λ e. differ (ap suc e)))

pub there : (t : ℕ) (tenancies : List TenancyState) → 1 ≤ t → t ≤ length tenancies → (own : TenancyState) × (tenancy_at t tenancies ≡ Some own)
there zero tenancies low high = absurd (omega (arith, low))
there (suc p) tenancies low high = slice_there tenancies p (omega (arith, high))

pub past : (t : ℕ) (tenancies : List TenancyState) → length tenancies < t → tenancy_at t tenancies ≡ None
past zero tenancies above = absurd (omega (arith, above))
past (suc p) tenancies above = slice_get_past tenancies p (omega (arith, above))

-- what the code finds at a tenant's place
pub found_at : {A : Type 0} (t : ℕ) (items : List (Tenancy A)) (x : Tenancy A) → 1 ≤ t → t ≤ length items → x ≡ get_or items (t - 1) x → tenancy_at t (map tenancy_of items) ≡ Some (tenancy_of x)
found_at zero items x low high is = absurd (omega (arith, low))
found_at (suc p) items x low high is =
    slice_get_read (map tenancy_of items) (length (map tenancy_of items)) p (tenancy_of x) refl
    (let l = length-map items tenancy_of in omega (arith, l, high))
    (subst (λ k. tenancy_of x ≡ get_or (map tenancy_of items) k (tenancy_of x)) (place_of p)
    (ap tenancy_of is ∙ sym (get_or-map tenancy_of items (suc p - 1) x (tenancy_of x) (omega (arith, high)))))

sorted_again : (m : FinMap nat_cmp ℕ) → finite.from_sorted (finite.entries m) ≡ m
sorted_again m = finite.same_entries_map (finite.from_sorted (finite.entries m)) m (finite.entries-from_sorted nat_cmp (finite.entries m) (finite.entries_sorted m))

pub same_versions : (v : VersionsState) (a : AccountState) → versions_of (tenancy_with v a) ≡ v
same_versions v a = λ i. record {
  last = v.last;
  snapshots = sorted_again v.snapshots i;
  next = v.next;
  room = v.room;
}

-- the parts of a tenant's own state
abbrev pub own_with : VersionsState → AccountState → TenantState
own_with v a = record { last = v.last; snapshots = v.snapshots; next = v.next; quota = a.quota; commands = a.commands; refusals = a.refusals }

pub own_of_parts : (v : VersionsState) (a : AccountState) → own_state (Some (tenancy_with v a)) ≡ own_with v a
own_of_parts v a = ap (λ (w : VersionsState). own_with w a) (same_versions v a)

-- what the tenants have once one of them has another part
pub tenants_set : (tenancies : List TenancyState) (t : ℕ) (own : TenancyState) (state : TenantState) → 1 ≤ t → t ≤ length tenancies → own_state (Some own) ≡ state → (u : ℕ)
    → own_state (tenancy_at u (set tenancies (t - 1) own)) ≡ with_tenant (λ v. own_state (tenancy_at v tenancies)) t state u
tenants_set tenancies t own state low high is u = ⊎_elim
    (λ (e : u ≡ t).
    ap (λ v. own_state (tenancy_at v (set tenancies (t - 1) own))) e ∙ ap own_state (set_own t tenancies own low high) ∙ is ∙ sym (cond-true (eqb u t) _ _ (eq-eqb u t e)))
    (λ (ne : u ≢ t). ap own_state (set_other t u tenancies own low ne) ∙ sym (cond-false (eqb u t) _ _ (ne_eqb u t ne)))
    (cases_eq u t)

-- ---- new tenancies

new_at : (entries : List Entry) (index i : ℕ) → own_state (slice_get (map new_tenancy entries) i) ≡ new_tenant (quota_from index entries (index + i))
new_at [] index i = refl
new_at (entry ∷ entries) index zero = first ∙ ap new_tenant (sym (cond-true (eqb index (index + 0)) _ _ (eq-eqb index (index + 0) (omega arith)))) where
  first : own_state (Some (new_tenancy entry)) ≡ new_tenant entry.quota
  first = λ i. record { last = 0; snapshots = none i; next = 1; quota = entry.quota; commands = 0; refusals = 0 } where
    none : finite.from_sorted [] ≡ finite.empty {X = ℕ} {R = nat_cmp}
    none = ap finite.from_sorted (sym entries-empty) ∙ sorted_again finite.empty
new_at (entry ∷ entries) index (suc i) =
    let next : (index + 1) + i ≡ index + suc i = omega arith in
    new_at entries (index + 1) i
    ∙ ap (λ t. new_tenant (quota_from (index + 1) entries t)) next
    ∙ ap new_tenant (sym (cond-false (eqb index (index + suc i)) _ _ (ne_eqb index (index + suc i) (omega arith))))

no_quota : (entries : List Entry) (index t : ℕ) → t < index → quota_from index entries t ≡ 0
no_quota [] index t below = refl
no_quota (entry ∷ entries) index t below = cond-false (eqb index t) _ _ (ne_eqb index t (omega (arith, below))) ∙ no_quota entries (index + 1) t (omega (arith, below))

-- each tenant has its entry's quota, and nothing else
pub new_owns : (entries : List Entry) (tenancies : List TenancyState) → tenancies ≡ map new_tenancy entries → (t : ℕ) → own_state (tenancy_at t tenancies) ≡ new_tenant (quota_of entries t)
unfolding quota_of
new_owns entries tenancies e zero = ap new_tenant (sym (no_quota entries 1 0 (omega arith)))
new_owns entries tenancies e (suc p) =
    let index : 1 + p ≡ suc p = omega arith in
    ap (λ l. own_state (slice_get l p)) e ∙ new_at entries 1 p ∙ ap (λ t. new_tenant (quota_from 1 entries t)) index

new_from : (entries : List Entry) (index i : ℕ) → i < length entries
    → map new_tenancy (take i entries) ++ record { last = 0; snapshots = []; next = 1; room = 0; account = new_account (quota_from index entries (index + i)) } ∷ [] ≡ map new_tenancy (take (suc i) entries)
new_from [] index i below = absurd (omega (arith, below))
new_from (entry ∷ entries) index zero below =
    ap (λ q. record { last = 0; snapshots = []; next = 1; room = 0; account = new_account q } ∷ []) (cond-true (eqb index (index + 0)) _ _ (eq-eqb index (index + 0) (omega arith)))
new_from (entry ∷ entries) index (suc i) below =
    let next : index + suc i ≡ (index + 1) + i = omega arith in
    ap (λ q. new_tenancy entry ∷ (map new_tenancy (take i entries) ++ record { last = 0; snapshots = []; next = 1; room = 0; account = new_account q } ∷ []))
    (cond-false (eqb index (index + suc i)) _ _ (ne_eqb index (index + suc i) (omega arith)) ∙ ap (quota_from (index + 1) entries) next)
    ∙ ap (λ l. new_tenancy entry ∷ l) (new_from entries (index + 1) i (omega (arith, below)))

-- the tenancies of the first tenants, and one more
pub one_more_tenancy : {A : Type 0} (entries : List Entry) (i quota : ℕ) (items : List (Tenancy A)) (x : Tenancy A) → i < length entries → quota ≡ quota_of entries (i + 1) → x.versions ≡ new_versions → x.account ≡ new_account quota
    → map tenancy_of items ≡ map new_tenancy (take i entries) → map tenancy_of (items ++ x ∷ []) ≡ map new_tenancy (take (i + 1) entries)
unfolding quota_of
one_more_tenancy entries i quota items x below is versions account so_far =
    let index : i + 1 ≡ 1 + i = omega arith in
    pushed items
    ∙ (λ k. so_far k ++ last k ∷ [])
    ∙ new_from entries 1 i below
    ∙ ap (λ n. map new_tenancy (take n entries)) (sym (add-one i))
  where
    index : i + 1 ≡ 1 + i
    index = omega arith

    pushed : (xs : List (Tenancy _)) → map tenancy_of (xs ++ x ∷ []) ≡ map tenancy_of xs ++ tenancy_of x ∷ []
    pushed [] = refl
    pushed (y ∷ xs) = ap (λ l. tenancy_of y ∷ l) (pushed xs)

    last : tenancy_of x ≡ record { last = 0; snapshots = []; next = 1; room = 0; account = new_account (quota_from 1 entries (1 + i)) }
    last = (λ k. tenancy_with (versions k) ((account ∙ ap new_account (is ∙ ap (quota_from 1 entries) index)) k))
        ∙ (λ k. record { last = 0; snapshots = entries-empty k; next = 1; room = 0; account = new_account (quota_from 1 entries (1 + i)) })
