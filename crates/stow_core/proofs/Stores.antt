-- One tenant's store in the state of all.
use Rattle.std.proofs.Common.{◌≡◌, ℕ, ◌-◌, ◌<◌, ◌≤◌, List, length, map, get_or, Bool, true, nat_lt, Option, Some, None, is_some, refl, ap, sym, ◌∙◌, subst, arith, ⊎_elim}
use Rattle.std.specs.Prelude.{option_map, Result, Ok, Err, IfOk, OnOk, IfSome}
use Rattle.std.specs.FinMap as finite
use Rattle.std.proofs.lemmas.Bool.{cases_lt, ltb-true}
use Rattle.stow_bytes.specs.Limits.{number_limit}
use Rattle.stow_core.specs.Prepared.{CanWrite}
use Rattle.stow_core.specs.State.{CoreState, shared_of, store_at, store_of, IsCore}
use Rattle.stow_core.specs.Tenancies.{TenancyState, own_state, tenancy_at, tenancy_of}
use Rattle.stow_core.specs.Writes.{row_of}
use Rattle.stow_core.proofs.Tenancies.{there, past, found_at}
use Rattle.stow_core.specs.declared.tenancy.Tenancy.{Tenancy}
use Rattle.std.proofs.lemmas.List.{length-map}
use Rattle.stow_ledger.specs.Accounts.{IsAccountOf}
use Rattle.stow_dropping.specs.StowMerge.declared.pins.Pins.{Pins}
use Rattle.stow_model.specs.Login.{IsTenant, quota_of}
use Rattle.stow_model.specs.Store.{Store, Rows, Version, empty_store}
use Rattle.stow_model.specs.Store as stored_value
use Rattle.stow_dropping.specs.StowRead.declared.found.Found.{Found}
use Rattle.stow_dropping.specs.StowRead.Found.{found_value}
use Rattle.stow_ledger.specs.StowState.Rows.{rows_at, version_of, IsIndex}
use Rattle.stow_ledger.specs.StowState.State.{SharedState, store_in, view, new_tenant, new_state}
use Rattle.stow_ledger.proofs.StowState.Rows.{rows_by_value_law}
use Rattle.stow_ledger.proofs.StowState.Steps.{new_view}
use Rattle.stow_dropping.specs.StowTree.TreeState.{tree_messages}
use Rattle.stow_tree_model.specs.Keys.{packed, own_key}
use Rattle.stow_tree_model.specs.Messages.{Messages, value}
use Rattle.stow_tree_model.specs.Operations.{NumberedValue, value_in}
use Rattle.stow_tree_model.specs.Value.{IsValue}

-- ---- whose store it is

pub index_of : {A : Type 0} (core : CoreState) (pins : Pins A) (t : ℕ) → IsCore core pins → IsTenant core.entries t → IsIndex t
index_of core pins t is_core is = let each = is_core.each in let few = is_core.few in let high = is.1 in omega (arith, each, few, high)

pub within : {A : Type 0} (core : CoreState) (pins : Pins A) (t : ℕ) → IsCore core pins → IsTenant core.entries t → t ≤ length core.tenancies
within core pins t is_core is = let each = is_core.each in let high = is.1 in omega (arith, each, high)

-- as keys are packed
pub low_index : {A : Type 0} (core : CoreState) (pins : Pins A) (t : ℕ) → IsCore core pins → IsTenant core.entries t → t ≤ 65536
low_index core pins t is_core is = let high = within core pins t is_core is in let few = is_core.few in omega (arith, high, few)

pub tight_index : {A : Type 0} (core : CoreState) (pins : Pins A) (t : ℕ) → IsCore core pins → IsTenant core.entries t → t ≤ 65535
tight_index core pins t is_core is = let high = within core pins t is_core is in let few = is_core.few in omega (arith, high, few)

pub own_there : {A : Type 0} (core : CoreState) (pins : Pins A) (t : ℕ) → IsCore core pins → IsTenant core.entries t → (own : TenancyState) × (tenancy_at t core.tenancies ≡ Some own)
own_there core pins t is_core is = there t core.tenancies is.0 (within core pins t is_core is)

-- a tenant's store is its view of the shared state
pub store_view : (core : CoreState) (t : ℕ) (own : TenancyState) → tenancy_at t core.tenancies ≡ Some own → store_of core t ≡ view (shared_of core) t
unfolding store_of view shared_of
store_view core t own at =
    ap (store_at (tree_messages core.tree) t) at ∙ ap (λ o. store_in (tree_messages core.tree) t (own_state o)) (sym at)

-- in its parts
pub stored : (core : CoreState) (t : ℕ) (own : TenancyState) → tenancy_at t core.tenancies ≡ Some own → store_of core t ≡ store_in (tree_messages core.tree) t (own_state (Some own))
unfolding store_of
stored core t own at = ap (store_at (tree_messages core.tree) t) at

-- who has no part has an empty store
pub no_store : (core : CoreState) (t : ℕ) → tenancy_at t core.tenancies ≡ None → store_of core t ≡ empty_store 0
unfolding store_of
no_store core t at = ap (store_at (tree_messages core.tree) t) at

-- states in which a tenant has the same part and the same view show it the same store
pub same_store : (core core' : CoreState) (t : ℕ) → tenancy_at t core'.tenancies ≡ tenancy_at t core.tenancies → (IsIndex t → view (shared_of core') t ≡ view (shared_of core) t) → length core.tenancies < 65536 → store_of core' t ≡ store_of core t
same_store core core' t same views few = one (tenancy_at t core.tenancies) refl where
  index : (own : TenancyState) → tenancy_at t core.tenancies ≡ Some own → IsIndex t
  index own at = ⊎_elim
      (λ (above : length core.tenancies < t). absurd (apart own (sym (past t core.tenancies above) ∙ at)))
      (λ (low : t ≤ length core.tenancies). omega (arith, low, few))
      (cases_lt (length core.tenancies) t)
    where
      apart : (o : TenancyState) → None ≡ Some o → ⊥
      apart o e = cc

  one : (o : Option TenancyState) → tenancy_at t core.tenancies ≡ o → store_of core' t ≡ store_of core t
  one None at = no_store core' t (same ∙ at) ∙ sym (no_store core t at)
  one (Some own) at = store_view core' t own (same ∙ at) ∙ views (index own at) ∙ sym (store_view core t own at)

pub last_stored : (core core' : CoreState) (t : ℕ) (own : TenancyState) → core ≡ core' → tenancy_at t core.tenancies ≡ Some own → (store_of core' t).last ≡ own.last
last_stored core core' t own e at = ap (λ c. (store_of c t).last) (sym e) ∙ ap (λ (s : Store). s.last) (stored core t own at)

-- ---- a new core

pub new_shared : (core : CoreState) → tree_messages core.tree ≡ finite.empty → ((t : ℕ) → own_state (tenancy_at t core.tenancies) ≡ new_tenant (quota_of core.entries t)) → shared_of core ≡ new_state (quota_of core.entries)
unfolding shared_of
new_shared core none owns = λ i. record { messages = none i; tenants = λ t. owns t i }

pub new_stores : (core : CoreState) → shared_of core ≡ new_state (quota_of core.entries) → ((t : ℕ) → tenancy_at t core.tenancies ≡ None → quota_of core.entries t ≡ 0) → (t : ℕ) → store_of core t ≡ empty_store (quota_of core.entries t)
new_stores core new strangers t = one (tenancy_at t core.tenancies) refl where
  one : (o : Option TenancyState) → tenancy_at t core.tenancies ≡ o → store_of core t ≡ empty_store (quota_of core.entries t)
  one None at = no_store core t at ∙ ap empty_store (sym (strangers t at))
  one (Some own) at = store_view core t own at ∙ ap (λ (s : SharedState). view s t) new ∙ new_view (quota_of core.entries) t

-- ---- what is read

-- a version's value
pub version_value : (v : Option NumberedValue) → stored_value.value_in (version_of v) ≡ value_in v
version_value None = refl
version_value (Some v) = refl

-- the value of a tenant's row is the one that its key has
pub row_value : (m : Messages) (t n : ℕ) (key : List ℕ) → packed t (own_key key) ≡ key → stored_value.value_in (finite.get (rows_at m t n) (own_key key)) ≡ value_in (value m key n)
row_value m t n key own =
    ap stored_value.value_in (rows_by_value_law m t n (own_key key))
    ∙ version_value (value m (packed t (own_key key)) n)
    ∙ ap (λ k. value_in (value m k n)) own

-- what holds whatever a call answers holds where it succeeds
pub on_ok : {X E P : Type 0} (r : Result X E) → P → OnOk r P
on_ok (Ok x) p = p
on_ok (Err e) p = tt

pub is_some-row_of : {A : Type 0} (found : Option (Found A)) → is_some found ≡ is_some (row_of found)
is_some-row_of None = refl
is_some-row_of (Some found) = refl

-- what a look-up in the tree found is the row
pub row_found : {A E : Type 0} (r : Result (Option (Found A)) E) (m : Messages) (t n : ℕ) (key packed_key : List ℕ) → packed_key ≡ packed t key
    → IfOk r (λ found. option_map found_value found ≡ value m packed_key n) → IfOk r (λ found. row_of found ≡ finite.get (rows_at m t n) key)
row_found (Ok found) m t n key packed_key same is = ap version_of is ∙ ap (λ k. version_of (value m k n)) same ∙ sym (rows_by_value_law m t n key)
row_found (Err e) m t n key packed_key same is = is

pub row_short : {A E : Type 0} (r : Result (Option (Found A)) E) → IfOk r (λ found. IsValue (value_in (option_map found_value found))) → IfOk r (λ found. IsValue (stored_value.value_in (row_of found)))
row_short (Ok found) is = subst IsValue (sym (version_value (option_map found_value found))) is
row_short (Err e) is = is

pub can_still_write : (core core' : CoreState) (t : ℕ) (b : Bool) → store_of core' t ≡ store_of core t → b ≡ nat_lt (store_of core t).last number_limit → b ≡ true → CanWrite core' t
can_still_write core core' t b e is can = subst (λ n. n < number_limit) (ap (λ (s : Store). s.last) (sym e)) (ltb-true _ _ (sym is ∙ can))

-- ---- what the code finds

module _ {A : Type 0} (core core' : CoreState) (pins : Pins A) (items : List (Tenancy A)) (t : ℕ) (same : core ≡ core') (is_core : IsCore core pins) (seen : core.tenancies ≡ map tenancy_of items) (is : IsTenant core'.entries t) where
  pub own_is : IsTenant core.entries t
  own_is = subst (λ (c : CoreState). IsTenant c.entries t) (sym same) is

  pub found_high : t ≤ length items
  found_high = let h = within core pins t is_core own_is in let l = ap length seen ∙ length-map items tenancy_of in omega (arith, h, l)

  pub found_own : (x : Tenancy A) → x ≡ get_or items (t - 1) x → tenancy_at t core.tenancies ≡ Some (tenancy_of x)
  found_own x at = ap (tenancy_at t) seen ∙ found_at t items x is.0 found_high at

  pub found_account : (x : Tenancy A) → x ≡ get_or items (t - 1) x → IsAccountOf (store_of core t) x.account
  found_account x at = subst (λ (o : Option TenancyState). IfSome o (λ own. IsAccountOf (store_of core t) own.account)) (found_own x at) (is_core.accounts t)
