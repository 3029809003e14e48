-- A new core.
use Rattle.std.proofs.Common.{◌≡◌, ℕ, zero, suc, ◌<◌, List, [], ◌∷◌, length, map, Option, Some, None, refl, ap, sym, ◌∙◌, subst}
use Rattle.std.specs.Prelude.{slice_get, IfSome}
use Rattle.std.specs.FinMap as finite
use Rattle.std.proofs.lemmas.List.{length-map}
use Rattle.stow_core.specs.State.{CoreState, shared_of, store_of, IsCore, IsNewCore}
use Rattle.stow_core.specs.Tenancies.{TenancyState, new_tenancy, own_state, tenancy_at, is_among}
use Rattle.stow_core.proofs.Stores.{new_shared, new_stores}
use Rattle.stow_core.proofs.Tenancies.{new_owns}
use Rattle.stow_ledger.specs.Accounts.{AccountState, IsAccountOf, new_account}
use Rattle.stow_ledger.proofs.KeptLemmas.{new_account_is_empty_law}
use Rattle.stow_dropping.specs.StowMerge.declared.pins.Pins.{Pins}
use Rattle.stow_dropping.specs.StowMerge.Pins as held
use Rattle.stow_model.specs.Login.{Entry, quota_of}
use Rattle.stow_model.specs.Store.{empty_store}
use Rattle.stow_ledger.specs.StowState.State.{TenantState, IsSound, new_state, new_tenant}
use Rattle.stow_ledger.proofs.StowState.Snapshots.{entries-empty}
use Rattle.stow_ledger.proofs.StowState.Steps.{new_sound}
use Rattle.stow_dropping.specs.StowTree.Shapes.{AreInRange}
use Rattle.stow_dropping.specs.StowTree.TreeState.{tree_messages}

-- each account is new
account_of : (entries : List Entry) (p : ℕ) (own : TenancyState) → slice_get (map new_tenancy entries) p ≡ Some own → (quota : ℕ) × (own.account ≡ new_account quota)
account_of [] p own e = absurd (apart own e) where
  apart : (o : TenancyState) → None ≡ Some o → ⊥
  apart o f = cc
account_of (entry ∷ entries) zero own e = (entry.quota, ap account (sym e)) where
  account : Option TenancyState → AccountState
  account None = new_account entry.quota
  account (Some o) = o.account
account_of (entry ∷ entries) (suc p) own e = account_of entries p own e

account_at : (entries : List Entry) (t : ℕ) (own : TenancyState) → tenancy_at t (map new_tenancy entries) ≡ Some own → (quota : ℕ) × (own.account ≡ new_account quota)
account_at entries zero own e = absurd (apart own e) where
  apart : (o : TenancyState) → None ≡ Some o → ⊥
  apart o f = cc
account_at entries (suc p) own e = account_of entries p own e

module _ {A : Type 0} (core : CoreState) (pins : Pins A) (made : core.tenancies ≡ map new_tenancy core.entries) (none : tree_messages core.tree ≡ finite.empty) where
  owns : (t : ℕ) → own_state (tenancy_at t core.tenancies) ≡ new_tenant (quota_of core.entries t)
  owns t = new_owns core.entries core.tenancies made t

  shared : shared_of core ≡ new_state (quota_of core.entries)
  shared = new_shared core none owns

  stores : (t : ℕ) → store_of core t ≡ empty_store (quota_of core.entries t)
  stores = new_stores core shared (λ t at. sym (ap (λ (o : TenantState). o.quota) (sym (ap own_state at) ∙ owns t)))

  pub is_new : IsNewCore core
  is_new = record { stores = stores; shared = shared }

  pub new_kept : length core.tenancies < 65536 → ((t : ℕ) → held.pins_in pins t ≡ []) → core.pin_room ≡ 0 → AreInRange core.tree.root.shape → IsCore core pins
  unfolding shared_of
  new_kept few no_pins no_room sizes = record {
    each = ap length made ∙ length-map core.entries new_tenancy;
    few = few;
    sound = subst IsSound (sym shared) (new_sound (quota_of core.entries));
    accounts = λ t. one t (tenancy_at t core.tenancies) refl;
    pins_are = λ t n. ap (is_among n) (no_pins t ∙ sym (ap (λ (o : TenantState). finite.values o.snapshots) (owns t) ∙ ap (map (λ (e : ℕ × ℕ). e.1)) entries-empty));
    pin_room = λ ne. absurd (ne no_room);
    sizes = sizes;
  }
    where
      one : (t : ℕ) (o : Option TenancyState) → tenancy_at t core.tenancies ≡ o → IfSome o (λ own. IsAccountOf (store_of core t) own.account)
      one t None at = tt
      one t (Some own) at =
          let found = account_at core.entries t own (sym (ap (tenancy_at t) made) ∙ at) in
          let quota : quota_of core.entries t ≡ found.0 = sym (ap (λ (o : TenantState). o.quota) (sym (ap own_state at) ∙ owns t)) ∙ ap (λ (a : AccountState). a.quota) found.1 in
          subst (λ s. IsAccountOf s own.account) (sym (stores t ∙ ap empty_store quota)) (subst (IsAccountOf (empty_store found.0)) (sym found.1) (new_account_is_empty_law found.0))
