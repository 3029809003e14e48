-- Snapshots that a tenant names.
use Rattle.std.proofs.Common.{◌≡◌, ℕ, ℤ, pos, negsuc, Option, Some, None, refl, ap, sym, ◌∙◌, subst}
use Rattle.std.specs.Prelude.{IfSome, option_map}
use Rattle.std.specs.FinMap as finite
use Rattle.stow_core.specs.State.{CoreState, store_of, IsLive}
use Rattle.stow_core.specs.Tenancies.{TenancyState, tenancy_of, tenancy_at, versions_of}
use Rattle.stow_core.specs.declared.tenancy.Tenancy.{Tenancy}
use Rattle.stow_core.proofs.Stores.{stored}
use Rattle.stow_core.proofs.Tenancies.{own_of_parts, same_versions}
use Rattle.stow_model.specs.Store.{Store, snapshot_rows, number_in}
use Rattle.stow_ledger.specs.StowState.Rows.{rows_at}
use Rattle.stow_ledger.specs.StowState.State.{store_in}
use Rattle.stow_ledger.proofs.StowState.Snapshots.{get-copies_of}
use Rattle.stow_dropping.specs.StowTree.TreeState.{tree_messages}
use Rattle.stow_versions.specs.VersionsState.{VersionsState}

module _ {A : Type 0} (core : CoreState) (t : ℕ) (x : Tenancy A) (at : tenancy_at t core.tenancies ≡ Some (tenancy_of x)) where
  shown : (id : ℕ) → finite.get (store_of core t).snapshots id ≡ option_map (rows_at (tree_messages core.tree) t) (finite.get x.versions.snapshots id)
  shown id =
      ap (λ (s : Store). finite.get s.snapshots id) (stored core t (tenancy_of x) at ∙ ap (store_in (tree_messages core.tree) t) (own_of_parts x.versions x.account))
      ∙ get-copies_of (tree_messages core.tree) t x.versions.snapshots id

  -- an id below 0 names none
  pub negative : (id : ℤ) → None ≡ number_in id → snapshot_rows (store_of core t) id ≡ None
  negative (pos n) e = absurd (apart e) where
    apart : None ≡ Some n → ⊥
    apart f = cc
  negative (negsuc n) e = refl

  pub named : (id : ℤ) (n : ℕ) → Some n ≡ number_in id → id ≡ pos n
  named (pos m) n e = ap pos (inner e) where
    inner : Some n ≡ Some m → m ≡ n
    inner f = cc
  named (negsuc m) n e = absurd (apart e) where
    apart : Some n ≡ None → ⊥
    apart f = cc

  pub absent : (id : ℤ) (n : ℕ) → Some n ≡ number_in id → finite.get x.versions.snapshots n ≡ None → snapshot_rows (store_of core t) id ≡ None
  absent id n e none = ap (snapshot_rows (store_of core t)) (named id n e) ∙ shown n ∙ ap (option_map (rows_at (tree_messages core.tree) t)) none

  pub live : (id : ℤ) (n number : ℕ) → Some n ≡ number_in id → finite.get x.versions.snapshots n ≡ Some number → IsLive core t id (record { id = n; rows = record { tenant = t; number = number } })
  live id n number e is = record {
    id_is = named id n e;
    tenant_is = refl;
    number = subst (λ (o : Option TenancyState). IfSome o (λ own. finite.get (versions_of own).snapshots n ≡ Some number)) (sym at) (ap (λ (v : VersionsState). finite.get v.snapshots n) (same_versions x.versions x.account) ∙ is);
    rows = ap (snapshot_rows (store_of core t)) (named id n e) ∙ shown n ∙ ap (option_map (rows_at (tree_messages core.tree) t)) is;
  }
