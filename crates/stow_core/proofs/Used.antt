-- What a tenant uses, by what the core has of it.
use Rattle.std.proofs.Common.{◌≡◌, ℕ, ◌*◌, ◌≤◌, Some, ap, sym, ◌∙◌, arith}
use Rattle.std.specs.FinMap as finite
use Rattle.stow_core.specs.State.{CoreState, store_of}
use Rattle.stow_core.specs.Tenancies.{tenancy_of, tenancy_at, counted_account}
use Rattle.stow_core.specs.declared.tenancy.Tenancy.{Tenancy}
use Rattle.stow_core.proofs.Changed.{account_counted}
use Rattle.stow_core.proofs.Copies.{keys_copies, len_copies}
use Rattle.stow_core.proofs.Stores.{stored}
use Rattle.stow_core.proofs.Tenancies.{own_with, own_of_parts}
use Rattle.stow_ledger.specs.Accounts.{AccountState, IsAccountOf, usage_of}
use Rattle.stow_ledger.proofs.HistoryLemmas.{rows_are_charged_law}
use Rattle.stow_ledger.proofs.KeptLemmas.{report_is_usage_law}
use Rattle.stow_model.specs.Store.{Store, counted, usage}
use Rattle.stow_ledger.specs.StowState.State.{store_in}
use Rattle.stow_dropping.specs.StowTree.TreeState.{tree_messages}

-- an account charges each row
pub rows_charged : (store : Store) (a : AccountState) → IsAccountOf store a → 16 * a.rows ≤ a.charge
rows_charged store a is =
    let charged = is.charged in
    let rows = is.rows in
    let enough = rows_are_charged_law store in
    omega (arith, charged, rows, enough)

module _ {A : Type 0} (core : CoreState) (t : ℕ) (x : Tenancy A) (at : tenancy_at t core.tenancies ≡ Some (tenancy_of x)) where
  parts : store_of core t ≡ store_in (tree_messages core.tree) t (own_with x.versions x.account)
  parts = stored core t (tenancy_of x) at ∙ ap (store_in (tree_messages core.tree) t) (own_of_parts x.versions x.account)

  last_same : x.versions.last ≡ (store_of core t).last
  last_same = ap (λ (s : Store). s.last) (sym parts)

  pub next_same : x.versions.next ≡ (store_of core t).next
  next_same = ap (λ (s : Store). s.next) (sym parts)

  pub live_same : finite.len x.versions.snapshots ≡ finite.len (store_of core t).snapshots
  live_same = sym (ap (λ (s : Store). finite.len s.snapshots) parts ∙ len_copies (tree_messages core.tree) t x.versions.snapshots)

  pub ids_same : finite.keys x.versions.snapshots ≡ finite.keys (store_of core t).snapshots
  ids_same = sym (ap (λ (s : Store). finite.keys s.snapshots) parts ∙ keys_copies (tree_messages core.tree) t x.versions.snapshots)

  pub reported : IsAccountOf (store_of core t) x.account → usage_of x.account x.versions ≡ usage (store_of core t)
  reported account = report_is_usage_law (store_of core t) x.account x.versions account last_same live_same

  -- once one more request was counted
  pub reported_counted : (a : AccountState) → a ≡ counted_account x.account → IsAccountOf (store_of core t) x.account → usage_of a x.versions ≡ usage (counted (store_of core t))
  reported_counted a is account = report_is_usage_law (counted (store_of core t)) a x.versions (account_counted (store_of core t) x.account a is account) last_same live_same
