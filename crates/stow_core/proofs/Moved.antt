-- The core as one tenant's store becomes another.
use Rattle.std.proofs.Common.{◌≡◌, ◌≢◌, ℕ, suc, ◌-◌, ◌<◌, ◌≤◌, length, set, Option, Some, refl, ap, sym, ◌∙◌, subst, arith, ⊎_elim}
use Rattle.std.specs.Prelude.{IfSome}
use Rattle.std.specs.FinMap as finite
use Rattle.std.proofs.lemmas.Bool.{cases_eq}
use Rattle.std.proofs.lemmas.List.{length-set}
use Rattle.stow_core.specs.State.{CoreState, shared_of, store_of, IsCore, Moves}
use Rattle.stow_core.specs.Tenancies.{TenancyState, own_state, tenancy_at, is_among}
use Rattle.stow_core.proofs.Stores.{store_view, same_store}
use Rattle.stow_core.proofs.Tenancies.{set_own, set_other, tenants_set}
use Rattle.stow_ledger.specs.Accounts.{IsAccountOf}
use Rattle.stow_dropping.specs.StowMerge.declared.pins.Pins.{Pins}
use Rattle.stow_dropping.specs.StowMerge.Pins.{room_in}
use Rattle.stow_dropping.specs.StowMerge.Pins as held
use Rattle.stow_model.specs.Store.{Store}
use Rattle.stow_model.specs.Store.{step as own_step}
use Rattle.stow_ledger.specs.StowState.Changes.{changes}
use Rattle.stow_ledger.specs.StowState.Rows.{IsIndex}
use Rattle.stow_ledger.specs.StowState.State.{TenantState, view, pins_in, lasts_in}
use Rattle.stow_ledger.specs.StowState.Steps.{LeadsTo, LeadsAlone, WritesOnce, after_call, moved_tenant, with_tenant}
use Rattle.stow_ledger.proofs.StowState.Steps.{stores_lead_law}
use Rattle.stow_dropping.specs.StowTree.Shapes.{AreInRange}
use Rattle.stow_dropping.specs.StowTree.TreeState.{TreeState, tree_messages}
use Rattle.stow_tree_model.specs.Agreement.{Agree}
use Rattle.stow_tree_model.specs.Messages.{Messages, with_all}

module _ {A : Type 0} (core : CoreState) (pins : Pins A) (is_core : IsCore core pins) (t : ℕ) (own own' : TenancyState) (low : 1 ≤ t) (high : t ≤ length core.tenancies) (at : tenancy_at t core.tenancies ≡ Some own) (pin_room' : ℕ) (tree' : TreeState) where
  abbrev pub with_own : CoreState
  with_own = record core { tenancies = set core.tenancies (t - 1) own'; pin_room = pin_room'; tree = tree' }

  pub index : IsIndex t
  index = let few = is_core.few in omega (arith, few, high)

  same_view : store_of core t ≡ view (shared_of core) t
  same_view = store_view core t own at

  -- what the tenants have
  pub owns : (store : Store) → own_state (Some own') ≡ moved_tenant (own_state (Some own)) store → (shared_of with_own).tenants ≡ (after_call (shared_of core) t store).tenants
  unfolding shared_of
  owns store is =
      (λ i u. tenants_set core.tenancies t own' (moved_tenant (own_state (Some own)) store) low high is u i)
      ∙ ap (λ o. with_tenant (λ v. own_state (tenancy_at v core.tenancies)) t (moved_tenant (own_state o) store)) (sym at)

  -- just the messages were put that the new store asks for
  pub leads_exactly : (store : Store) → WritesOnce (store_of core t) store → own_state (Some own') ≡ moved_tenant (own_state (Some own)) store
      → tree_messages tree' ≡ with_all (tree_messages core.tree) (changes t (suc own.last) (store_of core t).rows store.rows) → LeadsTo (shared_of core) t store (shared_of with_own)
  unfolding shared_of
  leads_exactly store once is puts = stores_lead_law.exactly (shared_of core) (shared_of with_own) t store is_core.sound index
      (subst (λ s. WritesOnce s store) same_view once) (owns store is)
      (puts ∙ (λ i. with_all (tree_messages core.tree) (changes t (suc (own_state (sym at i)).last) (same_view i).rows store.rows)))

  -- sets that agree with these messages
  pub leads_agreed : (store : Store) → WritesOnce (store_of core t) store → own_state (Some own') ≡ moved_tenant (own_state (Some own)) store
      → Agree (with_all (tree_messages core.tree) (changes t (suc own.last) (store_of core t).rows store.rows)) (tree_messages tree') (pins_in (shared_of with_own)) (lasts_in (shared_of with_own))
      → LeadsTo (shared_of core) t store (shared_of with_own)
  unfolding shared_of
  leads_agreed store once is agree =
      let tenants : (shared_of with_own).tenants ≡ (after_call (shared_of core) t store).tenants = owns store is in
      let messages : with_all (tree_messages core.tree) (changes t (suc own.last) (store_of core t).rows store.rows) ≡ (after_call (shared_of core) t store).messages =
      λ i. with_all (tree_messages core.tree) (changes t (suc (own_state (sym at i)).last) (same_view i).rows store.rows) in
      record {
        has_index = index;
        writes_once = subst (λ s. WritesOnce s store) same_view once;
        tenants_are = tenants;
        messages_agree =
            subst (λ (ts : ℕ → TenantState). Agree (after_call (shared_of core) t store).messages (tree_messages tree') (λ u. finite.values (ts u).snapshots) (λ u. (ts u).last)) tenants
            (subst (λ (m : Messages). Agree m (tree_messages tree') (pins_in (shared_of with_own)) (lasts_in (shared_of with_own))) messages agree);
      }

  alone : (store : Store) → LeadsTo (shared_of core) t store (shared_of with_own) → LeadsAlone (shared_of core) t store (shared_of with_own)
  alone store leads = stores_lead_law.alone (shared_of core) (shared_of with_own) t store is_core.sound leads

  own_store : (store : Store) → LeadsTo (shared_of core) t store (shared_of with_own) → store_of with_own t ≡ store
  own_store store leads = store_view with_own t own' (set_own t core.tenancies own' low high) ∙ (alone store leads).own

  others_stay : (store : Store) → LeadsTo (shared_of core) t store (shared_of with_own) → (u : ℕ) → u ≢ t → store_of with_own u ≡ store_of core u
  others_stay store leads u ne = same_store core with_own u (set_other t u core.tenancies own' low ne) (λ i. (alone store leads).others u i ne) is_core.few

  -- the store became this one, and nothing else moved
  pub moves : (store : Store) → LeadsTo (shared_of core) t store (shared_of with_own) → Moves core t store with_own
  moves store leads = record {
    own = own_store store leads;
    others = others_stay store leads;
    entries = refl;
    step = λ event told is. (alone store leads).step event told (ap (λ (s : Store). own_step s event) (sym same_view) ∙ is);
  }

  -- and the core's type keeps what it does
  pub core_moved : (store : Store) (pins' : Pins A) → LeadsTo (shared_of core) t store (shared_of with_own) → IsAccountOf store own'.account → ((u n : ℕ) → is_among n (held.pins_in pins' u) ≡ is_among n (pins_in (shared_of with_own) u))
      → (pin_room' ≢ 0 → 0 < room_in pins' pin_room') → tree'.root.shape ≡ core.tree.root.shape → IsCore with_own pins'
  core_moved store pins' leads account pins_are room shape = record {
    each = length-set core.tenancies (t - 1) own' ∙ is_core.each;
    few = subst (λ n. n < 65536) (sym (length-set core.tenancies (t - 1) own')) is_core.few;
    sound = (alone store leads).sound;
    accounts = λ u. ⊎_elim
        (λ (e : u ≡ t). subst (λ v. IfSome (tenancy_at v (set core.tenancies (t - 1) own')) (λ o. IsAccountOf (store_of with_own v) o.account)) (sym e)
        (subst (λ (o : Option TenancyState). IfSome o (λ x. IsAccountOf (store_of with_own t) x.account)) (sym (set_own t core.tenancies own' low high))
        (subst (λ s. IsAccountOf s own'.account) (sym (own_store store leads)) account)))
        (λ (ne : u ≢ t). subst (λ (o : Option TenancyState). IfSome o (λ x. IsAccountOf (store_of with_own u) x.account)) (sym (set_other t u core.tenancies own' low ne))
        (subst (λ s. IfSome (tenancy_at u core.tenancies) (λ x. IsAccountOf s x.account)) (sym (others_stay store leads u ne)) (is_core.accounts u)))
        (cases_eq u t);
    pins_are = pins_are;
    pin_room = room;
    sizes = subst AreInRange (sym shape) is_core.sizes;
  }
