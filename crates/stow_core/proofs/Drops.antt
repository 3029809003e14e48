-- What a drop leaves charged, by the core's state.
use Rattle.std.proofs.Common.{◌≡◌, ◌≢◌, ℕ, zero, suc, ◌<◌, ◌≤◌, Bool, true, false, cond, nat_le, List, [], ◌∷◌, length, map, get_or, Option, Some, None, refl, ap, sym, ◌∙◌, subst, arith}
use Rattle.std.proofs.Math.Bool.{◌||◌}
use Rattle.std.proofs.lemmas.Bool.{le-leb}
use Rattle.std.proofs.lemmas.List.{length-map}
use Rattle.std.specs.Prelude.{Contains, IfSome, IsSome, T, option_map}
use Rattle.std.specs.Cmp.{nat_cmp_total}
use Rattle.std.specs.FinMap.{FinMap, find, is_sorted, nat_cmp-IsAntisymmetric}
use Rattle.std.specs.FinMap as finite
use Rattle.std.specs.List.{AllByRecursion, zip}
use Rattle.std.specs.Ordering.{nat_cmp, eq_by_cmp}
use Rattle.stow_core.specs.Prepared.{IsCharged, after_drop}
use Rattle.stow_core.specs.State.{CoreState, shared_of, store_of}
use Rattle.stow_core.specs.Tenancies.{TenancyState, tenancy_of, tenancy_at, versions_of, own_state}
use Rattle.stow_core.specs.declared.tenancy.Tenancy.{Tenancy}
use Rattle.stow_core.proofs.Changed.{same_charge}
use Rattle.stow_core.proofs.Charges.{charged_in}
use Rattle.stow_core.proofs.Copies.{all_from, values_copies}
use Rattle.stow_core.proofs.Stores.{stored}
use Rattle.stow_core.proofs.Tenancies.{own_with, own_of_parts, same_versions}
use Rattle.stow_dropping.specs.Dropping.{IsChargeWithout}
use Rattle.stow_dropping.proofs.FreeDrops.{second_drop_is_free_law, present_drop_is_free_law}
use Rattle.stow_ledger.specs.Accounts.{AccountState, IsAccountOf, IsGivenBy, present_charge}
use Rattle.stow_ledger.specs.Histories.{ShowsHistory}
use Rattle.stow_ledger.specs.Shown.{charge_of, without_snapshot}
use Rattle.stow_ledger.specs.declared.charge.Charge.{Charge}
use Rattle.stow_ledger.proofs.KeptLemmas.{present_is_charged_law}
use Rattle.stow_model.specs.Store.{Store, Rows}
use Rattle.stow_ledger.specs.StowState.Rows.{IsIndex, rows_at}
use Rattle.stow_ledger.specs.StowState.State.{TenantState, IsSound, copies, store_in}
use Rattle.stow_ledger.proofs.StowState.Snapshots.{found_value, get-copies_of}
use Rattle.stow_dropping.specs.StowTree.TreeState.{tree_messages}
use Rattle.stow_tree_model.specs.Keys.{packed}
use Rattle.stow_tree_model.specs.Messages.{Messages, ops_of}
use Rattle.stow_tree_model.specs.Operations.{NoneAbove}
use Rattle.stow_tree_model.proofs.Packed.{tenant_of-packed}
use Rattle.stow_versions.specs.VersionsState.{VersionsState}
use Rattle.stow_versions.proofs.SnapshotLemmas.{find_here, same_is}

-- ---- ids and numbers

zipped : (es : List (ℕ × ℕ)) → zip (map (λ (e : ℕ × ℕ). e.0) es) (map (λ (e : ℕ × ℕ). e.1) es) ≡ es
zipped [] = refl
zipped (e ∷ es) = ap (λ l. (e.0, e.1) ∷ l) (zipped es)

t_true : (b : Bool) → T b → b ≡ true
t_true true h = refl
t_true false h = absurd h

at_default : (xs : List ℕ) (k d e : ℕ) → k < length xs → get_or xs k d ≡ get_or xs k e
at_default [] k d e l = absurd (omega (arith, l))
at_default (x ∷ xs) zero d e l = refl
at_default (x ∷ xs) (suc k) d e l = at_default xs k d e (omega (arith, l))

-- a number of the map is that of some id
pub value_found : (m : FinMap nat_cmp ℕ) (n : ℕ) → Contains (finite.values m) n → (id : ℕ) × (finite.get m id ≡ Some n)
value_found m n (k, l, e) = (
  get_or (finite.keys m) k 0,
  finite.get-entries m (get_or (finite.keys m) k 0)
      ∙ ap (find nat_cmp (get_or (finite.keys m) k 0)) (sym (zipped (finite.entries m)))
      ∙ find_here (finite.keys m) (finite.values m) (get_or (finite.keys m) k 0) k same (ap (is_sorted nat_cmp) (zipped (finite.entries m)) ∙ t_true (is_sorted nat_cmp (finite.entries m)) (finite.entries_sorted m)) (omega (arith, l, same)) refl
      ∙ ap Some (at_default (finite.values m) k 0 n l ∙ e),
)
  where
    same : length (finite.values m) ≡ length (finite.keys m)
    same = length-map (finite.entries m) (λ (e : ℕ × ℕ). e.1) ∙ sym (length-map (finite.entries m) (λ (e : ℕ × ℕ). e.0))

-- copies without one are those of the numbers without it
remove_copies : (m : Messages) (t id : ℕ) (s : FinMap nat_cmp ℕ) → finite.remove (copies m t (finite.entries s)) id ≡ copies m t (finite.entries (finite.remove s id))
remove_copies m t id s = finite.same_map nat_cmp_total nat_cmp-IsAntisymmetric _ _ (λ q.
    finite.get-remove nat_cmp_total (copies m t (finite.entries s)) id q
    ∙ ap (cond (eq_by_cmp nat_cmp q id) None) (get-copies_of m t s q)
    ∙ mapped (eq_by_cmp nat_cmp q id) (finite.get s q)
    ∙ ap (option_map (rows_at m t)) (sym (finite.get-remove nat_cmp_total s id q))
    ∙ sym (get-copies_of m t (finite.remove s id) q))
  where
    mapped : (b : Bool) (o : Option ℕ) → cond b None (option_map (rows_at m t) o) ≡ option_map (rows_at m t) (cond b None o)
    mapped true o = refl
    mapped false o = refl

module _ {A : Type 0} (core : CoreState) (t id number : ℕ) (x : Tenancy A) (at : tenancy_at t core.tenancies ≡ Some (tenancy_of x)) (sound : IsSound (shared_of core)) (account : IsAccountOf (store_of core t) x.account) (index : IsIndex t) (live : finite.get x.versions.snapshots id ≡ Some number) where
  abbrev v : VersionsState
  v = x.versions

  abbrev a : AccountState
  a = x.account

  abbrev m : Messages
  m = tree_messages core.tree

  abbrev store : Store
  store = store_of core t

  abbrev left : FinMap nat_cmp ℕ
  left = finite.remove v.snapshots id

  parts : store ≡ store_in m t (own_with v a)
  parts = stored core t (tenancy_of x) at ∙ ap (store_in m t) (own_of_parts v a)

  last_is : store.last ≡ v.last
  last_is = ap (λ (s : Store). s.last) parts

  snapshots_are : store.snapshots ≡ copies m t (finite.entries v.snapshots)
  snapshots_are = ap (λ (s : Store). s.snapshots) parts

  shown : (q n : ℕ) → finite.get v.snapshots q ≡ Some n → finite.get store.snapshots q ≡ Some (rows_at m t n)
  shown q n is = ap (λ (s : FinMap nat_cmp Rows). finite.get s q) snapshots_are ∙ get-copies_of m t v.snapshots q ∙ ap (option_map (rows_at m t)) is

  low : (p : ℕ) → Contains (finite.values v.snapshots) p → p ≤ v.last
  unfolding shared_of
  low = subst (λ (o : TenantState). (p : ℕ) → Contains (finite.values o.snapshots) p → p ≤ o.last) (ap own_state at ∙ own_of_parts v a) (sound.pins_below t)

  -- one that stays is another
  stays : (q n : ℕ) → finite.get left q ≡ Some n → (q ≢ id) × (finite.get v.snapshots q ≡ Some n)
  stays q n is = one (eq_by_cmp nat_cmp q id) refl where
    seen : cond (eq_by_cmp nat_cmp q id) None (finite.get v.snapshots q) ≡ Some n
    seen = sym (finite.get-remove nat_cmp_total v.snapshots id q) ∙ is

    apart : None ≡ Some n → ⊥
    apart e = cc

    one : (b : Bool) → eq_by_cmp nat_cmp q id ≡ b → (q ≢ id) × (finite.get v.snapshots q ≡ Some n)
    one true e = absurd (apart (ap (λ b. cond b None (finite.get v.snapshots q)) (sym e) ∙ seen))
    one false e = ((λ same. absurd (differ (sym e ∙ itself q id same))), ap (λ b. cond b None (finite.get v.snapshots q)) (sym e) ∙ seen) where
      differ : false ≡ true → ⊥
      differ f = cc

      itself : (y z : ℕ) → y ≡ z → eq_by_cmp nat_cmp y z ≡ true
      itself y z same = ap (eq_by_cmp nat_cmp y) (sym same) ∙ same_is y y refl

  within : (n : ℕ) → Contains (finite.values left) n → n ≤ v.last
  within n c = let found = value_found left n c in low n (found_value found.0 n (finite.entries v.snapshots) (sym (finite.get-entries v.snapshots found.0) ∙ (stays found.0 n found.1).1))

  shows_left : ShowsHistory (rows_at m t) (without_snapshot store id) (finite.values left)
  shows_left = record {
    rows = ap (λ (s : Store). s.rows) parts ∙ ap (rows_at m t) (sym last_is);
    copies = ap (λ (s : FinMap nat_cmp Rows). finite.values (finite.remove s id)) snapshots_are ∙ ap finite.values (remove_copies m t id v.snapshots) ∙ values_copies m t left;
    below = subst (λ n. AllByRecursion (λ number. number ≤ n) (finite.values left)) (sym last_is) (all_from (λ n. n ≤ v.last) (finite.values left) within);
  }

  none_above : (key : List ℕ) → NoneAbove store.last (ops_of m (packed t key))
  unfolding shared_of
  none_above key = subst (λ n. NoneAbove n (ops_of m (packed t key))) (ap (λ u. (own_state (tenancy_at u core.tenancies)).last) (tenant_of-packed t key index) ∙ ap (λ o. (own_state o).last) at ∙ sym last_is) (sound.messages_below (packed t key))

  same_after : charge_of (after_drop id store) ≡ charge_of (without_snapshot store id)
  same_after = λ i. record { charge = same_charge (without_snapshot store id) (after_drop id store) refl refl i; rows = finite.len store.rows }

  -- never above the charge before
  charged : (c : Charge) → c ≡ charge_of (without_snapshot store id) → IsGivenBy a c → c.charge ≤ a.charge → IsCharged core t c (after_drop id store)
  charged c is given lower = charged_in core t x at sound account (after_drop id store) c (is ∙ sym same_after) given (ap (λ b. nat_le c.charge a.quota || b) (le-leb c.charge a.charge lower) ∙ or_true (nat_le c.charge a.quota)) where
    or_true : (b : Bool) → (b || true) ≡ true
    or_true true = refl
    or_true false = refl

  pub walked : (c : Charge) (pins : List ℕ) → pins ≡ finite.values left → IsChargeWithout m t number a pins c → IsGivenBy a c → c.charge ≤ a.charge → IsCharged core t c (after_drop id store)
  walked c pins are without given lower = charged c
      (without store id (finite.values left) account none_above (shown id number live) (subst (λ n. number ≤ n) (sym last_is) (low number (found_value id number (finite.entries v.snapshots) (sym (finite.get-entries v.snapshots id) ∙ live)))) shows_left
      (λ n. (subst (λ ps. Contains ps n) are, subst (λ ps. Contains ps n) (sym are))))
      given lower

  free : (c : Charge) → c ≡ present_charge a → IsGivenBy a c → charge_of (without_snapshot store id) ≡ charge_of store → IsCharged core t c (after_drop id store)
  free c is given same = charged c (is ∙ present_is_charged_law store a account ∙ sym same) given (let e = ap (λ (p : Charge). p.charge) is in omega (arith, e))

  -- the present rows are the snapshot's
  pub present_free : (c : Charge) → c ≡ present_charge a → IsGivenBy a c → number ≡ v.last → IsCharged core t c (after_drop id store)
  present_free c is given same = free c is given (present_drop_is_free_law store id (shown id number live ∙ ap Some (ap (rows_at m t) same ∙ sym (ap (λ (s : Store). s.rows) parts))))

  -- another snapshot has the number
  pub second_free : (c : Charge) → c ≡ present_charge a → IsGivenBy a c → Contains (finite.values left) number → IsCharged core t c (after_drop id store)
  second_free c is given there =
      let found = value_found left number there in
      let other = stays found.0 number found.1 in
      free c is given (second_drop_is_free_law store id found.0 (rows_at m t number) other.0 (shown id number live) (shown found.0 number other.1))

-- the number that a tenant's snapshot has
pub number_at : {A : Type 0} (core : CoreState) (t id number : ℕ) (x : Tenancy A) → tenancy_at t core.tenancies ≡ Some (tenancy_of x) → IfSome (tenancy_at t core.tenancies) (λ own. finite.get (versions_of own).snapshots id ≡ Some number) → finite.get x.versions.snapshots id ≡ Some number
number_at core t id number x at is =
    ap (λ (v : VersionsState). finite.get v.snapshots id) (sym (same_versions x.versions x.account))
    ∙ subst (λ (o : Option TenancyState). IfSome o (λ own. finite.get (versions_of own).snapshots id ≡ Some number)) at is

pub some_at : {A : Type 0} (core : CoreState) (t id number : ℕ) (x : Tenancy A) → tenancy_at t core.tenancies ≡ Some (tenancy_of x) → IfSome (tenancy_at t core.tenancies) (λ own. finite.get (versions_of own).snapshots id ≡ Some number) → IsSome (finite.get x.versions.snapshots id)
some_at core t id number x at is = subst IsSome (sym (number_at core t id number x at is)) refl
