-- What each change makes of its tenant's store, part and account.
use Rattle.std.proofs.Common.{◌≡◌, ◌≢◌, ℕ, suc, ◌+◌, ◌-◌, ◌≤◌, List, length, map, set, cond, eqb, Bool, true, false, Option, Some, None, inl, inr, refl, ap, sym, ◌∙◌, subst, arith, ⊎_elim}
use Rattle.std.specs.Prelude.{Contains}
use Rattle.std.specs.FinMap.{FinMap}
use Rattle.std.specs.FinMap as finite
use Rattle.std.specs.Ordering.{nat_cmp, eq_by_cmp}
use Rattle.std.proofs.lemmas.Bool.{cases_eq, cond-true, cond-false, eq-eqb, ne_eqb}
use Rattle.stow_core.specs.Keys.{AreKeysOf}
use Rattle.stow_core.specs.Prepared.{after_given, after_refusal, after_take, after_drop}
use Rattle.stow_core.specs.State.{CoreState, shared_of, store_of, IsCore}
use Rattle.stow_core.specs.Tenancies.{tenancy_with, own_state, tenancy_at, is_among, counted_account, refused_account, charged_account}
use Rattle.stow_core.specs.Writes.{rows_given, writes_of}
use Rattle.stow_core.proofs.Written.{given_are_written, write_agrees}
use Rattle.stow_core.proofs.Moved.{with_own, leads_exactly, leads_agreed}
use Rattle.stow_core.proofs.Stores.{stored}
use Rattle.stow_core.proofs.Tenancies.{own_with, own_of_parts, set_own, set_other}
use Rattle.stow_ledger.specs.Accounts.{AccountState, IsAccountOf}
use Rattle.stow_ledger.specs.Shown.{charge_of}
use Rattle.stow_ledger.specs.Kept.{with_snapshot}
use Rattle.stow_ledger.specs.declared.charge.Charge.{Charge}
use Rattle.stow_ledger.proofs.KeptLemmas.{take_is_free_law}
use Rattle.stow_dropping.specs.StowMerge.declared.pins.Pins.{Pins}
use Rattle.stow_dropping.specs.StowMerge.Pins as held
use Rattle.stow_model.specs.Store.{Store, Rows, charge, counted, one_more}
use Rattle.stow_ledger.specs.StowState.Changes.{AreWritten, changes}
use Rattle.stow_ledger.specs.StowState.Rows.{IsIndex}
use Rattle.stow_ledger.specs.StowState.State.{TenantState, IdsBelow, store_in, pins_in, lasts_in}
use Rattle.stow_ledger.specs.StowState.Steps.{LeadsTo, WritesOnce, WritesRows, SnapshotMoves, numbers_of, moved_tenant}
use Rattle.stow_ledger.proofs.StowState.Changes.{writes_by_messages_law}
use Rattle.stow_ledger.proofs.StowState.Snapshots.{copies_below, id_cases, numbers_stay, numbers_move_law}
use Rattle.std.specs.Cmp.{nat_cmp_total}
use Rattle.stow_dropping.specs.StowTree.TreeState.{TreeState, tree_messages, HasBound}
use Rattle.stow_tree_model.specs.Agreement.{Agree, with_bound}
use Rattle.stow_tree_model.specs.Keys.{own_key}
use Rattle.stow_tree_model.specs.Messages.{Messages, with_all}
use Rattle.stow_tree_model.specs.Op.{Op}
use Rattle.stow_dropping.specs.StowTree.Putting.{AreApart}
use Rattle.stow_versions.specs.VersionsState.{VersionsState}

-- ---- ids

pub id_is : (a b : ℕ) → eq_by_cmp nat_cmp a b ≡ true → a ≡ b
id_is a b e = ⊎_elim (λ (h : (a ≡ b) × (eq_by_cmp nat_cmp a b ≡ true)). h.0) (λ (h : eq_by_cmp nat_cmp a b ≡ false). absurd (apart (sym h ∙ e))) (id_cases a b) where
  apart : false ≡ true → ⊥
  apart f = cc

id_differs : (a b : ℕ) → a ≢ b → eq_by_cmp nat_cmp a b ≡ false
id_differs a b ne = ⊎_elim (λ (h : (a ≡ b) × (eq_by_cmp nat_cmp a b ≡ true)). absurd (ne h.0)) (λ (h : eq_by_cmp nat_cmp a b ≡ false). h) (id_cases a b)

-- ---- accounts

-- what shows the same is charged the same
pub same_charge : (s s' : Store) → s'.rows ≡ s.rows → s'.snapshots ≡ s.snapshots → charge s' ≡ charge s
unfolding charge
same_charge s s' rows snapshots = λ i. charge (record s' { rows = rows i; snapshots = snapshots i })

pub account_counted : (s : Store) (a a' : AccountState) → a' ≡ counted_account a → IsAccountOf s a → IsAccountOf (counted s) a'
account_counted s a a' is of = subst (IsAccountOf (counted s)) (sym is) (record {
  quota = of.quota;
  charged = of.charged ∙ sym (same_charge s (counted s) refl refl);
  rows = of.rows;
  commands = ap one_more of.commands;
  refusals = of.refusals;
})

pub account_refused : (s : Store) (a a' : AccountState) → a' ≡ refused_account a → IsAccountOf s a → IsAccountOf (after_refusal s) a'
account_refused s a a' is of = subst (IsAccountOf (after_refusal s)) (sym is) (record {
  quota = of.quota;
  charged = of.charged ∙ sym (same_charge s (after_refusal s) refl refl);
  rows = of.rows;
  commands = ap one_more of.commands;
  refusals = ap one_more of.refusals;
})

-- the counts are those of the store before, with one request more
abbrev CountsOnce : Store → Store → Type 0
CountsOnce s s' = (s'.quota ≡ s.quota) × (s'.commands ≡ one_more s.commands) × (s'.refusals ≡ s.refusals)

pub account_charged : (s s' : Store) (a a' : AccountState) (c : Charge) → a' ≡ charged_account c a → c ≡ charge_of s' → CountsOnce s s' → IsAccountOf s a → IsAccountOf s' a'
account_charged s s' a a' c is charged counts of = subst (IsAccountOf s') (sym is) (record {
  quota = of.quota ∙ sym counts.0;
  charged = ap (λ (x : Charge). x.charge) charged;
  rows = ap (λ (x : Charge). x.rows) charged;
  commands = ap one_more of.commands ∙ sym counts.1;
  refusals = of.refusals ∙ sym counts.2;
})

pub account_given : (s : Store) (a a' : AccountState) (quota : ℕ) → a' ≡ record a { quota = quota } → IsAccountOf s a → IsAccountOf (record s { quota = quota }) a'
account_given s a a' quota is of = subst (IsAccountOf (record s { quota = quota })) (sym is) (record {
  quota = refl;
  charged = of.charged ∙ sym (same_charge s (record s { quota = quota }) refl refl);
  rows = of.rows;
  commands = of.commands;
  refusals = of.refusals;
})

pub account_taken : (s : Store) (a a' : AccountState) → a' ≡ counted_account a → finite.get s.snapshots s.next ≡ None → IsAccountOf s a → IsAccountOf (after_take s) a'
account_taken s a a' is new of =
    let free : charge_of (with_snapshot s s.next) ≡ charge_of s = take_is_free_law s s.next new in
    subst (IsAccountOf (after_take s)) (sym is) (record {
      quota = of.quota;
      charged = of.charged ∙ sym (same_charge (with_snapshot s s.next) (after_take s) refl refl ∙ ap (λ (x : Charge). x.charge) free);
      rows = of.rows;
      commands = ap one_more of.commands;
      refusals = of.refusals;
    })

-- ---- a tenant's part

module _ {A : Type 0} (core : CoreState) (pins : Pins A) (is_core : IsCore core pins) (t : ℕ) (v v' : VersionsState) (a a' : AccountState) (low : 1 ≤ t) (high : t ≤ length core.tenancies) (at : tenancy_at t core.tenancies ≡ Some (tenancy_with v a)) (pin_room' : ℕ) (tree' : TreeState) where
  abbrev m : Messages
  m = tree_messages core.tree

  abbrev parts : TenantState
  parts = own_with v a

  -- the store by its parts
  abbrev before : Store
  before = store_in m t parts

  pub before_is : store_of core t ≡ before
  before_is = stored core t (tenancy_with v a) at ∙ ap (store_in m t) (own_of_parts v a)

  abbrev after : CoreState
  after = with_own core pins is_core t (tenancy_with v a) (tenancy_with v' a') low high at pin_room' tree'

  ids_below : IdsBelow v.next v.snapshots
  unfolding shared_of
  ids_below = subst (λ (o : TenantState). IdsBelow o.next o.snapshots) (ap own_state at ∙ own_of_parts v a) (is_core.sound.ids_below t)

  store_ids_below : IdsBelow before.next before.snapshots
  store_ids_below = copies_below m t v.next v.snapshots ids_below

  pub next_is_free : finite.get (store_of core t).snapshots (store_of core t).next ≡ None
  next_is_free = subst (λ (s : Store). finite.get s.snapshots s.next ≡ None) (sym before_is) (store_ids_below v.next (omega arith))

  pins_below : (p : ℕ) → Contains (finite.values v.snapshots) p → p ≤ v.last
  unfolding shared_of
  pins_below = subst (λ (o : TenantState). (p : ℕ) → Contains (finite.values o.snapshots) p → p ≤ o.last) (ap own_state at ∙ own_of_parts v a) (is_core.sound.pins_below t)

  index : IsIndex t
  index = let few = is_core.few in omega (arith, few, high)

  -- the part of a store that has the same snapshots
  moved_same : (s : Store) → s.snapshots ≡ before.snapshots → moved_tenant parts s ≡ record { last = s.last; snapshots = v.snapshots; next = s.next; quota = s.quota; commands = s.commands; refusals = s.refusals }
  moved_same s same = λ i. record {
    last = s.last;
    snapshots = (ap (λ (c : FinMap nat_cmp Rows). numbers_of parts (finite.keys c)) same ∙ numbers_stay m t parts) i;
    next = s.next;
    quota = s.quota;
    commands = s.commands;
    refusals = s.refusals;
  }

  -- a function of the store, by its parts
  by_parts : (f : Store → Store) → own_with v' a' ≡ moved_tenant parts (f before) → own_state (Some (tenancy_with v' a')) ≡ moved_tenant (own_state (Some (tenancy_with v a))) (f (store_of core t))
  by_parts f is = own_of_parts v' a' ∙ is ∙ (λ i. moved_tenant (sym (own_of_parts v a) i) (f (sym before_is i)))

  -- no message is put
  unwritten : (f : Store → Store) → WritesOnce before (f before) → own_with v' a' ≡ moved_tenant parts (f before) → (f before).rows ≡ before.rows → tree' ≡ core.tree → LeadsTo (shared_of core) t (f (store_of core t)) (shared_of after)
  unwritten f once is rows same = leads_exactly core pins is_core t (tenancy_with v a) (tenancy_with v' a') low high at pin_room' tree' (f (store_of core t))
      (subst (λ s. WritesOnce s (f s)) (sym before_is) once)
      (by_parts f is)
      (ap tree_messages same
      ∙ ap (with_all m) (sym (writes_by_messages_law.of_none t (suc v.last) before.rows))
      ∙ (λ i. with_all m (changes t (suc v.last) before.rows (sym rows i)))
      ∙ (λ i. with_all m (changes t (suc v.last) (sym before_is i).rows (f (sym before_is i)).rows)))

  same_once : (s : Store) → s.last ≡ before.last → s.rows ≡ before.rows → s.snapshots ≡ before.snapshots → s.next ≡ before.next → WritesOnce before s
  same_once s last rows snapshots next = record {
    rows_move = inl (last, rows);
    snapshots_move = inl snapshots;
    ids_below = (λ id l. ap (λ (c : FinMap nat_cmp Rows). finite.get c id) snapshots ∙ store_ids_below id (let n = next in omega (arith, n, l)));
  }

  pub leads_counted : v' ≡ v → a' ≡ counted_account a → tree' ≡ core.tree → LeadsTo (shared_of core) t (counted (store_of core t)) (shared_of after)
  leads_counted versions account same = unwritten counted (same_once (counted before) refl refl refl refl) ((λ i. own_with (versions i) (account i)) ∙ sym (moved_same (counted before) refl)) refl same

  pub leads_refused : v' ≡ v → a' ≡ refused_account a → tree' ≡ core.tree → LeadsTo (shared_of core) t (after_refusal (store_of core t)) (shared_of after)
  leads_refused versions account same = unwritten after_refusal (same_once (after_refusal before) refl refl refl refl) ((λ i. own_with (versions i) (account i)) ∙ sym (moved_same (after_refusal before) refl)) refl same

  pub leads_given : (quota : ℕ) → v' ≡ v → a' ≡ record a { quota = quota } → tree' ≡ core.tree → LeadsTo (shared_of core) t (record (store_of core t) { quota = quota }) (shared_of after)
  leads_given quota versions account same = unwritten (λ s. record s { quota = quota }) (same_once (record before { quota = quota }) refl refl refl refl) ((λ i. own_with (versions i) (account i)) ∙ sym (moved_same (record before { quota = quota }) refl)) refl same

  -- ---- snapshots

  taken_moves : (id : ℕ) → SnapshotMoves before.rows (finite.get before.snapshots id) (finite.get (after_take before).snapshots id)
  taken_moves id = one (eq_by_cmp nat_cmp id before.next) refl where
    seen : finite.get (after_take before).snapshots id ≡ cond (eq_by_cmp nat_cmp id before.next) (Some before.rows) (finite.get before.snapshots id)
    seen = finite.get-insert nat_cmp_total before.snapshots before.next before.rows id

    one : (b : Bool) → eq_by_cmp nat_cmp id before.next ≡ b → SnapshotMoves before.rows (finite.get before.snapshots id) (finite.get (after_take before).snapshots id)
    one true e = inr (inr (
      store_ids_below id (let same = id_is id before.next e in omega (arith, same)),
      seen ∙ ap (λ b. cond b (Some before.rows) (finite.get before.snapshots id)) e,
    ))
    one false e = inr (inl (seen ∙ ap (λ b. cond b (Some before.rows) (finite.get before.snapshots id)) e))

  pub leads_taken : v' ≡ record v { snapshots = finite.insert v.snapshots v.next v.last; next = v.next + 1; room = v'.room } → a' ≡ counted_account a → tree' ≡ core.tree → LeadsTo (shared_of core) t (after_take (store_of core t)) (shared_of after)
  leads_taken versions account same = unwritten after_take
      (record {
        rows_move = inl (refl, refl);
        snapshots_move = inr (record { rows = (refl, refl); each = taken_moves });
        ids_below = λ id l.
            finite.get-insert nat_cmp_total before.snapshots before.next before.rows id
            ∙ cond-false (eq_by_cmp nat_cmp id before.next) _ _ (id_differs id before.next (λ e. omega (arith, e, l)))
            ∙ store_ids_below id (omega (arith, l));
      })
      ((λ i. own_with (versions i) (account i))
      ∙ (λ i. record {
        last = v.last;
        snapshots = sym (numbers_move_law.of_take m t parts before.rows ids_below) i;
        next = v.next + 1;
        quota = a.quota;
        commands = one_more a.commands;
        refusals = a.refusals;
      }))
      refl same

  dropped_moves : (drop id : ℕ) → SnapshotMoves before.rows (finite.get before.snapshots id) (finite.get (finite.remove before.snapshots drop) id)
  dropped_moves drop id = one (eq_by_cmp nat_cmp id drop) refl where
    seen : finite.get (finite.remove before.snapshots drop) id ≡ cond (eq_by_cmp nat_cmp id drop) None (finite.get before.snapshots id)
    seen = finite.get-remove nat_cmp_total before.snapshots drop id

    one : (b : Bool) → eq_by_cmp nat_cmp id drop ≡ b → SnapshotMoves before.rows (finite.get before.snapshots id) (finite.get (finite.remove before.snapshots drop) id)
    one true e = inl (seen ∙ ap (λ b. cond b None (finite.get before.snapshots id)) e)
    one false e = inr (inl (seen ∙ ap (λ b. cond b None (finite.get before.snapshots id)) e))

  pub leads_dropped : (drop : ℕ) (c : Charge) → v' ≡ record v { snapshots = finite.remove v.snapshots drop; room = v'.room } → a' ≡ charged_account c a → tree' ≡ core.tree → LeadsTo (shared_of core) t (after_drop drop (store_of core t)) (shared_of after)
  leads_dropped drop c versions account same = unwritten (after_drop drop)
      (record {
        rows_move = inl (refl, refl);
        snapshots_move = inr (record { rows = (refl, refl); each = dropped_moves drop });
        ids_below = λ id l.
            finite.get-remove nat_cmp_total before.snapshots drop id
            ∙ gone (eq_by_cmp nat_cmp id drop) (finite.get before.snapshots id) (store_ids_below id l);
      })
      ((λ i. own_with (versions i) (account i))
      ∙ (λ i. record {
        last = v.last;
        snapshots = sym (numbers_move_law.of_drop m t drop parts) i;
        next = v.next;
        quota = a.quota;
        commands = one_more a.commands;
        refusals = a.refusals;
      }))
      refl same
    where
      gone : (b : Bool) (o : Option Rows) → o ≡ None → cond b None o ≡ None
      gone true o e = refl
      gone false o e = e

  -- ---- writes

  next_is : suc v.last ≡ v.last + 1
  next_is = omega arith

  written : (s : Store) → s.last ≡ before.last + 1 → WritesRows before s → s.snapshots ≡ before.snapshots → s.next ≡ before.next → WritesOnce before s
  written s last rows snapshots next = record {
    rows_move = inr rows;
    snapshots_move = inl snapshots;
    ids_below = (λ id l. ap (λ (c : FinMap nat_cmp Rows). finite.get c id) snapshots ∙ store_ids_below id (let n = next in omega (arith, n, l)));
  }

  last_is : lasts_in (shared_of core) t ≡ v.last
  unfolding shared_of
  last_is = ap (λ o. (own_state o).last) at

  shared_below : HasBound m (lasts_in (shared_of core))
  unfolding shared_of
  shared_below = is_core.sound.messages_below

  -- the bounds after the tenant's write
  lasts_after : v'.last ≡ v.last + 1 → (u : ℕ) → with_bound (lasts_in (shared_of core)) t (v.last + 1) u ≡ lasts_in (shared_of after) u
  unfolding shared_of
  lasts_after last u = ⊎_elim
      (λ (e : u ≡ t). cond-true (eqb u t) _ _ (eq-eqb u t e) ∙ sym last
      ∙ sym (ap (λ x. (own_state (tenancy_at x (set core.tenancies (t - 1) (tenancy_with v' a')))).last) e ∙ ap (λ o. (own_state o).last) (set_own t core.tenancies (tenancy_with v' a') low high)))
      (λ (ne : u ≢ t). cond-false (eqb u t) _ _ (ne_eqb u t ne) ∙ sym (ap (λ o. (own_state o).last) (set_other t u core.tenancies (tenancy_with v' a') low ne)))
      (cases_eq u t)

  -- the pins where the snapshots stay
  pub pins_after : v'.snapshots ≡ v.snapshots → (u : ℕ) → pins_in (shared_of core) u ≡ pins_in (shared_of after) u
  unfolding shared_of
  pins_after same u = ⊎_elim
      (λ (e : u ≡ t). ap (λ x. finite.values (own_state (tenancy_at x core.tenancies)).snapshots) e ∙ ap (λ o. finite.values (own_state o).snapshots) at ∙ ap (λ (o : TenantState). finite.values o.snapshots) (own_of_parts v a)
      ∙ ap finite.values (sym same)
      ∙ sym (ap (λ x. finite.values (own_state (tenancy_at x (set core.tenancies (t - 1) (tenancy_with v' a')))).snapshots) e ∙ ap (λ o. finite.values (own_state o).snapshots) (set_own t core.tenancies (tenancy_with v' a') low high) ∙ ap (λ (o : TenantState). finite.values o.snapshots) (own_of_parts v' a')))
      (λ (ne : u ≢ t). sym (ap (λ o. finite.values (own_state o).snapshots) (set_other t u core.tenancies (tenancy_with v' a') low ne)))
      (cases_eq u t)

  pub held_same : v'.snapshots ≡ v.snapshots → (u n : ℕ) → is_among n (held.pins_in pins u) ≡ is_among n (pins_in (shared_of after) u)
  held_same same u n = is_core.pins_are u n ∙ ap (is_among n) (pins_after same u)

  -- the pins of the tenant, and of the others, where its snapshots are others
  pub pins_own : pins_in (shared_of after) t ≡ finite.values v'.snapshots
  unfolding shared_of
  pins_own = ap (λ o. finite.values (own_state o).snapshots) (set_own t core.tenancies (tenancy_with v' a') low high) ∙ ap (λ (o : TenantState). finite.values o.snapshots) (own_of_parts v' a')

  pub pins_before : pins_in (shared_of core) t ≡ finite.values v.snapshots
  unfolding shared_of
  pins_before = ap (λ o. finite.values (own_state o).snapshots) at ∙ ap (λ (o : TenantState). finite.values o.snapshots) (own_of_parts v a)

  pub pins_other : (u : ℕ) → u ≢ t → pins_in (shared_of core) u ≡ pins_in (shared_of after) u
  unfolding shared_of
  pins_other u ne = sym (ap (λ o. finite.values (own_state o).snapshots) (set_other t u core.tenancies (tenancy_with v' a') low ne))

  -- rows are written, or go
  pub leads_written : (keys : List (List ℕ)) (op : Op) (ch : Charge) → v' ≡ record v { last = v.last + 1 } → a' ≡ charged_account ch a → AreKeysOf t keys → AreApart (writes_of (v.last + 1) op keys)
      → tree_messages tree' ≡ with_all m (writes_of (v.last + 1) op keys) → LeadsTo (shared_of core) t (after_given keys op (store_of core t)) (shared_of after)
  leads_written keys op ch versions account own apart puts = leads_agreed core pins is_core t (tenancy_with v a) (tenancy_with v' a') low high at pin_room' tree' (after_given keys op (store_of core t))
      (subst (λ s. WritesOnce s (after_given keys op s)) (sym before_is)
      (written (after_given keys op before) refl
      (sym next_is, subst (λ n. AreWritten n before.rows (rows_given (v.last + 1) op (map own_key keys) before.rows)) (sym next_is) (given_are_written (v.last + 1) op (map own_key keys) before.rows))
      refl refl))
      (by_parts (after_given keys op) ((λ i. own_with (versions i) (account i)) ∙ sym (moved_same (after_given keys op before) refl)))
      (subst (λ s. Agree (with_all m (changes t (suc v.last) s.rows (after_given keys op s).rows)) (tree_messages tree') (pins_in (shared_of after)) (lasts_in (shared_of after))) (sym before_is)
      (subst (λ (x : Messages). Agree (with_all m (changes t (suc v.last) before.rows (rows_at_number (v.last + 1)))) x (pins_in (shared_of after)) (lasts_in (shared_of after))) (sym puts)
      (subst (λ (ps : ℕ → List ℕ). Agree (with_all m (changes t (suc v.last) before.rows (rows_at_number (v.last + 1)))) (with_all m (writes_of (v.last + 1) op keys)) ps (lasts_in (shared_of after))) (λ i u. pins_after (ap (λ (w : VersionsState). w.snapshots) versions) u i)
      (subst (λ (b : ℕ → ℕ). Agree (with_all m (changes t (suc v.last) before.rows (rows_at_number (v.last + 1)))) (with_all m (writes_of (v.last + 1) op keys)) (pins_in (shared_of core)) b) (λ i u. lasts_after (ap (λ (w : VersionsState). w.last) versions) u i)
      (subst (λ n. Agree (with_all m (changes t (suc v.last) before.rows (rows_at_number n))) (with_all m (writes_of n op keys)) (pins_in (shared_of core)) (with_bound (lasts_in (shared_of core)) t n)) next_is
      (write_agrees m (pins_in (shared_of core)) (lasts_in (shared_of core)) t v.last op keys index last_is shared_below is_core.sound.pins_below own (subst (λ n. AreApart (writes_of n op keys)) (sym next_is) apart)))))))
    where
      rows_at_number : ℕ → Rows
      rows_at_number n = rows_given n op (map own_key keys) before.rows
