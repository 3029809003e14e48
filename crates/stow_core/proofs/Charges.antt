-- What a tenant's next write is charged.
use Rattle.std.proofs.Common.{◌≡◌, ℕ, ◌+◌, ◌<◌, ◌≤◌, Bool, true, false, nat_lt, nat_le, length, List, [], ◌∷◌, ◌++◌, Option, Some, None, refl, ap, sym, ◌∙◌, subst, arith, ◌⊎◌, ⊎_elim}
use Rattle.std.proofs.Math.Bool.{◌&&◌, ◌||◌}
use Rattle.std.specs.Prelude.{Contains, IfSome, IsTrue, not, option_map}
use Rattle.std.specs.FinMap as finite
use Rattle.std.proofs.lemmas.Bool.{cases_lt, lt-ltb, le-ltb, le-leb, lt-leb}
use Rattle.std.specs.List.{AllByRecursion}
use Rattle.stow_core.proofs.Taking.{rows_without-push, without_or_same}
use Rattle.stow_ledger.specs.Charges.{is_pinned}
use Rattle.stow_bytes.specs.Limits.{number_limit}
use Rattle.stow_core.specs.Prepared.{IsPriced, IsChargeWithin, IsRowWithout, IsCharged, after_given, next_number, next_row, store_without}
use Rattle.stow_core.specs.State.{CoreState, row_at, shared_of, store_of}
use Rattle.stow_core.specs.Tenancies.{TenancyState, tenancy_of, tenancy_at, own_state}
use Rattle.stow_core.specs.declared.tenancy.Tenancy.{Tenancy}
use Rattle.stow_core.proofs.Copies.{values_copies, all_from}
use Rattle.stow_core.proofs.Stores.{stored}
use Rattle.stow_core.proofs.Tenancies.{own_with, own_of_parts}
use Rattle.stow_ledger.specs.Accounts.{AccountState, IsAccountOf, IsGivenBy, is_allowed, present_charge}
use Rattle.stow_ledger.specs.Charges.{charge_after_write}
use Rattle.stow_ledger.specs.Histories.{IsVersionHistory, ShowsHistory, SameNumbers}
use Rattle.stow_ledger.specs.Shown.{IsNewRow, PinsTell, charge_of, change_of, copied, is_in, length_option, rows_with, sized_option, with_row}
use Rattle.stow_ledger.specs.declared.charge.Charge.{Charge}
use Rattle.stow_ledger.specs.declared.row_change.RowChange.{RowChange}
use Rattle.stow_ledger.specs.declared.sized_version.SizedVersion.{SizedVersion}
use Rattle.stow_ledger.proofs.HistoryLemmas.{pins_tell_of_writes_law, next_is_new_law, rows_are_charged_law}
use Rattle.stow_ledger.proofs.KeptLemmas.{present_is_charged_law}
use Rattle.stow_ledger.proofs.TreeHistory.{rows_are_history_law}
use Rattle.stow_ledger.proofs.WriteLemmas.{write_is_charged_law}
use Rattle.stow_model.specs.Store.{Store, Rows, Version, exceeds_quota, rows_without, value_in}
use Rattle.stow_ledger.specs.StowState.Rows.{rows_at, version_of}
use Rattle.stow_ledger.specs.StowState.Rows.{with_row as written_row}
use Rattle.stow_ledger.specs.StowState.State.{TenantState, IsSound, store_in}
use Rattle.stow_dropping.specs.StowTree.TreeState.{tree_messages}
use Rattle.stow_core.specs.Writes.{IsLengthAfter, StaysShort}
use Rattle.stow_core.proofs.Answered.{priced_as}
use Rattle.stow_tree_model.specs.Keys.{own_key}
use Rattle.stow_tree_model.specs.Op.{Op}
use Rattle.stow_tree_model.specs.Operations.{numbered, outcome}
use Rattle.stow_versions.specs.VersionsState.{VersionsState}

-- above is not at or below
lt_not_le : (a b : ℕ) → nat_lt a b ≡ not (nat_le b a)
lt_not_le a b = ⊎_elim
    (λ (l : a < b). lt-ltb a b l ∙ sym (ap not (lt-leb b a l)))
    (λ (l : b ≤ a). le-ltb a b l ∙ sym (ap not (le-leb b a l)))
    (cases_lt a b)

neither : (a b : Bool) → (not a && not b) ≡ not (a || b)
neither true b = refl
neither false b = refl

-- the length of a row that an operation makes
length_given : (number : ℕ) (o : Option (List ℕ)) → option_map length o ≡ length_option (version_of (numbered number o))
length_given number None = refl
length_given number (Some value) = refl

-- a row's change as the account is told it
pub told_change : (core : CoreState) (t : ℕ) (key : List ℕ) (op : Op) (change : RowChange) → change.key ≡ length key → change.before ≡ sized_option (row_at core t key) → StaysShort op (value_in (row_at core t key)) → IsLengthAfter op change.before change.after
    → change ≡ change_of (store_of core t) key (next_row core t op key)
told_change core t key op change is before short after = λ i. record {
  key = is i;
  before = before i;
  after = (after (row_at core t key) before short ∙ length_given (next_number core t) (outcome op (value_in (row_at core t key)))) i;
}

-- the store with the key's next row is the one after a write of the key
same_row : (key : List ℕ) (row : Option Version) (rows : Rows) → written_row key row rows ≡ rows_with rows key row
same_row key None rows = refl
same_row key (Some version) rows = refl

pub priced_row : (core : CoreState) (t : ℕ) (key : List ℕ) (op : Op) (c : Charge) → IsPriced core t c (with_row (store_of core t) (own_key key) (next_row core t op (own_key key))) → IsPriced core t c (after_given (key ∷ []) op (store_of core t))
priced_row core t key op c priced = priced_as core t c _ (after_given (key ∷ []) op (store_of core t)) (same_row (own_key key) (next_row core t op (own_key key)) (store_of core t).rows) refl priced

module _ {A : Type 0} (core : CoreState) (t : ℕ) (x : Tenancy A) (at : tenancy_at t core.tenancies ≡ Some (tenancy_of x)) (sound : IsSound (shared_of core)) (account : IsAccountOf (store_of core t) x.account) where
  abbrev v : VersionsState
  v = x.versions

  abbrev a : AccountState
  a = x.account

  abbrev pub store : Store
  store = store_of core t

  abbrev numbers : List ℕ
  numbers = finite.values v.snapshots

  parts : store ≡ store_in (tree_messages core.tree) t (own_with v a)
  parts = stored core t (tenancy_of x) at ∙ ap (store_in (tree_messages core.tree) t) (own_of_parts v a)

  last_is : store.last ≡ v.last
  last_is = ap (λ (s : Store). s.last) parts

  pub history : IsVersionHistory (rows_at (tree_messages core.tree) t)
  history = rows_are_history_law (tree_messages core.tree) t

  low : (p : ℕ) → Contains numbers p → p ≤ v.last
  unfolding shared_of
  low = subst (λ (o : TenantState). (p : ℕ) → Contains (finite.values o.snapshots) p → p ≤ o.last) (ap own_state at ∙ own_of_parts v a) (sound.pins_below t)

  pub shows : ShowsHistory (rows_at (tree_messages core.tree) t) store numbers
  shows = record {
    rows = ap (λ (s : Store). s.rows) parts ∙ ap (rows_at (tree_messages core.tree) t) (sym last_is);
    copies = ap (λ (s : Store). finite.values s.snapshots) parts ∙ values_copies (tree_messages core.tree) t v.snapshots;
    below = subst (λ n. AllByRecursion (λ number. number ≤ n) numbers) (sym last_is) (all_from (λ n. n ≤ v.last) numbers low);
  }

  -- ---- limits

  pub present_within : (c : Charge) → c ≡ present_charge a → c.charge ≤ number_limit → IsGivenBy a c → IsChargeWithin core t c
  present_within c is within given = record {
    given = subst (λ (o : Option TenancyState). IfSome o (λ own. IsGivenBy own.account c)) (sym at) given;
    charge_within = within;
    rows_within =
        let rows = ap (λ (p : Charge). p.rows) is ∙ account.rows in
        let charged = ap (λ (p : Charge). p.charge) is ∙ account.charged in
        let few = rows_are_charged_law store in
        omega (arith, rows, charged, few, within);
  }

  pub given_here : (c : Charge) → IfSome (tenancy_at t core.tenancies) (λ own. IsGivenBy own.account c) → IsGivenBy a c
  given_here c given = subst (λ (o : Option TenancyState). IfSome o (λ own. IsGivenBy own.account c)) at given

  -- ---- one row

  -- what the account doesn't allow exceeds the quota
  pub exceeds : (after : Store) (c : Charge) → c ≡ charge_of after → exceeds_quota store after ≡ not (is_allowed a c)
  exceeds after c is =
      (λ i. nat_lt (sym account.quota i) (ap (λ (p : Charge). p.charge) (sym is) i) && nat_lt (sym account.charged i) (ap (λ (p : Charge). p.charge) (sym is) i))
      ∙ (λ i. lt_not_le a.quota c.charge i && lt_not_le a.charge c.charge i)
      ∙ neither (nat_le c.charge a.quota) (nat_le c.charge a.charge)

  pub charged_in : (after : Store) (c : Charge) → c ≡ charge_of after → IsGivenBy a c → IsTrue (is_allowed a c) → IsCharged core t c after
  charged_in after c is given allowed = record {
    is = is;
    given = subst (λ (o : Option TenancyState). IfSome o (λ own. IsGivenBy own.account c)) (sym at) given;
    allowed = subst (λ (o : Option TenancyState). IfSome o (λ own. IsTrue (is_allowed own.account c))) (sym at) allowed;
  }

  pub priced_in : (after : Store) (c : Charge) → c ≡ charge_of after → IsGivenBy a c → IsPriced core t c after
  priced_in after c is given = record { is = is; given = subst (λ (o : Option TenancyState). IfSome o (λ own. IsGivenBy own.account c)) (sym at) given }

  new_row : (number : ℕ) (key : List ℕ) (o : Option (List ℕ)) → number ≡ store.last + 1 → IsNewRow store key (version_of (numbered number o))
  new_row number key None is = tt
  new_row number key (Some value) is = subst (λ n. IsNewRow store key (Some (record { number = n; value = value }))) (sym is) (next_is_new_law (rows_at (tree_messages core.tree) t) store numbers key value history shows)

  -- the account's charge after a write is that of the store
  pub written_charge : (key : List ℕ) (op : Op) (change : RowChange) (pins : List ℕ) (present c : Charge) → SameNumbers pins numbers → present ≡ present_charge a → change ≡ change_of store key (next_row core t op key) → c ≡ charge_after_write present change pins
      → c ≡ charge_of (with_row store key (next_row core t op key))
  written_charge key op change pins present c same is changed after =
      after ∙ (λ i. charge_after_write ((is ∙ present_is_charged_law store a account) i) (changed i) pins)
      ∙ sym (write_is_charged_law store key (next_row core t op key) pins
      (new_row (next_number core t) key (outcome op (value_in (row_at core t key))) refl)
      (pins_tell_of_writes_law (rows_at (tree_messages core.tree) t) store numbers pins key history shows same))

  -- ---- rows that go

  -- pins tell of what is still there once some rows are gone
  still_told : (keys : List (List ℕ)) (key pins : List ℕ) → SameNumbers pins numbers → PinsTell (store_without keys store) key pins
  still_told keys key pins same = one (finite.get (rows_without keys store.rows) key) (finite.get store.rows key) refl (without_or_same keys store.rows key) (pins_tell_of_writes_law (rows_at (tree_messages core.tree) t) store numbers pins key history shows same) where
    one : (o p : Option Version) → finite.get (rows_without keys store.rows) key ≡ o → (o ≡ None) ⊎ (o ≡ p) → IfSome p (λ version. is_in (key, version) (copied store) ≡ is_pinned pins version.number)
        → IfSome o (λ version. is_in (key, version) (copied (store_without keys store)) ≡ is_pinned pins version.number)
    one None p is cases told = tt
    one (Some w) p is cases told = ⊎_elim
        (λ (e : Some w ≡ None). absurd (apart w e))
        (λ (e : Some w ≡ p). subst (λ (q : Option Version). IfSome q (λ version. is_in (key, version) (copied store) ≡ is_pinned pins version.number)) (sym e) told)
        cases
      where
        apart : (y : Version) → Some y ≡ None → ⊥
        apart y f = cc

  pub removed_charge : (keys : List (List ℕ)) (own : List ℕ) (key : ℕ) (version : SizedVersion) (pins : List ℕ) (so_far c : Charge) → SameNumbers pins numbers → IsRowWithout store keys own key version → so_far ≡ charge_of (store_without keys store)
      → c ≡ charge_after_write so_far (record { key = key; before = Some version; after = None }) pins → c ≡ charge_of (store_without (keys ++ own ∷ []) store)
  removed_charge keys own key version pins so_far c same row is after =
      let s : Store = store_without keys store in
      after
      ∙ (λ i. charge_after_write (is i) (record { key = row.key_is i; before = row.version_is i; after = None }) pins)
      ∙ sym (write_is_charged_law s own None pins tt (still_told keys own pins same))
      ∙ ap (λ (rows : Rows). charge_of (record store { rows = rows })) (sym (rows_without-push keys own store.rows))

  pub removed_within : (key : ℕ) (version : SizedVersion) (pins : List ℕ) (so_far c : Charge) → IsChargeWithin core t so_far → IsGivenBy a c → c ≡ charge_after_write so_far (record { key = key; before = Some version; after = None }) pins → IsChargeWithin core t c
  removed_within key version pins so_far c within given is = record {
    given = subst (λ (o : Option TenancyState). IfSome o (λ own. IsGivenBy own.account c)) (sym at) given;
    charge_within = (let e = ap (λ (p : Charge). p.charge) is in let w = within.charge_within in omega (arith, e, w));
    rows_within = (let e = ap (λ (p : Charge). p.rows) is in let w = within.rows_within in omega (arith, e, w));
  }
