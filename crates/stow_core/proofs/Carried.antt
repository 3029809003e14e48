-- The core once one tenant's part, its pins and the tree are others: what each way of carrying an answer out leads to.
use Rattle.std.proofs.Common.{◌≡◌, ◌≢◌, ℕ, ◌+◌, ◌-◌, ◌<◌, ◌≤◌, List, length, map, get_or, set, Option, Some, None, refl, ap, sym, ◌∙◌, subst, arith, ⊎_elim}
use Rattle.std.specs.Prelude.{Contains, IfSome, IsSome}
use Rattle.std.specs.FinMap as finite
use Rattle.std.proofs.lemmas.Bool.{cases_eq}
use Rattle.std.proofs.lemmas.List.{length-map, length-set, map-set}
use Rattle.stow_core.specs.Keys.{AreKeysOf}
use Rattle.stow_core.specs.declared.tenancy.Tenancy.{Tenancy}
use Rattle.stow_core.specs.Prepared.{after_given, after_refusal, after_take, after_drop, IsCharged}
use Rattle.stow_core.specs.State.{CoreState, shared_of, store_at, store_of, IsCore, Keeps, Moves}
use Rattle.stow_core.proofs.Kept.{idle}
use Rattle.stow_core.proofs.Tenancies.{set_own, set_other}
use Rattle.stow_core.specs.Tenancies.{TenancyState, tenancy_with, tenancy_of, tenancy_at, own_state, versions_of, is_among, counted_account, refused_account, charged_account}
use Rattle.stow_core.specs.Writes.{writes_of}
use Rattle.stow_core.proofs.Changed.{account_counted, account_refused, account_charged, account_given, account_taken, before_is, held_same, leads_counted, leads_refused, leads_given, leads_taken, leads_dropped, leads_written, next_is_free, pins_own, pins_before, pins_other}
use Rattle.stow_core.proofs.Moved.{with_own, moves, core_moved}
use Rattle.stow_core.proofs.Stores.{found_high, found_own, found_account}
use Rattle.stow_ledger.specs.Accounts.{AccountState, IsAccountOf}
use Rattle.stow_ledger.specs.Shown.{charge_of}
use Rattle.stow_ledger.specs.declared.charge.Charge.{Charge}
use Rattle.stow_dropping.specs.StowMerge.declared.pins.Pins.{Pins}
use Rattle.stow_dropping.specs.StowMerge.Pins.{room_in}
use Rattle.stow_dropping.specs.StowMerge.Pins as held
use Rattle.stow_model.specs.Login.{Entry, IsTenant}
use Rattle.stow_model.specs.Store.{Store, counted}
use Rattle.std.specs.FinMap.{FinMap}
use Rattle.std.specs.Ordering.{nat_cmp}
use Rattle.std.specs.Prelude.{option_map}
use Rattle.stow_model.specs.Store.{Rows}
use Rattle.stow_ledger.specs.StowState.Rows.{rows_at}
use Rattle.stow_ledger.proofs.StowState.Snapshots.{get-copies_of}
use Rattle.stow_ledger.specs.StowState.State.{SharedState, IsSound, copies, store_in, pins_in}
use Rattle.stow_ledger.specs.StowState.Steps.{SharedStep, LeadsTo, Maintenance}
use Rattle.stow_dropping.specs.StowTree.TreeState.{TreeState, tree_messages}
use Rattle.stow_dropping.specs.StowTree.Putting.{AreApart}
use Rattle.stow_tree_model.specs.Op.{Op}
use Rattle.stow_tree_model.specs.Messages.{with_all}
use Rattle.stow_versions.specs.VersionsState.{VersionsState, IsVersionsState, IsReady}
use Rattle.stow_versions.proofs.PinLemmas.{same_contains}
use Rattle.stow_core.proofs.PinNumbers.{no_more_pins}
use Rattle.stow_core.proofs.Tenancies.{same_versions}

-- the core of these parts
abbrev pub core_of : {A : Type 0} → List Entry → List (Tenancy A) → ℕ → TreeState → CoreState
core_of entries items pin_room tree = record { entries = entries; tenancies = map tenancy_of items; pin_room = pin_room; tree = tree }

-- the core's type keeps what it does, and the tenant's store became what the change makes of it
pub record IsCarried {A : Type 0} (core new : CoreState) (t : ℕ) (pins' : Pins A) (change : Store → Store) : Type 0 where
  pub keeps : IsCore new pins'
  pub moves : Moves core t (change (store_of core t)) new

module _ {A : Type 0} (entries : List Entry) (items : List (Tenancy A)) (pin_room : ℕ) (tree : TreeState) (pins : Pins A) (core : CoreState) (t : ℕ) (x x' : Tenancy A) (seen : core_of entries items pin_room tree ≡ core) (is_core : IsCore (core_of entries items pin_room tree) pins) (is : IsTenant core.entries t) (at : x ≡ get_or items (t - 1) x) where
  abbrev old : CoreState
  old = core_of entries items pin_room tree

  abbrev pub new_core : ℕ → TreeState → CoreState
  new_core pin_room' tree' = core_of entries (set items (t - 1) x') pin_room' tree'

  high : t ≤ length old.tenancies
  high = let h = found_high old core pins items t seen is_core refl is in let l = length-map items tenancy_of in omega (arith, h, l)

  own_at : tenancy_at t old.tenancies ≡ Some (tenancy_of x)
  own_at = found_own old core pins items t seen is_core refl is x at

  account_at : IsAccountOf (store_of old t) x.account
  account_at = found_account old core pins items t seen is_core refl is x at

  abbrev after : ℕ → TreeState → CoreState
  after pin_room' tree' = with_own old pins is_core t (tenancy_of x) (tenancy_of x') is.0 high own_at pin_room' tree'

  placed : (pin_room' : ℕ) (tree' : TreeState) → after pin_room' tree' ≡ new_core pin_room' tree'
  placed pin_room' tree' = λ i. record { entries = entries; tenancies = sym (map-set tenancy_of items (t - 1) x') i; pin_room = pin_room'; tree = tree' }

  carried : (change : Store → Store) (pin_room' : ℕ) (tree' : TreeState) (pins' : Pins A) → LeadsTo (shared_of old) t (change (store_of old t)) (shared_of (after pin_room' tree')) → IsAccountOf (change (store_of old t)) x'.account
      → ((u n : ℕ) → is_among n (held.pins_in pins' u) ≡ is_among n (pins_in (shared_of (after pin_room' tree')) u)) → (pin_room' ≢ 0 → 0 < room_in pins' pin_room') → tree'.root.shape ≡ tree.root.shape
      → IsCarried core (new_core pin_room' tree') t pins' change
  carried change pin_room' tree' pins' leads account pins_are room shape = record {
    keeps = subst (λ c. IsCore c pins') (placed pin_room' tree') (core_moved old pins is_core t (tenancy_of x) (tenancy_of x') is.0 high own_at pin_room' tree' (change (store_of old t)) pins' leads account pins_are room shape);
    moves = subst (λ c. Moves c t (change (store_of c t)) (new_core pin_room' tree')) seen
        (subst (λ c. Moves old t (change (store_of old t)) c) (placed pin_room' tree') (moves old pins is_core t (tenancy_of x) (tenancy_of x') is.0 high own_at pin_room' tree' (change (store_of old t)) leads));
  }

  abbrev held_still : (tree' : TreeState) → x'.versions.snapshots ≡ x.versions.snapshots → (u n : ℕ) → is_among n (held.pins_in pins u) ≡ is_among n (pins_in (shared_of (after pin_room tree')) u)
  held_still tree' same = held_same old pins is_core t x.versions x'.versions x.account x'.account is.0 high own_at pin_room tree' same

  pub count : x'.versions ≡ x.versions → x'.account ≡ counted_account x.account → IsCarried core (new_core pin_room tree) t pins counted
  count versions account = carried counted pin_room tree pins
      (leads_counted old pins is_core t x.versions x'.versions x.account x'.account is.0 high own_at pin_room tree versions account refl)
      (account_counted (store_of old t) x.account x'.account account account_at)
      (held_still tree (ap (λ (v : VersionsState). v.snapshots) versions)) is_core.pin_room refl

  pub refuse : x'.versions ≡ x.versions → x'.account ≡ refused_account x.account → IsCarried core (new_core pin_room tree) t pins after_refusal
  refuse versions account = carried after_refusal pin_room tree pins
      (leads_refused old pins is_core t x.versions x'.versions x.account x'.account is.0 high own_at pin_room tree versions account refl)
      (account_refused (store_of old t) x.account x'.account account account_at)
      (held_still tree (ap (λ (v : VersionsState). v.snapshots) versions)) is_core.pin_room refl

  pub give : (quota : ℕ) → x'.versions ≡ x.versions → x'.account ≡ record x.account { quota = quota } → IsCarried core (new_core pin_room tree) t pins (λ s. record s { quota = quota })
  give quota versions account = carried (λ s. record s { quota = quota }) pin_room tree pins
      (leads_given old pins is_core t x.versions x'.versions x.account x'.account is.0 high own_at pin_room tree quota versions account refl)
      (account_given (store_of old t) x.account x'.account quota account account_at)
      (held_still tree (ap (λ (v : VersionsState). v.snapshots) versions)) is_core.pin_room refl

  -- what is charged, by the state before
  charged_in : (ch : Charge) (f : Store → Store) → IsCharged core t ch (f (store_of core t)) → ch ≡ charge_of (f (store_of old t))
  charged_in ch f charged = charged.is ∙ ap (λ c. charge_of (f (store_of c t))) (sym seen)

  pub put : (tree' : TreeState) (keys : List (List ℕ)) (op : Op) (ch : Charge) → AreKeysOf t keys → AreApart (writes_of (x.versions.last + 1) op keys) → IsCharged core t ch (after_given keys op (store_of core t)) → x'.versions ≡ record x.versions { last = x.versions.last + 1 } → x'.account ≡ charged_account ch x.account
      → tree_messages tree' ≡ with_all (tree_messages tree) (writes_of (x.versions.last + 1) op keys) → tree'.root.shape ≡ tree.root.shape → IsCarried core (new_core pin_room tree') t pins (after_given keys op)
  put tree' keys op ch own apart charged versions account puts shape = carried (after_given keys op) pin_room tree' pins
      (leads_written old pins is_core t x.versions x'.versions x.account x'.account is.0 high own_at pin_room tree' keys op ch versions account own apart puts)
      (account_charged (store_of old t) (after_given keys op (store_of old t)) x.account x'.account ch account (charged_in ch (after_given keys op) charged) (refl, refl, refl) account_at)
      (held_still tree' (ap (λ (v : VersionsState). v.snapshots) versions)) is_core.pin_room shape

  -- the pins, where the tenant's are now the numbers of its snapshots, and the others' stay
  held_now : (pins' : Pins A) → ((n : ℕ) → is_among n (held.pins_in pins' t) ≡ is_among n (finite.values x'.versions.snapshots)) → ((u : ℕ) → u ≢ t → held.pins_in pins' u ≡ held.pins_in pins u) → (u n : ℕ) → is_among n (held.pins_in pins' u) ≡ is_among n (pins_in (shared_of (after 0 tree)) u)
  held_now pins' own others u n = ⊎_elim
      (λ (e : u ≡ t). subst (λ v. is_among n (held.pins_in pins' v) ≡ is_among n (pins_in (shared_of (after 0 tree)) v)) (sym e)
      (own n ∙ ap (is_among n) (sym (pins_own old pins is_core t x.versions x'.versions x.account x'.account is.0 high own_at 0 tree))))
      (λ (ne : u ≢ t). ap (is_among n) (others u ne) ∙ is_core.pins_are u n ∙ ap (is_among n) (pins_other old pins is_core t x.versions x'.versions x.account x'.account is.0 high own_at 0 tree u ne))
      (cases_eq u t)

  -- the tenant's pins are the numbers of its snapshots
  pub held_before : (n : ℕ) → is_among n (held.pins_in pins t) ≡ is_among n (finite.values x.versions.snapshots)
  held_before n = is_core.pins_are t n ∙ ap (is_among n) (pins_before old pins is_core t x.versions x'.versions x.account x'.account is.0 high own_at pin_room tree)

  no_room : {X : Type 0} → ◌≢◌ {A = ℕ} 0 0 → X
  no_room ne = absurd (ne refl)

  pub take : (pins' : Pins A) → ((n : ℕ) → is_among n (held.pins_in pins' t) ≡ is_among n (finite.values x'.versions.snapshots)) → ((u : ℕ) → u ≢ t → held.pins_in pins' u ≡ held.pins_in pins u)
      → x'.versions ≡ record x.versions { snapshots = finite.insert x.versions.snapshots x.versions.next x.versions.last; next = x.versions.next + 1; room = x'.versions.room } → x'.account ≡ counted_account x.account → IsCarried core (new_core 0 tree) t pins' after_take
  take pins' own others versions account = carried after_take 0 tree pins'
      (leads_taken old pins is_core t x.versions x'.versions x.account x'.account is.0 high own_at 0 tree versions account refl)
      (account_taken (store_of old t) x.account x'.account account (next_is_free old pins is_core t x.versions x'.versions x.account x'.account is.0 high own_at 0 tree) account_at)
      (held_now pins' own others) no_room refl

  pub drop : (pins' : Pins A) (id : ℕ) (ch : Charge) → ((n : ℕ) → is_among n (held.pins_in pins' t) ≡ is_among n (finite.values x'.versions.snapshots)) → ((u : ℕ) → u ≢ t → held.pins_in pins' u ≡ held.pins_in pins u)
      → IsCharged core t ch (after_drop id (store_of core t)) → x'.versions ≡ record x.versions { snapshots = finite.remove x.versions.snapshots id; room = x'.versions.room } → x'.account ≡ charged_account ch x.account → IsCarried core (new_core 0 tree) t pins' (after_drop id)
  drop pins' id ch own others charged versions account = carried (after_drop id) 0 tree pins'
      (leads_dropped old pins is_core t x.versions x'.versions x.account x'.account is.0 high own_at 0 tree id ch versions account refl)
      (account_charged (store_of old t) (after_drop id (store_of old t)) x.account x'.account ch account (charged_in ch (after_drop id) charged) (refl, refl, refl) account_at)
      (held_now pins' own others) no_room refl

  -- what the tenant's part is asked for
  pub given_to : (P : AccountState → Type 0) → IfSome (tenancy_at t core.tenancies) (λ own. P own.account) → P x.account
  given_to P some = subst (λ (o : Option TenancyState). IfSome o (λ own. P own.account)) (ap (λ (c : CoreState). tenancy_at t c.tenancies) (sym seen) ∙ own_at) some

  pub last_of : (store_of core t).last ≡ x.versions.last
  last_of = ap (λ c. (store_of c t).last) (sym seen) ∙ ap (λ (s : Store). s.last) (before_is old pins is_core t x.versions x'.versions x.account x'.account is.0 high own_at pin_room tree)

  pub ready_to : (P : VersionsState → Type 0) → IfSome (tenancy_at t core.tenancies) (λ own. P (versions_of own)) → P x.versions
  ready_to P some = subst P (same_versions x.versions x.account)
      (subst (λ (o : Option TenancyState). IfSome o (λ own. P (versions_of own))) (ap (λ (c : CoreState). tenancy_at t c.tenancies) (sym seen) ∙ own_at) some)

  -- the tenant has room for its next pin, where the core says so
  pub has_pin_room : core.pin_room ≡ t → 0 < room_in pins t
  has_pin_room e =
      let same : pin_room ≡ t = ap (λ (c : CoreState). c.pin_room) seen ∙ e in
      let low = is.0 in
      subst (λ u. 0 < room_in pins u) same (is_core.pin_room (λ z. omega (arith, z, same, low)))

  -- its pins are no more than its snapshots, and none is above its last write
  pub few_pins : IsReady x.versions → length (held.pins_in pins t) < 64
  few_pins ready = let no_more = no_more_pins (held.pins_in pins t) (finite.values x.versions.snapshots) (pins.rising t) held_before in
      let long = length-map (finite.entries x.versions.snapshots) (λ (e : ℕ × ℕ). e.1) ∙ sym (finite.len-entries x.versions.snapshots) in
      let few = ready.few in
      omega (arith, no_more, long, few)

  pub low_pins : IsVersionsState x.versions → (p : ℕ) → Contains (held.pins_in pins t) p → p ≤ x.versions.last
  low_pins kept p c = let there = same_contains (held.pins_in pins t) (finite.values x.versions.snapshots) p (held_before p) c in
      subst (λ n. n ≤ x.versions.last) there.2 (kept.numbers_below there.0 p there.1)

  -- a snapshot that the store shows has a number
  pub live_in : (id : ℕ) → IsSome (finite.get (store_of core t).snapshots id) → IsSome (finite.get x.versions.snapshots id)
  live_in id live =
      let shown : (store_of core t).snapshots ≡ copies (tree_messages tree) t (finite.entries x.versions.snapshots) =
      ap (λ c. (store_of c t).snapshots) (sym seen) ∙ ap (λ (s : Store). s.snapshots) (before_is old pins is_core t x.versions x'.versions x.account x'.account is.0 high own_at pin_room tree) in
      known (finite.get x.versions.snapshots id) (subst IsSome (ap (λ (s : FinMap nat_cmp Rows). finite.get s id) shown ∙ get-copies_of (tree_messages tree) t x.versions.snapshots id) live)
    where
      known : (o : Option ℕ) → IsSome (option_map (rows_at (tree_messages tree) t) o) → IsSome o
      known None some = some
      known (Some n) some = refl

  -- ---- room alone

  -- the tenant has room for a snapshot: nothing else is other
  module _ (versions : x'.versions ≡ record x.versions { room = x'.versions.room }) (account : x'.account ≡ x.account) where
    abbrev roomy : CoreState
    roomy = new_core pin_room tree

    own_same : own_state (Some (tenancy_of x')) ≡ own_state (Some (tenancy_of x))
    own_same = λ i. own_state (Some (tenancy_with (versions i) (account i)))

    own_now : tenancy_at t roomy.tenancies ≡ Some (tenancy_of x')
    own_now = ap (tenancy_at t) (map-set tenancy_of items (t - 1) x') ∙ set_own t (map tenancy_of items) (tenancy_of x') is.0 high

    own_other : (u : ℕ) → u ≢ t → tenancy_at u roomy.tenancies ≡ tenancy_at u old.tenancies
    own_other u ne = ap (tenancy_at u) (map-set tenancy_of items (t - 1) x') ∙ set_other t u (map tenancy_of items) (tenancy_of x') is.0 ne

    owns_same : (u : ℕ) → own_state (tenancy_at u roomy.tenancies) ≡ own_state (tenancy_at u old.tenancies)
    owns_same u = ⊎_elim
        (λ (e : u ≡ t). ap (λ w. own_state (tenancy_at w roomy.tenancies)) e ∙ ap own_state own_now ∙ own_same ∙ sym (ap (λ w. own_state (tenancy_at w old.tenancies)) e ∙ ap own_state own_at))
        (λ (ne : u ≢ t). ap own_state (own_other u ne))
        (cases_eq u t)

    pub roomy_shared : shared_of roomy ≡ shared_of old
    unfolding shared_of
    roomy_shared = λ i. record { messages = tree_messages tree; tenants = λ u. owns_same u i }

    roomy_store : (u : ℕ) → store_of roomy u ≡ store_of old u
    unfolding store_of
    roomy_store u = ⊎_elim
        (λ (e : u ≡ t). ap (λ w. store_at (tree_messages tree) w (tenancy_at w roomy.tenancies)) e ∙ ap (store_at (tree_messages tree) t) own_now ∙ ap (store_in (tree_messages tree) t) own_same
        ∙ sym (ap (λ w. store_at (tree_messages tree) w (tenancy_at w old.tenancies)) e ∙ ap (store_at (tree_messages tree) t) own_at))
        (λ (ne : u ≢ t). ap (store_at (tree_messages tree) u) (own_other u ne))
        (cases_eq u t)

    pub roomy_core : IsCore roomy pins
    roomy_core = record {
      each = ap length (map-set tenancy_of items (t - 1) x') ∙ length-set (map tenancy_of items) (t - 1) (tenancy_of x') ∙ is_core.each;
      few = subst (λ n. n < 65536) (sym (ap length (map-set tenancy_of items (t - 1) x') ∙ length-set (map tenancy_of items) (t - 1) (tenancy_of x'))) is_core.few;
      sound = subst IsSound (sym roomy_shared) is_core.sound;
      accounts = λ u. ⊎_elim
          (λ (e : u ≡ t). subst (λ w. IfSome (tenancy_at w roomy.tenancies) (λ own. IsAccountOf (store_of roomy w) own.account)) (sym e)
          (subst (λ (o : Option TenancyState). IfSome o (λ own. IsAccountOf (store_of roomy t) own.account)) (sym own_now)
          (subst (IsAccountOf (store_of roomy t)) (sym account) (subst (λ s. IsAccountOf s x.account) (sym (roomy_store t)) account_at))))
          (λ (ne : u ≢ t). subst (λ (o : Option TenancyState). IfSome o (λ own. IsAccountOf (store_of roomy u) own.account)) (sym (own_other u ne))
          (subst (λ s. IfSome (tenancy_at u old.tenancies) (λ own. IsAccountOf s own.account)) (sym (roomy_store u)) (is_core.accounts u)))
          (cases_eq u t);
      pins_are = λ u n. is_core.pins_are u n ∙ ap (λ (s : SharedState). is_among n (pins_in s u)) (sym roomy_shared);
      pin_room = is_core.pin_room;
      sizes = is_core.sizes;
    }

    pub roomy_keeps : Keeps core roomy
    roomy_keeps = subst (λ c. Keeps c roomy) seen (record {
      stores = roomy_store;
      entries = refl;
      gives_way = record { sound = is_core.sound; step = subst (λ s. SharedStep (shared_of old) Maintenance None s) (sym roomy_shared) (idle (shared_of old) is_core.sound) };
    })

    pub roomy_ready : IsReady x'.versions → IfSome (tenancy_at t roomy.tenancies) (λ own. IsReady (versions_of own))
    roomy_ready ready = subst (λ (o : Option TenancyState). IfSome o (λ own. IsReady (versions_of own))) (sym own_now) (subst IsReady (sym (same_versions x'.versions x'.account)) ready)
