-- What a tenant is told of its snapshots.
use Rattle.std.proofs.Common.{◌≡◌, ◌≢◌, ℕ, ℤ, pos, negsuc, ◌<◌, ◌≤◌, true, false, nat_lt, nat_le, Option, Some, None, Result, Ok, Err, refl, ap, sym, ◌∙◌, subst, arith, to_z, w64}
use Rattle.std.proofs.Math.Bool.{◌&&◌}
use Rattle.std.proofs.lemmas.Bool.{lt-ltb, le-leb, lt-leb}
use Rattle.std.specs.FinMap as finite
use Rattle.std.specs.Prelude.{IfErr, IfSome, IsFalse, OnOk, ◌↔◌}
use Rattle.stow_bytes.specs.Limits.{snapshot_limit, number_limit}
use Rattle.stow_core.specs.Prepared.{after_drop, after_take}
use Rattle.stow_core.specs.State.{CoreState, store_of}
use Rattle.stow_core.specs.Tenancies.{TenancyState, tenancy_of, tenancy_at, versions_of}
use Rattle.stow_core.specs.declared.tenancy.Tenancy.{Tenancy}
use Rattle.stow_core.proofs.Answered.{take_done}
use Rattle.stow_core.proofs.Tenancies.{same_versions}
use Rattle.stow_core.proofs.Used.{next_same, live_same}
use Rattle.stow_model.specs.declared.refusal.Refusal.TheVariants as refusal
use Rattle.stow_model.specs.declared.simple_string.SimpleString.TheVariants as simple
use Rattle.stow_model.specs.Reply.{Reply}
use Rattle.stow_model.specs.Reply as reply
use Rattle.stow_model.specs.Store.{Store, Rows, Answer, counted, can_take, drop_answer, in_snapshot, snapshot_rows, take_answer, without_snapshot}
use Rattle.stow_versions.specs.VersionsState.{IsReady}
use Rattle.stow_versions.specs.declared.snapshot_fault.SnapshotFault.{SnapshotFault}
use Rattle.stow_versions.specs.declared.snapshot_fault.SnapshotFault.TheVariants as fault

-- a request that is counted leaves the snapshots
same_rows : (store : Store) (id : ℤ) → snapshot_rows (counted store) id ≡ snapshot_rows store id
same_rows store (pos n) = refl
same_rows store (negsuc n) = refl

-- ---- what a snapshot shows

pub shows_none : (store : Store) (id : ℤ) (told : Rows → Reply) → snapshot_rows store id ≡ None → ◌≡◌ {A = Answer} (counted store, reply.Error refusal.NoSuchSnapshot) (in_snapshot (counted store) (snapshot_rows (counted store) id) told)
shows_none store id told none = ap (λ rows. in_snapshot (counted store) rows told) (sym (same_rows store id ∙ none))

pub shows_rows : (store : Store) (id : ℤ) (told : Rows → Reply) (rows : Rows) (r : Reply) → snapshot_rows store id ≡ Some rows → r ≡ told rows → ◌≡◌ {A = Answer} (counted store, r) (in_snapshot (counted store) (snapshot_rows (counted store) id) told)
shows_rows store id told rows r some is = (λ i. (counted store, is i)) ∙ ap (λ (rs : Option Rows). in_snapshot (counted store) rs told) (sym (same_rows store id ∙ some))

-- ---- drops

pub drops_none : (store : Store) (id : ℤ) → snapshot_rows store id ≡ None → ◌≡◌ {A = Answer} (counted store, reply.Error refusal.NoSuchSnapshot) (drop_answer (counted store) id (snapshot_rows (counted store) id))
drops_none store id none = ap (drop_answer (counted store) id) (sym (same_rows store id ∙ none))

pub drops_one : (store : Store) (id : ℤ) (n : ℕ) (rows : Rows) → id ≡ pos n → snapshot_rows store id ≡ Some rows → ◌≡◌ {A = Answer} (after_drop n store, reply.Simple simple.Ok) (drop_answer (counted store) id (snapshot_rows (counted store) id))
drops_one store id n rows is some = (λ i. (without_snapshot (counted store) (sym is i), reply.Simple simple.Ok)) ∙ ap (drop_answer (counted store) id) (sym (same_rows store id ∙ some))

-- ---- whether one more can be taken

pub can_be_taken : (store : Store) (live next : ℕ) → live ≡ finite.len store.snapshots → next ≡ store.next → live < snapshot_limit → next ≤ number_limit → can_take store ≡ true
can_be_taken store live next live_is next_is few left =
    (λ i. nat_lt (sym live_is i) snapshot_limit && nat_le (sym next_is i) number_limit)
    ∙ (λ i. lt-ltb live snapshot_limit few i && le-leb next number_limit left i)

pub too_many : (store : Store) (live : ℕ) → live ≡ finite.len store.snapshots → live ≡ snapshot_limit → can_take store ≡ false
too_many store live live_is full = (λ i. nat_lt ((sym live_is ∙ full) i) snapshot_limit && nat_le store.next number_limit)

pub used_up : (store : Store) (live next : ℕ) → live ≡ finite.len store.snapshots → next ≡ store.next → live < snapshot_limit → number_limit < next → can_take store ≡ false
used_up store live next live_is next_is few above =
    (λ i. nat_lt (sym live_is i) snapshot_limit && nat_le (sym next_is i) number_limit)
    ∙ (λ i. lt-ltb live snapshot_limit few i && lt-leb next number_limit above i)

-- what room for one more was refused for, but for memory
pub cannot_take : {A X : Type 0} (core : CoreState) (t : ℕ) (x : Tenancy A) → tenancy_at t core.tenancies ≡ Some (tenancy_of x) → (result : Result X SnapshotFault)
    → ((result ≡ Err fault.TooMany) ↔ (finite.len x.versions.snapshots ≡ snapshot_limit)) → ((result ≡ Err fault.IdsUsedUp) ↔ ((finite.len x.versions.snapshots < snapshot_limit) × (number_limit < x.versions.next)))
    → IfErr result (λ why. why ≢ fault.OutOfMemory → IsFalse (can_take (store_of core t)))
cannot_take core t x own (Ok done) many used = tt
cannot_take core t x own (Err fault.TooMany) many used = λ _. too_many (store_of core t) _ (live_same core t x own) (many.0 refl)
cannot_take core t x own (Err fault.IdsUsedUp) many used = λ _. used_up (store_of core t) _ _ (live_same core t x own) (next_same core t x own) (used.0 refl).0 (used.0 refl).1
cannot_take core t x own (Err fault.OutOfMemory) many used = λ ne. absurd (ne refl)

-- a tenant's next snapshot, where there is room for it
module _ {A : Type 0} (core : CoreState) (t : ℕ) (x : Tenancy A) (own : tenancy_at t core.tenancies ≡ Some (tenancy_of x)) (ready : IfSome (tenancy_at t core.tenancies) (λ own. IsReady (versions_of own))) where
  is_ready : IsReady x.versions
  is_ready = subst IsReady (same_versions x.versions x.account) (subst (λ (o : Option TenancyState). IfSome o (λ own. IsReady (versions_of own))) own ready)

  pub id_fits : x.versions.next ≤ number_limit
  id_fits = is_ready.id_left

  pub takes_one : (store : Store) (id : ℕ) → store_of core t ≡ store → id ≡ x.versions.next → ◌≡◌ {A = Answer} (after_take store, reply.Integer (to_z w64 id)) (take_answer (counted store))
  takes_one store id same is =
      let live = live_same core t x own ∙ ap (λ (s : Store). finite.len s.snapshots) same in
      let next = next_same core t x own ∙ ap (λ (s : Store). s.next) same in
      let low = id_fits in
      take_done store (can_be_taken store _ _ live next is_ready.few is_ready.id_left) id (is ∙ next) (omega (arith, is, low))

pub on_ok_then : {X E P Q : Type 0} (r : Result X E) → (P → Q) → OnOk r P → OnOk r Q
on_ok_then (Ok x) f p = f p
on_ok_then (Err e) f p = p
