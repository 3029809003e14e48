-- The steps of the shared state.
use Rattle.std.proofs.Common.{◌⊎◌, ◌≡◌, ◌≢◌, ℕ, suc, ◌<◌, ◌≤◌, true, false, List, [], ◌∷◌, Option, None, refl, ap, ◌∙◌, sym, subst, arith, ⊎_elim, inl, inr, cond, eqb}
use Rattle.std.specs.Prelude.{map, Contains}
use Rattle.std.specs.Ordering.{nat_cmp}
use Rattle.std.specs.FinMap.{FinMap}
use Rattle.std.specs.FinMap as finite
use Rattle.std.proofs.lemmas.Bool.{cases_eq, eq-eqb, ne_eqb, cond-true, cond-false}
use Rattle.stow_model.specs.Reply.{Reply}
use Rattle.stow_model.specs.Store.{Store, Rows, OwnEvent, step, empty_store, store_after, replies_after, with_reply}
use Rattle.stow_tree_model.specs.Keys.{packed, tenant_of}
use Rattle.stow_tree_model.specs.TreeMessage.{TreeMessage}
use Rattle.stow_tree_model.specs.Order.{place_cmp}
use Rattle.stow_tree_model.specs.Operations.{NoneAbove, or_else}
use Rattle.stow_tree_model.specs.Messages.{Messages, ops_of, ops_in, with_all, IsCall}
use Rattle.stow_tree_model.specs.Agreement.{TenantPins, TenantBounds, Agree, PinsBelow, with_bound}
use Rattle.stow_tree_model.proofs.Packed.{tenant_of-packed}
use Rattle.stow_tree_model.proofs.Histories.{latest_none}
use Rattle.stow_tree_model.proofs.SetLemmas.{ops-with_all, others_stay_law, call_agrees_law, agreement_chains_law}
use Rattle.stow_state.specs.Rows.{IsIndex, version_of, rows_at}
use Rattle.stow_state.specs.Changes.{changed_keys, message_to, changes}
use Rattle.stow_state.specs.State.{TenantState, SharedState, copies, store_in, view, pins_in, lasts_in, IdsBelow, IsSound, new_state}
use Rattle.stow_state.specs.Steps.{KeepsSnapshots, MovesSnapshots, SharedEvent, Call, Maintenance, HasIndex, IsElsewhere, numbers_of, moved_tenant, with_tenant, after_call, moved, reply_to, SharedStep, ToldEvent, SharedRun, line_with, line_of, replies_with, replies_of, KeepsRows, WritesRows, WritesOnce, CallIsOwnStep, OtherViewsStay, StaysSound, StepIsThere, StepsByParts, LeadsTo, LeadsAlone, StoresLead, StepsAfterMaintenance, RunsAlone, TwoSharedRuns}
use Rattle.stow_state.proofs.Rows.{rows_by_value_law, same_rows, other_rows_stay_law, agreeing_rows_law}
use Rattle.stow_state.proofs.Changes.{changes-elsewhere, changes-none, earlier_rows_stay_law, own_rows_move_law}
use Rattle.stow_state.proofs.Snapshots.{copies_same, numbers_stay, entries-empty, copies_below, numbers_below, values-numbers_of, copies_moved}
use Rattle.stow_state.proofs.Writes.{own_step_writes_law}

-- ---- the messages of a call

call_of : (tenant number : ℕ) (rows : Rows) (keys : List (List ℕ)) → IsIndex tenant → IsCall tenant number (map (message_to tenant number rows) keys)
call_of tenant number rows [] index = tt
call_of tenant number rows (k ∷ keys) index = ((tenant_of-packed tenant k index, refl), call_of tenant number rows keys index)

changes_call : (tenant number : ℕ) (before after : Rows) → IsIndex tenant → IsCall tenant number (changes tenant number before after)
unfolding changes
changes_call tenant number before after index = call_of tenant number after (changed_keys before after) index

-- ---- one tenant's part

with_own : (tenants : ℕ → TenantState) (tenant : ℕ) (own : TenantState) → with_tenant tenants tenant own tenant ≡ own
with_own tenants tenant own = cond-true (eqb tenant tenant) _ _ (eq-eqb tenant tenant refl)

with_other : (tenants : ℕ → TenantState) (tenant other : ℕ) (own : TenantState) → other ≢ tenant → with_tenant tenants tenant own other ≡ tenants other
with_other tenants tenant other own ne = cond-false (eqb other tenant) _ _ (ne_eqb other tenant ne)

-- stores of the same rows and counts
store_same : (l m : Messages) (tenant : ℕ) (own : TenantState) → rows_at l tenant own.last ≡ rows_at m tenant own.last → ((n : ℕ) → Contains (finite.values own.snapshots) n → rows_at l tenant n ≡ rows_at m tenant n) → store_in l tenant own ≡ store_in m tenant own
store_same l m tenant own rows at_pins = λ i. record {
  rows = rows i;
  last = own.last;
  snapshots = copies_same l m tenant (finite.entries own.snapshots) at_pins i;
  next = own.next;
  quota = own.quota;
  commands = own.commands;
  refusals = own.refusals;
}

-- ---- a store that a tenant's write leads to

view_ids : (state : SharedState) (tenant : ℕ) → IsSound state → IdsBelow (view state tenant).next (view state tenant).snapshots
unfolding view
view_ids state tenant sound = copies_below state.messages tenant (state.tenants tenant).next (state.tenants tenant).snapshots (sound.ids_below tenant)

-- snapshots that stay have the numbers that they had
snapshots_kept : (state : SharedState) (tenant : ℕ) (s : Store) → KeepsSnapshots (view state tenant) s → numbers_of (state.tenants tenant) (finite.keys s.snapshots) ≡ (state.tenants tenant).snapshots
unfolding view
snapshots_kept state tenant s kept =
    ap (λ (c : FinMap nat_cmp Rows). numbers_of (state.tenants tenant) (finite.keys c)) kept
    ∙ numbers_stay state.messages tenant (state.tenants tenant)

last_after : (state : SharedState) (tenant : ℕ) (s : Store) → WritesOnce (view state tenant) s → lasts_in state tenant ≤ s.last
unfolding view
last_after state tenant s once = ⊎_elim
    (λ (k : KeepsRows (view state tenant) s). let e = k.0 in omega arith)
    (λ (w : WritesRows (view state tenant) s). let e = w.0 in omega arith)
    once.rows_move

own_below : (state : SharedState) (tenant : ℕ) → IsIndex tenant → IsSound state → (q : List ℕ) → NoneAbove (lasts_in state tenant) (ops_of state.messages (packed tenant q))
own_below state tenant index sound q = subst (λ t. NoneAbove (lasts_in state t) (ops_of state.messages (packed tenant q))) (tenant_of-packed tenant q index) (sound.messages_below (packed tenant q))

rows_after : (state : SharedState) (tenant : ℕ) (s : Store) → IsIndex tenant → IsSound state → WritesOnce (view state tenant) s
    → rows_at (after_call state tenant s).messages tenant s.last ≡ s.rows
unfolding view
rows_after state tenant s index sound once =
    let m : Messages = (after_call state tenant s).messages in
    let last : ℕ = lasts_in state tenant in
    ⊎_elim
    (λ (k : KeepsRows (view state tenant) s).
    ap (rows_at m tenant) k.0
    ∙ earlier_rows_stay_law state.messages tenant (suc last) last (view state tenant).rows s.rows (omega arith)
    ∙ sym k.1)
    (λ (w : WritesRows (view state tenant) s).
    ap (rows_at m tenant) w.0
    ∙ own_rows_move_law state.messages tenant last s.rows (own_below state tenant index sound) w.1)
    once.rows_move

copies_after : (state : SharedState) (tenant : ℕ) (s : Store) → IsSound state → WritesOnce (view state tenant) s
    → copies (after_call state tenant s).messages tenant (finite.entries (numbers_of (state.tenants tenant) (finite.keys s.snapshots))) ≡ s.snapshots
unfolding view
copies_after state tenant s sound once =
    let m : Messages = (after_call state tenant s).messages in
    let stay : (n : ℕ) → n ≤ lasts_in state tenant → rows_at m tenant n ≡ rows_at state.messages tenant n = λ n low.
    earlier_rows_stay_law state.messages tenant (suc (lasts_in state tenant)) n (view state tenant).rows s.rows (omega arith) in
    ⊎_elim
    (λ (k : KeepsSnapshots (view state tenant) s).
    ap (λ (ids : FinMap nat_cmp ℕ). copies m tenant (finite.entries ids)) (snapshots_kept state tenant s k)
    ∙ copies_same m state.messages tenant (finite.entries (state.tenants tenant).snapshots) (λ n c. stay n (sound.pins_below tenant n c))
    ∙ sym k)
    (λ (moves : MovesSnapshots (view state tenant) s).
    copies_moved state.messages m tenant (state.tenants tenant) s.snapshots stay (sound.pins_below tenant) moves.each)
    once.snapshots_move

after_view : (state : SharedState) (tenant : ℕ) (s : Store) → IsIndex tenant → IsSound state → WritesOnce (view state tenant) s → view (after_call state tenant s) tenant ≡ s
unfolding view
after_view state tenant s index sound once =
    ap (store_in (after_call state tenant s).messages tenant) (with_own state.tenants tenant (moved_tenant (state.tenants tenant) s))
    ∙ (λ i. record {
      rows = rows_after state tenant s index sound once i;
      last = s.last;
      snapshots = copies_after state tenant s sound once i;
      next = s.next;
      quota = s.quota;
      commands = s.commands;
      refusals = s.refusals;
    })

after_other : (state : SharedState) (tenant other : ℕ) (s : Store) → IsIndex tenant → IsIndex other → other ≢ tenant → view (after_call state tenant s) other ≡ view state other
unfolding view
after_other state tenant other s index index' ne =
    let ms = changes tenant (suc (lasts_in state tenant)) (view state tenant).rows s.rows in
    let stay : (n : ℕ) → rows_at (with_all state.messages ms) other n ≡ rows_at state.messages other n = λ n.
    other_rows_stay_law state.messages tenant (suc (lasts_in state tenant)) ms other n (changes_call tenant (suc (lasts_in state tenant)) (view state tenant).rows s.rows index) index' ne in
    ap (store_in (with_all state.messages ms) other) (with_other state.tenants tenant other (moved_tenant (state.tenants tenant) s) ne)
    ∙ store_same (with_all state.messages ms) state.messages other (state.tenants other) (stay (state.tenants other).last) (λ n c. stay n)

-- a pin after it is one before it, or the number of the tenant's last write
pins_after : (state : SharedState) (tenant : ℕ) (s : Store) (t p : ℕ) → Contains (pins_in (after_call state tenant s) t) p → ((t ≡ tenant) × (p ≡ lasts_in state tenant)) ⊎ Contains (pins_in state t) p
pins_after state tenant s t p c =
    let own : TenantState = moved_tenant (state.tenants tenant) s in
    ⊎_elim
    (λ (e : t ≡ tenant).
    let is : with_tenant state.tenants tenant own t ≡ own = cond-true (eqb t tenant) _ _ (eq-eqb t tenant e) in
    ⊎_elim
    (λ (last : p ≡ lasts_in state tenant). inl (e, last))
    (λ (known : Contains (finite.values (state.tenants tenant).snapshots) p). inr (subst (λ x. Contains (pins_in state x) p) (sym e) known))
    (values-numbers_of (state.tenants tenant) (finite.keys s.snapshots) p (subst (λ (x : TenantState). Contains (finite.values x.snapshots) p) is c)))
    (λ (ne : t ≢ tenant). inr (subst (λ (x : TenantState). Contains (finite.values x.snapshots) p) (with_other state.tenants tenant t own ne) c))
    (cases_eq t tenant)

lasts_rise : (state : SharedState) (tenant : ℕ) (s : Store) (t : ℕ) → WritesOnce (view state tenant) s → lasts_in state t ≤ lasts_in (after_call state tenant s) t
lasts_rise state tenant s t once =
    let own : TenantState = moved_tenant (state.tenants tenant) s in
    ⊎_elim
    (λ (e : t ≡ tenant).
    let is : with_tenant state.tenants tenant own t ≡ own = cond-true (eqb t tenant) _ _ (eq-eqb t tenant e) in
    subst (λ (x : TenantState). lasts_in state t ≤ x.last) (sym is) (subst (λ x. lasts_in state x ≤ s.last) (sym e) (last_after state tenant s once)))
    (λ (ne : t ≢ tenant). subst (λ (x : TenantState). lasts_in state t ≤ x.last) (sym (with_other state.tenants tenant t own ne)) (omega arith))
    (cases_eq t tenant)

-- the tenants' snapshots stay below their last writes
after_pins_below : (old : SharedState) (tenant : ℕ) (s : Store) → IsSound old → WritesOnce (view old tenant) s → PinsBelow (pins_in (after_call old tenant s)) (lasts_in (after_call old tenant s))
after_pins_below old tenant s sound once t p c =
    let high : lasts_in old t ≤ lasts_in (after_call old tenant s) t = lasts_rise old tenant s t once in
    ⊎_elim
    (λ (h : (t ≡ tenant) × (p ≡ lasts_in old tenant)). (let low : p ≤ lasts_in old t = subst (λ x. p ≤ lasts_in old x) (sym h.0) (let e = h.1 in omega arith) in omega arith))
    (λ (h : Contains (pins_in old t) p). (let low : p ≤ lasts_in old t = sound.pins_below t p h in omega arith))
    (pins_after old tenant s t p c)

-- the tenants' next ids stay new
after_ids_below : (old : SharedState) (tenant : ℕ) (s : Store) → IsSound old → WritesOnce (view old tenant) s → (t : ℕ) → IdsBelow ((after_call old tenant s).tenants t).next ((after_call old tenant s).tenants t).snapshots
after_ids_below old tenant s sound once t =
    let own : TenantState = moved_tenant (old.tenants tenant) s in
    ⊎_elim
    (λ (e : t ≡ tenant). subst (λ (x : TenantState). IdsBelow x.next x.snapshots) (sym (cond-true (eqb t tenant) own (old.tenants t) (eq-eqb t tenant e)))
    (numbers_below (old.tenants tenant) s.snapshots s.next once.ids_below))
    (λ (ne : t ≢ tenant). subst (λ (x : TenantState). IdsBelow x.next x.snapshots) (sym (with_other old.tenants tenant t own ne)) (sound.ids_below t))
    (cases_eq t tenant)

-- no message is added above the tenant's last write
call_below : (state : SharedState) (tenant : ℕ) (s : Store) → WritesOnce (view state tenant) s → (key : List ℕ) (n : ℕ) → s.last < n
    → ops_in (changes tenant (suc (lasts_in state tenant)) (view state tenant).rows s.rows) key n ≡ None
unfolding view
call_below state tenant s once key n l = ⊎_elim
    (λ (k : KeepsRows (view state tenant) s).
    ap (λ (rows : Rows). ops_in (changes tenant (suc (lasts_in state tenant)) (view state tenant).rows rows) key n) k.1
    ∙ ap (λ ms. ops_in ms key n) (changes-none tenant (suc (lasts_in state tenant)) (view state tenant).rows))
    (λ (w : WritesRows (view state tenant) s).
    changes-elsewhere tenant (suc (lasts_in state tenant)) (view state tenant).rows s.rows key n (λ e. let z = w.0 in absurd (omega arith)))
    once.rows_move

after_below : (state : SharedState) (tenant : ℕ) (s : Store) → IsIndex tenant → IsSound state → WritesOnce (view state tenant) s → (key : List ℕ)
    → NoneAbove (lasts_in (after_call state tenant s) (tenant_of key)) (ops_of (after_call state tenant s).messages key)
after_below state tenant s index sound once key n l =
    let ms = changes tenant (suc (lasts_in state tenant)) (view state tenant).rows s.rows in
    let own : TenantState = moved_tenant (state.tenants tenant) s in
    ⊎_elim
    (λ (e : tenant_of key ≡ tenant).
    let is : with_tenant state.tenants tenant own (tenant_of key) ≡ own = cond-true (eqb (tenant_of key) tenant) _ _ (eq-eqb (tenant_of key) tenant e) in
    let above : s.last < n = subst (λ (x : TenantState). x.last < n) is l in
    let low : lasts_in state tenant ≤ s.last = last_after state tenant s once in
    ops-with_all state.messages ms key n
    ∙ (λ i. or_else (call_below state tenant s once key n above i) (sound.messages_below key n (subst (λ t. lasts_in state t < n) (sym e) (omega arith)) i)))
    (λ (ne : tenant_of key ≢ tenant).
    ap (λ f. f n) (others_stay_law state.messages tenant (suc (lasts_in state tenant)) ms key (changes_call tenant (suc (lasts_in state tenant)) (view state tenant).rows s.rows index) ne)
    ∙ sound.messages_below key n (subst (λ (x : TenantState). x.last < n) (with_other state.tenants tenant (tenant_of key) own ne) l))
    (cases_eq (tenant_of key) tenant)

-- ---- a call

-- what the tenant's own step does to its store
abbrev next_store : SharedState → ℕ → OwnEvent → Store
next_store state tenant event = (step (view state tenant) event).0

writes : (state : SharedState) (tenant : ℕ) (event : OwnEvent) → IsSound state → WritesOnce (view state tenant) (next_store state tenant event)
writes state tenant event sound = own_step_writes_law (view state tenant) event (view_ids state tenant sound)

-- ---- sets that agree

-- a state whose sets agree shows each tenant the same
same_view : (mid new : SharedState) (tenant : ℕ) → IsIndex tenant → new.tenants ≡ mid.tenants → Agree mid.messages new.messages (pins_in mid) (lasts_in mid) → view new tenant ≡ view mid tenant
unfolding view
same_view mid new tenant index tenants agree =
    let own : TenantState = mid.tenants tenant in
    ap (λ (ts : ℕ → TenantState). store_in new.messages tenant (ts tenant)) tenants
    ∙ sym (store_same mid.messages new.messages tenant own
    (agreeing_rows_law mid.messages new.messages (pins_in mid) (lasts_in mid) tenant own.last index agree (inr (omega arith)))
    (λ n c. agreeing_rows_law mid.messages new.messages (pins_in mid) (lasts_in mid) tenant n index agree (inl c)))

agreed_view : (old new : SharedState) (event : SharedEvent) (told : Option Reply) (tenant : ℕ) → IsIndex tenant → SharedStep old event told new → view new tenant ≡ view (moved old event) tenant
agreed_view old new event told tenant index s = same_view (moved old event) new tenant index s.tenants_are s.messages_agree

moved_view : (state : SharedState) (tenant : ℕ) (event : OwnEvent) → IsIndex tenant → IsSound state → view (moved state (Call tenant event)) tenant ≡ next_store state tenant event
unfolding moved
moved_view state tenant event index sound = after_view state tenant (next_store state tenant event) index sound (writes state tenant event sound)

pub call_is_own_step_law : CallIsOwnStep
unfolding reply_to
call_is_own_step_law old new tenant event told sound s =
    let store : view new tenant ≡ next_store old tenant event = agreed_view old new (Call tenant event) told tenant s.has_index s ∙ moved_view old tenant event s.has_index sound in
    λ i. (store i, s.reply_is i)

elsewhere : (old new : SharedState) (event : SharedEvent) (told : Option Reply) (other : ℕ) → IsIndex other → HasIndex event → IsElsewhere other event → view (moved old event) other ≡ view old other
unfolding moved
elsewhere old new (Call tenant event) told other index h ne = after_other old tenant other (next_store old tenant event) h index ne
elsewhere old new Maintenance told other index h ne = refl

pub other_views_stay_law : OtherViewsStay
other_views_stay_law old new event told other index ne s = agreed_view old new event told other index s ∙ elsewhere old new event told other index s.has_index ne

-- ---- soundness

moved_pins_below : (old : SharedState) (event : SharedEvent) → IsSound old → PinsBelow (pins_in (moved old event)) (lasts_in (moved old event))
unfolding moved
moved_pins_below old Maintenance sound t p c = sound.pins_below t p c
moved_pins_below old (Call tenant event) sound t p c = after_pins_below old tenant (next_store old tenant event) sound (writes old tenant event sound) t p c

moved_ids_below : (old : SharedState) (event : SharedEvent) → IsSound old → (t : ℕ) → IdsBelow ((moved old event).tenants t).next ((moved old event).tenants t).snapshots
unfolding moved
moved_ids_below old Maintenance sound t = sound.ids_below t
moved_ids_below old (Call tenant event) sound t = after_ids_below old tenant (next_store old tenant event) sound (writes old tenant event sound) t

same_state : (new : SharedState) (tenants : ℕ → TenantState) → new.tenants ≡ tenants → ((key : List ℕ) → NoneAbove (tenants (tenant_of key)).last (ops_of new.messages key)) → PinsBelow (λ t. finite.values (tenants t).snapshots) (λ t. (tenants t).last) → ((t : ℕ) → IdsBelow (tenants t).next (tenants t).snapshots) → IsSound new
same_state new tenants e below pins ids = record {
  messages_below = subst (λ (ts : ℕ → TenantState). (key : List ℕ) → NoneAbove (ts (tenant_of key)).last (ops_of new.messages key)) (sym e) below;
  pins_below = subst (λ (ts : ℕ → TenantState). PinsBelow (λ t. finite.values (ts t).snapshots) (λ t. (ts t).last)) (sym e) pins;
  ids_below = subst (λ (ts : ℕ → TenantState). (t : ℕ) → IdsBelow (ts t).next (ts t).snapshots) (sym e) ids;
}

pub step_sound : (old new : SharedState) (event : SharedEvent) (told : Option Reply) → IsSound old → SharedStep old event told new → IsSound new
step_sound old new event told sound s = same_state new (moved old event).tenants s.tenants_are (λ key. (s.messages_agree key).right_below) (moved_pins_below old event sound) (moved_ids_below old event sound)

nothing_in : (quotas : ℕ → ℕ) (key : List ℕ) (n : ℕ) → ops_of (new_state quotas).messages key n ≡ None
nothing_in quotas key n = finite.get-empty place_cmp (key, n)

pub no_values : (p : ℕ) → Contains (finite.values (finite.empty {X = ℕ} {R = nat_cmp})) p → ⊥
no_values p c = none p (subst (λ (es : List (ℕ × ℕ)). Contains (map (λ e. e.1) es) p) entries-empty c)
  where
    none : (n : ℕ) → Contains [] n → ⊥
    none n (k, l, e) = absurd (omega arith)

pub new_sound : (quotas : ℕ → ℕ) → IsSound (new_state quotas)
new_sound quotas = record {
  messages_below = λ key n l. nothing_in quotas key n;
  pins_below = λ t p c. absurd (no_values p c);
  ids_below = λ t id l. finite.get-empty nat_cmp id;
}

pub stays_sound_law : StaysSound
stays_sound_law = record { of_new = new_sound; of_step = step_sound }

-- ---- a tenant's store is led to another

lead_alone : (old new : SharedState) (tenant : ℕ) (store : Store) → IsSound old → LeadsTo old tenant store new → LeadsAlone old tenant store new
unfolding moved reply_to
lead_alone old new tenant store sound leads =
    let mid : SharedState = after_call old tenant store in
    record {
      sound = same_state new mid.tenants leads.tenants_are (λ key. (leads.messages_agree key).right_below) (after_pins_below old tenant store sound leads.writes_once) (after_ids_below old tenant store sound leads.writes_once);
      own = same_view mid new tenant leads.has_index leads.tenants_are leads.messages_agree ∙ after_view old tenant store leads.has_index sound leads.writes_once;
      others = λ other index ne. same_view mid new other index leads.tenants_are leads.messages_agree ∙ after_other old tenant other store leads.has_index index ne;
      step = λ event told is.
          let next : store ≡ (step (view old tenant) event).0 = sym (ap (λ (p : Store × Option Reply). p.0) is) in record {
            has_index = leads.has_index;
            reply_is = sym (ap (λ (p : Store × Option Reply). p.1) is);
            tenants_are = leads.tenants_are ∙ ap (λ s. (after_call old tenant s).tenants) next;
            messages_agree = subst (λ s. Agree (after_call old tenant s).messages new.messages (pins_in (after_call old tenant s)) (lasts_in (after_call old tenant s))) next leads.messages_agree;
          };
    }

lead_exactly : (old new : SharedState) (tenant : ℕ) (store : Store) → IsSound old → IsIndex tenant → WritesOnce (view old tenant) store → new.tenants ≡ (after_call old tenant store).tenants
    → new.messages ≡ (after_call old tenant store).messages → LeadsTo old tenant store new
lead_exactly old new tenant store sound index once tenants messages =
    let mid : SharedState = after_call old tenant store in
    record {
      has_index = index;
      writes_once = once;
      tenants_are = tenants;
      messages_agree = subst (λ (m : Messages). Agree mid.messages m (pins_in mid) (lasts_in mid)) (sym messages)
          (λ key. record { at_pins = λ p c. refl; from_bound = λ n l. refl; left_below = after_below old tenant store index sound once key; right_below = after_below old tenant store index sound once key });
    }

pub stores_lead_law : StoresLead
stores_lead_law = record { alone = lead_alone; exactly = lead_exactly }

-- ---- each event can be a step

moved_below : (state : SharedState) (event : SharedEvent) → IsSound state → HasIndex event → (key : List ℕ) → NoneAbove (lasts_in (moved state event) (tenant_of key)) (ops_of (moved state event).messages key)
unfolding moved
moved_below state Maintenance sound index key n l = sound.messages_below key n l
moved_below state (Call tenant event) sound index key n l = after_below state tenant (next_store state tenant event) index sound (writes state tenant event sound) key n l

pub step_is_there_law : StepIsThere
step_is_there_law state event sound index = record {
  has_index = index;
  reply_is = refl;
  tenants_are = refl;
  messages_agree = λ key. record {
    at_pins = λ p c. refl;
    from_bound = λ n l. refl;
    left_below = moved_below state event sound index key;
    right_below = moved_below state event sound index key;
  };
}

step_of_call : (old new : SharedState) (tenant : ℕ) (event : OwnEvent) (ms : List TreeMessage) → IsSound old → IsIndex tenant
    → with_all old.messages ms ≡ with_all old.messages (changes tenant (suc (lasts_in old tenant)) (view old tenant).rows (next_store old tenant event).rows)
    → new.messages ≡ with_all old.messages ms
    → new.tenants ≡ with_tenant old.tenants tenant (moved_tenant (old.tenants tenant) (next_store old tenant event))
    → SharedStep old (Call tenant event) (step (view old tenant) event).1 new
unfolding moved reply_to
step_of_call old new tenant event ms sound index same messages tenants =
    let s = step_is_there_law old (Call tenant event) sound index in
    record {
      has_index = index;
      reply_is = refl;
      tenants_are = tenants;
      messages_agree = subst (λ (x : Messages). Agree (moved old (Call tenant event)).messages x (pins_in (moved old (Call tenant event))) (lasts_in (moved old (Call tenant event)))) (sym (messages ∙ same)) s.messages_agree;
    }

step_of_maintenance : (old new : SharedState) → new.tenants ≡ old.tenants → Agree old.messages new.messages (pins_in old) (lasts_in old) → SharedStep old Maintenance None new
unfolding moved reply_to
step_of_maintenance old new tenants agree = record { has_index = tt; reply_is = refl; tenants_are = tenants; messages_agree = agree }

pub steps_by_parts_law : StepsByParts
steps_by_parts_law = record { of_call = step_of_call; of_maintenance = step_of_maintenance }

own_stays : (state : SharedState) (tenant : ℕ) → moved_tenant (state.tenants tenant) (view state tenant) ≡ state.tenants tenant
unfolding view
own_stays state tenant = let own : TenantState = state.tenants tenant in λ i. record {
  last = own.last;
  snapshots = numbers_stay state.messages tenant own i;
  next = own.next;
  quota = own.quota;
  commands = own.commands;
  refusals = own.refusals;
}

-- a call that leaves its caller's store is a step that changes nothing
pub call_of_nothing : (state : SharedState) (tenant : ℕ) (event : OwnEvent) (told : Option Reply) → IsSound state → IsIndex tenant
    → ◌≡◌ {A = Store × Option Reply} (step (view state tenant) event) (view state tenant, told) → SharedStep state (Call tenant event) told state
call_of_nothing state tenant event told sound index same =
    subst (λ r. SharedStep state (Call tenant event) r state) (ap (λ (p : Store × Option Reply). p.1) same)
    (step_of_call state state tenant event [] sound index
    (ap (with_all state.messages) (sym (ap (λ (p : Store × Option Reply). changes tenant (suc (lasts_in state tenant)) (view state tenant).rows p.0.rows) same ∙ changes-none tenant (suc (lasts_in state tenant)) (view state tenant).rows)))
    refl
    ((λ i u. sym (with_same u) i) ∙ ap (λ (p : Store × Option Reply). with_tenant state.tenants tenant (moved_tenant (state.tenants tenant) p.0)) (sym same)))
  where
    with_same : (u : ℕ) → with_tenant state.tenants tenant (moved_tenant (state.tenants tenant) (view state tenant)) u ≡ state.tenants u
    with_same u = ⊎_elim
        (λ (e : u ≡ tenant). cond-true (eqb u tenant) _ _ (eq-eqb u tenant e) ∙ own_stays state tenant ∙ ap state.tenants (sym e))
        (λ (ne : u ≢ tenant). with_other state.tenants tenant u (moved_tenant (state.tenants tenant) (view state tenant)) ne)
        (cases_eq u tenant)

-- ---- a call after messages gave way

lasts_after : (state : SharedState) (tenant : ℕ) (event : OwnEvent) (t : ℕ) → lasts_in (moved state (Call tenant event)) t ≡ with_bound (lasts_in state) tenant (next_store state tenant event).last t
unfolding moved
lasts_after state tenant event t =
    let own : TenantState = moved_tenant (state.tenants tenant) (next_store state tenant event) in
    elim (eqb t tenant) as (λ b. (cond b own (state.tenants t)).last ≡ cond b (next_store state tenant event).last (lasts_in state t)) [
      | true ↦ refl
      | false ↦ refl
    ]

-- the bound stays where it is given again
bound_stays : (bound : ℕ → ℕ) (tenant t : ℕ) → with_bound bound tenant (bound tenant) t ≡ bound t
bound_stays bound tenant t = ⊎_elim
    (λ (e : t ≡ tenant). cond-true (eqb t tenant) _ _ (eq-eqb t tenant e) ∙ ap bound (sym e))
    (λ (ne : t ≢ tenant). cond-false (eqb t tenant) _ _ (ne_eqb t tenant ne))
    (cases_eq t tenant)

-- sets that agree do so after the same call
same_call_agrees : (old : SharedState) (m : Messages) (tenant : ℕ) (event : OwnEvent) → IsSound old → IsIndex tenant → Agree old.messages m (pins_in old) (lasts_in old)
    → let ms = changes tenant (suc (lasts_in old tenant)) (view old tenant).rows (next_store old tenant event).rows in
    Agree (with_all old.messages ms) (with_all m ms) (pins_in old) (with_bound (lasts_in old) tenant (next_store old tenant event).last)
unfolding view
same_call_agrees old m tenant event sound index agree = ⊎_elim
    (λ (k : KeepsRows (view old tenant) (next_store old tenant event)).
    let none : changes tenant (suc (lasts_in old tenant)) (view old tenant).rows (next_store old tenant event).rows ≡ [] =
    ap (changes tenant (suc (lasts_in old tenant)) (view old tenant).rows) k.1 ∙ changes-none tenant (suc (lasts_in old tenant)) (view old tenant).rows in
    let bound : (t : ℕ) → lasts_in old t ≡ with_bound (lasts_in old) tenant (next_store old tenant event).last t = λ t.
    sym (ap (λ n. with_bound (lasts_in old) tenant n t) k.0 ∙ bound_stays (lasts_in old) tenant t) in
    subst (λ ms. Agree (with_all old.messages ms) (with_all m ms) (pins_in old) (with_bound (lasts_in old) tenant (next_store old tenant event).last)) (sym none)
    (subst (λ (b : ℕ → ℕ). Agree old.messages m (pins_in old) b) (λ i t. bound t i) agree))
    (λ (w : WritesRows (view old tenant) (next_store old tenant event)).
    subst (λ n. Agree (with_all old.messages (changes tenant (suc (lasts_in old tenant)) (view old tenant).rows (next_store old tenant event).rows)) (with_all m (changes tenant (suc (lasts_in old tenant)) (view old tenant).rows (next_store old tenant event).rows)) (pins_in old) (with_bound (lasts_in old) tenant n)) (sym w.0)
    (call_agrees_law old.messages m (pins_in old) (lasts_in old) tenant (changes tenant (suc (lasts_in old tenant)) (view old tenant).rows (next_store old tenant event).rows)
    (changes_call tenant (suc (lasts_in old tenant)) (view old tenant).rows (next_store old tenant event).rows index) sound.pins_below agree))
    (writes old tenant event sound).rows_move

-- more pins agree where each is one of the pins before, or at the bound or above it
agree_more : (l m : Messages) (pins more : TenantPins) (bound : TenantBounds) → ((t p : ℕ) → Contains (more t) p → (bound t ≤ p) ⊎ Contains (pins t) p) → Agree l m pins bound → Agree l m more bound
agree_more l m pins more bound known agree key = record {
  at_pins = λ p c. ⊎_elim
      (λ (h : bound (tenant_of key) ≤ p). (agree key).from_bound p h)
      (λ (h : Contains (pins (tenant_of key)) p). (agree key).at_pins p h)
      (known (tenant_of key) p c);
  from_bound = (agree key).from_bound;
  left_below = (agree key).left_below;
  right_below = (agree key).right_below;
}

call_pins : (state : SharedState) (tenant : ℕ) (event : OwnEvent) (t p : ℕ) → Contains (pins_in (moved state (Call tenant event)) t) p → Contains (pins_in (after_call state tenant (next_store state tenant event)) t) p
unfolding moved
call_pins state tenant event t p c = c

-- where snapshots stay, so do the pins
kept_pins : (state : SharedState) (tenant : ℕ) (event : OwnEvent) (t p : ℕ) → KeepsSnapshots (view state tenant) (next_store state tenant event) → Contains (pins_in (moved state (Call tenant event)) t) p → Contains (pins_in state t) p
unfolding moved
kept_pins state tenant event t p k c =
    let own : TenantState = moved_tenant (state.tenants tenant) (next_store state tenant event) in
    ⊎_elim
    (λ (e : t ≡ tenant).
    let is : with_tenant state.tenants tenant own t ≡ own = cond-true (eqb t tenant) _ _ (eq-eqb t tenant e) in
    subst (λ x. Contains (pins_in state x) p) (sym e)
    (subst (λ (ids : FinMap nat_cmp ℕ). Contains (finite.values ids) p) (snapshots_kept state tenant (next_store state tenant event) k) (subst (λ (x : TenantState). Contains (finite.values x.snapshots) p) is c)))
    (λ (ne : t ≢ tenant). subst (λ (x : TenantState). Contains (finite.values x.snapshots) p) (with_other state.tenants tenant t own ne) c)
    (cases_eq t tenant)

-- a new pin after a call that wrote nothing is at the bound
pins_known : (old : SharedState) (tenant : ℕ) (event : OwnEvent) → IsSound old → (t p : ℕ) → Contains (pins_in (moved old (Call tenant event)) t) p → (with_bound (lasts_in old) tenant (next_store old tenant event).last t ≤ p) ⊎ Contains (pins_in old t) p
unfolding view
pins_known old tenant event sound t p c = ⊎_elim
    (λ (k : KeepsSnapshots (view old tenant) (next_store old tenant event)). inr (kept_pins old tenant event t p k c))
    (λ (moves : MovesSnapshots (view old tenant) (next_store old tenant event)). ⊎_elim
    (λ (h : (t ≡ tenant) × (p ≡ lasts_in old tenant)).
    let same : with_bound (lasts_in old) tenant (next_store old tenant event).last t ≡ (next_store old tenant event).last = cond-true (eqb t tenant) _ _ (eq-eqb t tenant h.0) in
    let last = moves.rows.0 in
    let at_last = h.1 in
    inl (omega arith))
    (λ (h : Contains (pins_in old t) p). inr h)
    (pins_after old tenant (next_store old tenant event) t p (call_pins old tenant event t p c)))
    (writes old tenant event sound).snapshots_move

pub steps_after_maintenance_law : StepsAfterMaintenance
unfolding moved reply_to
steps_after_maintenance_law old mid new tenant event told sound gave call =
    let shown : view mid tenant ≡ view old tenant = other_views_stay_law old mid Maintenance None tenant call.has_index tt gave in
    let tenants : mid.tenants ≡ old.tenants = gave.tenants_are in
    let same : (moved mid (Call tenant event)).tenants ≡ (moved old (Call tenant event)).tenants =
    λ i. with_tenant (tenants i) tenant (moved_tenant (tenants i tenant) (step (shown i) event).0) in
    let messages : (moved mid (Call tenant event)).messages
    ≡ with_all mid.messages (changes tenant (suc (lasts_in old tenant)) (view old tenant).rows (next_store old tenant event).rows) =
    λ i. with_all mid.messages (changes tenant (suc (tenants i tenant).last) (shown i).rows (step (shown i) event).0.rows) in
    let lasts : with_bound (lasts_in old) tenant (next_store old tenant event).last ≡ lasts_in (moved old (Call tenant event)) = sym (λ i t. lasts_after old tenant event t i) in
    let first : Agree (moved old (Call tenant event)).messages (moved mid (Call tenant event)).messages (pins_in (moved old (Call tenant event))) (lasts_in (moved old (Call tenant event))) =
    subst (λ (x : Messages). Agree (moved old (Call tenant event)).messages x (pins_in (moved old (Call tenant event))) (lasts_in (moved old (Call tenant event)))) (sym messages)
    (subst (λ (b : ℕ → ℕ). Agree (moved old (Call tenant event)).messages (with_all mid.messages (changes tenant (suc (lasts_in old tenant)) (view old tenant).rows (next_store old tenant event).rows)) (pins_in (moved old (Call tenant event))) b) lasts
    (agree_more (moved old (Call tenant event)).messages (with_all mid.messages (changes tenant (suc (lasts_in old tenant)) (view old tenant).rows (next_store old tenant event).rows)) (pins_in old) (pins_in (moved old (Call tenant event))) (with_bound (lasts_in old) tenant (next_store old tenant event).last) (pins_known old tenant event sound)
    (same_call_agrees old mid.messages tenant event sound call.has_index gave.messages_agree))) in
    let second : Agree (moved mid (Call tenant event)).messages new.messages (pins_in (moved old (Call tenant event))) (lasts_in (moved old (Call tenant event))) =
    subst (λ (ts : ℕ → TenantState). Agree (moved mid (Call tenant event)).messages new.messages (λ t. finite.values (ts t).snapshots) (λ t. (ts t).last)) same call.messages_agree in
    record {
      has_index = call.has_index;
      reply_is = call.reply_is ∙ ap (λ (s : Store). (step s event).1) shown;
      tenants_are = call.tenants_are ∙ same;
      messages_agree = agreement_chains_law (moved old (Call tenant event)).messages (moved mid (Call tenant event)).messages new.messages (pins_in (moved old (Call tenant event))) (lasts_in (moved old (Call tenant event))) first second;
    }

-- ---- runs

pub new_view : (quotas : ℕ → ℕ) (tenant : ℕ) → view (new_state quotas) tenant ≡ empty_store (quotas tenant)
unfolding view
new_view quotas tenant = λ i. record {
  rows = no_rows i;
  last = 0;
  snapshots = copies finite.empty tenant (entries-empty i);
  next = 1;
  quota = quotas tenant;
  commands = 0;
  refusals = 0;
}
  where
    no_rows : rows_at finite.empty tenant 0 ≡ finite.empty
    no_rows = same_rows _ _ (λ q.
        rows_by_value_law finite.empty tenant 0 q
        ∙ ap version_of (latest_none (ops_of finite.empty (packed tenant q)) 0 (λ k l. nothing_in quotas (packed tenant q) k))
        ∙ sym (finite.get-empty _ q))

pub run_sound : (quotas : ℕ → ℕ) (steps : List ToldEvent) (last : SharedState) → SharedRun (new_state quotas) steps last → IsSound last
run_sound quotas [] last e = subst IsSound (sym e) (new_sound quotas)
run_sound quotas (newest ∷ earlier) last run = step_sound run.0 last newest.0 newest.1 (run_sound quotas earlier run.0 run.1) run.2

-- the tenant's store and replies are those of its own run
abbrev IsAlone : ℕ → List OwnEvent → List Reply → Store → Type 0
IsAlone quota line replies store = (store ≡ store_after quota line) × (replies ≡ replies_after quota line)

alone_step : (old new : SharedState) (event : SharedEvent) (told : Option Reply) (tenant quota : ℕ) (line : List OwnEvent) (replies : List Reply) → IsIndex tenant → IsSound old → SharedStep old event told new → IsAlone quota line replies (view old tenant) → IsAlone quota (line_with tenant event line) (replies_with tenant event told replies) (view new tenant)
unfolding store_after replies_after
alone_step old new Maintenance told tenant quota line replies index sound s is = (other_views_stay_law old new Maintenance told tenant index tt s ∙ is.0, is.1)
alone_step old new (Call caller event) told tenant quota line replies index sound s is = ⊎_elim
    (λ (e : caller ≡ tenant).
    let t : eqb caller tenant ≡ true = eq-eqb caller tenant e in
    let own = call_is_own_step_law old new tenant event told sound (subst (λ c. SharedStep old (Call c event) told new) e s) in
    let both : ◌≡◌ {A = Store × Option Reply} (view new tenant, told) (step (store_after quota line) event) = own ∙ ap (λ (x : Store). step x event) is.0 in
    subst (λ b. IsAlone quota (cond b (event ∷ line) line) (cond b (with_reply told replies) replies) (view new tenant)) (sym t)
    (ap (λ (x : Store × Option Reply). x.0) both, (λ i. with_reply (both i).1 (is.1 i))))
    (λ (ne : caller ≢ tenant).
    subst (λ b. IsAlone quota (cond b (event ∷ line) line) (cond b (with_reply told replies) replies) (view new tenant)) (sym (ne_eqb caller tenant ne))
    (other_views_stay_law old new (Call caller event) told tenant index (λ e. ne (sym e)) s ∙ is.0, is.1))
    (cases_eq caller tenant)

pub runs_alone_law : RunsAlone
unfolding store_after replies_after
runs_alone_law quotas [] last tenant index e = (ap (λ (x : SharedState). view x tenant) e ∙ new_view quotas tenant, refl)
runs_alone_law quotas (newest ∷ earlier) last tenant index run =
    alone_step run.0 last newest.0 newest.1 tenant (quotas tenant) (line_of tenant earlier) (replies_of tenant earlier) index
    (run_sound quotas earlier run.0 run.1) run.2 (runs_alone_law quotas earlier run.0 tenant index run.1)

pub two_shared_runs_law : TwoSharedRuns
two_shared_runs_law quotas quotas' steps steps' last last' tenant tenant' index index' quota line run run' =
    let a = runs_alone_law quotas steps last tenant index run in
    let b = runs_alone_law quotas' steps' last' tenant' index' run' in
    (a.0 ∙ (λ i. store_after (quota i) (line i)) ∙ sym b.0, a.1 ∙ (λ i. replies_after (quota i) (line i)) ∙ sym b.1)

-- messages that give way twice do so once
pub maintenance_chains : (a b c : SharedState) → SharedStep a Maintenance None b → SharedStep b Maintenance None c → SharedStep a Maintenance None c
unfolding moved reply_to
maintenance_chains a b c first second = record {
  has_index = tt;
  reply_is = refl;
  tenants_are = second.tenants_are ∙ first.tenants_are;
  messages_agree = agreement_chains_law a.messages b.messages c.messages (pins_in a) (lasts_in a) first.messages_agree
      (subst (λ (ts : ℕ → TenantState). Agree b.messages c.messages (λ t. finite.values (ts t).snapshots) (λ t. (ts t).last)) first.tenants_are second.messages_agree);
}
