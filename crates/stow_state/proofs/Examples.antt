-- The definitions at examples.
use Rattle.std.proofs.Common.{◌≡◌, ◌≢◌, ℕ, ◌<◌, Bool, true, false, List, [], ◌∷◌, ◌++◌, Some, None, is_some, refl, ap, ◌∙◌, sym, subst, arith, ⊎_elim, inl, inr, cond, nat_lt}
use Rattle.std.specs.Prelude.{map, filter, not, if◌then◌else◌, ◌==◌, ◌&&◌, codes, IfSome, Option, sum_by}
use Rattle.std.specs.List.{flat_map}
use Rattle.std.specs.Ordering.{nat_cmp, eq_by_cmp}
use Rattle.std.specs.Option.{unwrap_or}
use Rattle.std.specs.Cmp.{nat_cmp_total}
use Rattle.std.specs.Cmp.Lexicographic.{nat_list_cmp_total}
use Rattle.std.specs.FinMap as finite
use Rattle.std.specs.FinMap.{find, put}
use Rattle.std.specs.List.{AllByRecursion}
use Rattle.std.specs.List.Sorted.{IsStrictlySortedBy}
use Rattle.std.proofs.lemmas.Bool.{cond-false}
use Rattle.stow_model.specs.StowBytes.Bytes.{bytes_cmp}
use Rattle.stow_model.specs.Command.{reading}
use Rattle.stow_model.specs.declared.refusal.Refusal.TheVariants as refusal
use Rattle.stow_model.specs.declared.simple_string.SimpleString.TheVariants as simple
use Rattle.stow_model.specs.Reply.{Reply}
use Rattle.stow_model.specs.Reply as reply
use Rattle.stow_model.specs.Store.{Store, Answer, Rows, Version, cost, distinct, charge, empty_store, counted, refused, step, answer, answer_with, outcome}
use Rattle.stow_tree_model.specs.Keys.{packed, own_key, tenant_of}
use Rattle.stow_tree_model.specs.Op.{Put, Gone}
use Rattle.stow_tree_model.specs.TreeMessage.{TreeMessage}
use Rattle.stow_tree_model.specs.Order.{VersionPlace, place_cmp}
use Rattle.stow_tree_model.specs.Operations.{latest, or_else}
use Rattle.stow_tree_model.specs.Messages.{ops_of, ops_in, set_of}
use Rattle.stow_tree_model.specs.Agreement.{Agree}
use Rattle.stow_tree_model.specs.Merged.{same_key}
use Rattle.stow_tree_model.specs.Examples.{pins_at, bound_two, two_writes, last_write}
use Rattle.stow_tree_model.proofs.Orders.{key_cases}
use Rattle.stow_tree_model.proofs.Packed.{own_key-packed}
use Rattle.stow_tree_model.proofs.Latest.{latest_same}
use Rattle.stow_tree_model.proofs.Histories.{ops_in-skip, latest_none}
use Rattle.stow_tree_model.proofs.SetLemmas.{ops-with_all}
use Rattle.stow_tree_model.proofs.Zipped.{or_none}
use Rattle.stow_tree_model.proofs.Examples as tree
use Rattle.stow_state.specs.Rows.{version_of, rows_at}
use Rattle.stow_state.specs.Changes.{is_same_row, op_to, changes, AreWritten}
use Rattle.stow_state.specs.State.{TenantState, SharedState, copies, view, pins_in, lasts_in, IsSound}
use Rattle.stow_state.specs.Steps.{Call, Maintenance, moved, reply_to, SharedStep, KeepsRows, WritesRows}
use Rattle.stow_state.specs.Examples.{version, one_row, message, three_messages, of_two_tenants, OfRows, two_rows, other_row, OfChanges, OfSnapshots, with_snapshot, written_tenant, of_two_writers, OfViews, set_a, no_writes, told_ok, with_messages_and_snapshot, OfSteps, store_of_one, OfWrites, Examples}
use Rattle.stow_state.proofs.Rows.{rows_by_value_law, same_rows}
use Rattle.stow_state.proofs.Changes.{changes-none, writes_are_written_law}
use Rattle.stow_state.proofs.Snapshots.{get-numbers_of, no_entries, entries-empty}
use Rattle.stow_state.proofs.Steps.{new_sound, step_sound, step_is_there_law, new_view}

-- ---- rows

ops-set_of : (ms : List TreeMessage) (key : List ℕ) (n : ℕ) → ops_of (set_of ms) key n ≡ ops_in ms key n
ops-set_of ms key n = ops-with_all finite.empty ms key n ∙ ap (or_else (ops_in ms key n)) (finite.get-empty place_cmp (key, n)) ∙ or_none (ops_in ms key n)

-- all messages are for keys named `a`
abbrev AllOfA : List TreeMessage → Type 0
AllOfA ms = AllByRecursion (λ m. own_key m.key ≡ codes "a") ms

none_else : (ms : List TreeMessage) (tenant : ℕ) (q : List ℕ) (n : ℕ) → AllOfA ms → q ≢ codes "a" → ops_in ms (packed tenant q) n ≡ None
none_else [] tenant q n all ne = refl
none_else (m ∷ ms) tenant q n all ne =
    ops_in-skip m ms (packed tenant q) n (λ e. ne (sym (own_key-packed tenant q) ∙ ap (λ (p : VersionPlace). own_key p.0) e ∙ all.0))
    ∙ none_else ms tenant q n all.1 ne

-- rows are known by `a`
rows_known : (ms : List TreeMessage) (tenant n : ℕ) (rows : Rows) → AllOfA ms → version_of (latest (ops_in ms (packed tenant (codes "a"))) n) ≡ finite.get rows (codes "a")
    → ((q : List ℕ) → q ≢ codes "a" → finite.get rows q ≡ None) → rows_at (set_of ms) tenant n ≡ rows
rows_known ms tenant n rows all at_a others = same_rows _ _ (λ q.
    rows_by_value_law (set_of ms) tenant n q
    ∙ ap version_of (latest_same (ops_of (set_of ms) (packed tenant q)) (ops_in ms (packed tenant q)) n (λ k l. ops-set_of ms (packed tenant q) k))
    ∙ ⊎_elim
    (λ (h : (q ≡ codes "a") × (same_key q (codes "a") ≡ true)). subst (λ k. version_of (latest (ops_in ms (packed tenant k)) n) ≡ finite.get rows k) (sym h.0) at_a)
    (λ (h : (q ≢ codes "a") × (same_key q (codes "a") ≡ false)). ap version_of (latest_none (ops_in ms (packed tenant q)) n (λ k l. none_else ms tenant q k all h.0)) ∙ sym (others q h.0))
    (key_cases q (codes "a")))

one_known : (ms : List TreeMessage) (tenant n : ℕ) (v : Version) → AllOfA ms → version_of (latest (ops_in ms (packed tenant (codes "a"))) n) ≡ Some v → rows_at (set_of ms) tenant n ≡ one_row v
one_known ms tenant n v all e = rows_known ms tenant n (one_row v) all
    (e ∙ sym (finite.get-insert nat_list_cmp_total finite.empty (codes "a") v (codes "a")))
    (λ q ne. finite.get-insert nat_list_cmp_total finite.empty (codes "a") v q
    ∙ ⊎_elim
    (λ (h : (q ≡ codes "a") × (same_key q (codes "a") ≡ true)). absurd (ne h.0))
    (λ (h : (q ≢ codes "a") × (same_key q (codes "a") ≡ false)). cond-false _ _ _ h.1 ∙ finite.get-empty bytes_cmp q)
    (key_cases q (codes "a")))

first_row : rows_at of_two_tenants 1 1 ≡ one_row (version 1 (codes "x"))
unfolding latest
first_row = one_known three_messages 1 1 (version 1 (codes "x")) (refl, (refl, (refl, tt))) refl

second_row : rows_at of_two_tenants 1 2 ≡ one_row (version 2 (codes "xy"))
unfolding latest
second_row = one_known three_messages 1 2 (version 2 (codes "xy")) (refl, (refl, (refl, tt))) refl

of_rows : OfRows
unfolding latest IsStrictlySortedBy
of_rows = record {
  own = refl;
  not_own = refl;
  before = rows_known three_messages 1 0 finite.empty (refl, (refl, (refl, tt))) (sym (finite.get-empty bytes_cmp (codes "a"))) (λ q ne. finite.get-empty bytes_cmp q);
  first = first_row;
  second = second_row;
  other = one_known three_messages 2 2 (version 1 (codes "z")) (refl, (refl, (refl, tt))) refl;
  rising = ((refl, tt), (tt, tt));
  not_rising = λ h. let e = h.0.0 in cc;
  index = omega arith;
  not_index = λ l. absurd (omega arith);
}

-- ---- changes

abbrev Entries : Type 0
Entries = List (List ℕ × Version)

two_entries : Entries
two_entries = (codes "a", version 1 (codes "x")) ∷ (codes "b", version 1 (codes "x")) ∷ []

one_entry : ℕ → Entries
one_entry n = (codes "a", version n (codes "y")) ∷ []

get-two : (key : List ℕ) → finite.get two_rows key ≡ find bytes_cmp key two_entries
unfolding two_entries
get-two key = finite.get-from_sorted bytes_cmp two_entries key tt

get-other : (n : ℕ) (key : List ℕ) → finite.get (other_row n) key ≡ find bytes_cmp key (one_entry n)
unfolding one_entry
get-other n key = finite.get-from_sorted bytes_cmp (one_entry n) key tt

put_and_gone : changes 1 2 two_rows (other_row 2) ≡ message 1 2 (Put (codes "y")) ∷ record { key = packed 1 (codes "b"); number = 2; op = Gone } ∷ []
unfolding changes two_entries one_entry
put_and_gone = λ i.
    map (λ (key : List ℕ). record { key = packed 1 key; number = 2; op = op_to (get-other 2 key i) })
    (filter (λ key. not (is_same_row (get-two key i) (get-other 2 key i)))
    (map (λ (e : List ℕ × Version). e.0) (finite.entries-from_sorted bytes_cmp two_entries tt i)
    ++ filter (λ key. not (is_some (get-two key i))) (map (λ (e : List ℕ × Version). e.0) (finite.entries-from_sorted bytes_cmp (one_entry 2) tt i))))

has_number : (b : Bool) (v : Version) → IfSome (cond b (Some v) None) (λ w. w.number ≡ v.number)
has_number true v = refl
has_number false v = tt

is_below : (b : Bool) (v : Version) (n : ℕ) → v.number < n → IfSome (cond b (Some v) None) (λ w. w.number < n)
is_below true v n l = l
is_below false v n l = tt

not_written : AreWritten 2 two_rows (other_row 1) → ⊥
unfolding two_entries one_entry
not_written h = ⊎_elim
    (λ (e : finite.get (other_row 1) (codes "a") ≡ finite.get two_rows (codes "a")).
    let z : false ≡ true = ap (is_same_row (Some (version 1 (codes "x")))) (sym (get-other 1 (codes "a")) ∙ e ∙ get-two (codes "a")) in cc)
    (λ (k : IfSome (finite.get (other_row 1) (codes "a")) (λ v. v.number ≡ 2)).
    let e : 1 ≡ 2 = subst (λ o. IfSome o (λ v. v.number ≡ 2)) (get-other 1 (codes "a")) k in absurd (omega arith))
    (h (codes "a"))

of_changes : OfChanges
unfolding two_entries one_entry tenant_of
of_changes = record {
  put_and_gone = put_and_gone;
  nothing = changes-none 1 2 two_rows;
  same = refl;
  other_number = refl;
  other_value = refl;
  none_between = refl;
  own = ((refl, refl), tt);
  not_own = λ h. let e : 1 ≡ 2 = ap tenant_of h.0.0 in absurd (omega arith);
  below = λ key. subst (λ o. IfSome o (λ v. v.number < 2)) (sym (get-other 1 key)) (is_below (same_key key (codes "a")) (version 1 (codes "y")) 2 (omega arith));
  not_below = λ h. let l : 1 < 1 = subst (λ o. IfSome o (λ v. v.number < 1)) (get-other 1 (codes "a")) (h (codes "a")) in absurd (omega arith);
  written = λ key. inr (subst (λ o. IfSome o (λ v. v.number ≡ 2)) (sym (get-other 2 key)) (has_number (same_key key (codes "a")) (version 2 (codes "y"))));
  not_written = not_written;
}

-- ---- views

one_snapshot : (n : ℕ) → finite.entries (finite.insert (finite.empty {X = ℕ} {R = nat_cmp}) 1 n) ≡ (1, n) ∷ []
one_snapshot n = finite.entries-insert nat_cmp_total finite.empty 1 n ∙ ap (put nat_cmp 1 n) entries-empty

had_one : (id : ℕ) → finite.get (finite.insert (finite.empty {X = ℕ} {R = nat_cmp}) 1 1) id ≡ cond (eq_by_cmp nat_cmp id 1) (Some 1) None
had_one id = finite.get-insert nat_cmp_total finite.empty 1 1 id ∙ ap (cond (eq_by_cmp nat_cmp id 1) (Some 1)) (finite.get-empty nat_cmp id)

of_snapshots : OfSnapshots
of_snapshots =
    let own : TenantState = with_snapshot 1 (written_tenant 2) in
    record {
      kept = get-numbers_of own (1 ∷ 2 ∷ []) 1 ∙ ap (λ o. Some (unwrap_or o 2)) (had_one 1);
      taken = get-numbers_of own (1 ∷ 2 ∷ []) 2 ∙ ap (λ o. Some (unwrap_or o 2)) (had_one 2);
      dropped = get-numbers_of own (2 ∷ []) 1;
    }

first_view : view of_two_writers 1 ≡ record (empty_store 9) {
  rows = one_row (version 2 (codes "xy"));
  last = 2;
  snapshots = finite.insert finite.empty 1 (one_row (version 1 (codes "x")));
  next = 2;
}
unfolding view
first_view = λ i. record {
  rows = second_row i;
  last = 2;
  snapshots = (ap (copies of_two_tenants 1) (one_snapshot 1) ∙ ap (finite.insert finite.empty 1) first_row) i;
  next = 2;
  quota = 9;
  commands = 0;
  refusals = 0;
}

of_views : OfViews
of_views = record {
  first = first_view;
  nobody = new_view (λ tenant. 9) 1;
  sound = new_sound (λ tenant. 9);
  not_sound = λ h.
      let z : Some Gone ≡ None = sym (ops-set_of (message 1 1 Gone ∷ []) (packed 1 (codes "a")) 1) ∙ h.messages_below (packed 1 (codes "a")) 1 (omega arith) in cc;
}

-- ---- steps

before_set : Store
before_set = counted (empty_store 18)

after_set : Store
after_set = record (counted (empty_store 18)) { rows = one_row (version 1 (codes "x")); last = 1 }

charge_of_one : charge after_set ≡ 18
unfolding charge after_set
charge_of_one = λ i. sum_by cost (distinct (row i ++ flat_map finite.entries (map (λ (e : ℕ × Rows). e.1) (no_entries nat_cmp Rows i))))
  where
    row : finite.entries (one_row (version 1 (codes "x"))) ≡ (codes "a", version 1 (codes "x")) ∷ []
    row = finite.entries-insert nat_list_cmp_total finite.empty (codes "a") (version 1 (codes "x")) ∙ ap (put bytes_cmp (codes "a") (version 1 (codes "x"))) (no_entries bytes_cmp Version)

first_step : ◌≡◌ {A = Store × Option Reply} (step (empty_store 18) set_a) (after_set, told_ok)
unfolding answer answer_with outcome reading after_set before_set
first_step = ap (λ c. let a : Answer = if nat_lt 18 c && nat_lt (charge before_set) c then refused (record before_set { refusals = 1 }) refusal.QuotaExceeded else (after_set, reply.Simple simple.Ok) in (a.0, Some a.1)) charge_of_one

ok_reply : reply_to no_writes (Call 1 set_a) ≡ told_ok
unfolding reply_to
ok_reply = ap (λ (s : Store). (step s set_a).1) (new_view (λ tenant. 18) 1) ∙ ap (λ (p : Store × Option Reply). p.1) first_step

one_last : ((moved no_writes (Call 1 set_a)).tenants 1).last ≡ 1
unfolding moved after_set
one_last = ap (λ (s : Store). (step s set_a).0.last) (new_view (λ tenant. 18) 1) ∙ ap (λ (p : Store × Option Reply). p.0.last) first_step

the_call : SharedStep no_writes (Call 1 set_a) told_ok (moved no_writes (Call 1 set_a))
the_call = subst (λ r. SharedStep no_writes (Call 1 set_a) r (moved no_writes (Call 1 set_a))) ok_reply (step_is_there_law no_writes (Call 1 set_a) (new_sound (λ tenant. 18)) (omega arith))

sound_after : IsSound (moved no_writes (Call 1 set_a))
sound_after = step_sound no_writes (moved no_writes (Call 1 set_a)) (Call 1 set_a) told_ok (new_sound (λ tenant. 18)) the_call

idle : (state : SharedState) → IsSound state → SharedStep state Maintenance None state
unfolding moved reply_to
idle state sound = step_is_there_law state Maintenance sound tt

pins_known : (t : ℕ) → pins_in (with_messages_and_snapshot two_writes) t ≡ pins_at 1 (1 ∷ []) t
pins_known t = elim (t == 1) as (λ b. map (λ (e : ℕ × ℕ). e.1) (finite.entries (if b then with_snapshot 1 (written_tenant 2) else written_tenant 2).snapshots) ≡ (if b then 1 ∷ [] else [])) [
  | true ↦ ap (map (λ (e : ℕ × ℕ). e.1)) (one_snapshot 1)
  | false ↦ ap (map (λ (e : ℕ × ℕ). e.1)) entries-empty
]

lasts_known : (t : ℕ) → lasts_in (with_messages_and_snapshot two_writes) t ≡ bound_two t
lasts_known t = elim (t == 1) as (λ b. (if b then with_snapshot 1 (written_tenant 2) else written_tenant 2).last ≡ 2) [
  | true ↦ refl
  | false ↦ refl
]

not_folded : SharedStep (with_messages_and_snapshot two_writes) Maintenance None (with_messages_and_snapshot last_write) → ⊥
unfolding moved
not_folded s = tree.examples_law.2.not_same
    (subst (λ (ps : ℕ → List ℕ). Agree two_writes last_write ps bound_two) (λ i t. pins_known t i)
    (subst (λ (bs : ℕ → ℕ). Agree two_writes last_write (pins_in (with_messages_and_snapshot two_writes)) bs) (λ i t. lasts_known t i) s.messages_agree))

of_steps : OfSteps
unfolding moved reply_to
of_steps = record {
  call = the_call;
  not_told = λ s. let z : None ≡ told_ok = s.reply_is ∙ ok_reply in cc;
  not_written = λ s. let e : 0 ≡ 1 = ap (λ (ts : ℕ → TenantState). (ts 1).last) s.tenants_are ∙ one_last in absurd (omega arith);
  folded = record {
    has_index = tt;
    reply_is = refl;
    tenants_are = refl;
    messages_agree = subst (λ (es : List (ℕ × ℕ)). Agree two_writes last_write (λ t. map (λ e. e.1) es) bound_two) (sym entries-empty) tree.examples_law.2.same;
  };
  not_folded = not_folded;
  run = (moved no_writes (Call 1 set_a), (no_writes, refl, the_call), idle (moved no_writes (Call 1 set_a)) sound_after);
  not_run = λ r.
      let e : 0 ≡ 1 = ap (λ (ts : ℕ → TenantState). (ts 1).last) r.2.tenants_are
      ∙ ap (λ (ts : ℕ → TenantState). (ts 1).last) r.1.2.tenants_are
      ∙ ap (λ (x : SharedState). ((moved x (Call 1 set_a)).tenants 1).last) r.1.1
      ∙ one_last in absurd (omega arith);
  own_line = refl;
  own_replies = refl;
  other_line = refl;
  other_replies = refl;
  index = omega arith;
  not_index = λ l. absurd (omega arith);
  elsewhere = λ e. absurd (omega arith);
  not_elsewhere = λ ne. ne refl;
}

of_writes : OfWrites
of_writes = record {
  once = record { rows_move = inr (refl, writes_are_written_law.of_one finite.empty (codes "a") (codes "x") 1); snapshots_move = inl refl; ids_below = λ id l. finite.get-empty nat_cmp id };
  not_twice = λ w. ⊎_elim (λ (k : KeepsRows (empty_store 9) (store_of_one 2)). let e = k.0 in absurd (omega arith)) (λ (k : WritesRows (empty_store 9) (store_of_one 2)). let e = k.0 in absurd (omega arith)) w.rows_move;
  writes = (refl, writes_are_written_law.of_one finite.empty (codes "a") (codes "x") 1);
  not_writes = λ k. let e = k.0 in absurd (omega arith);
  keeps = (refl, refl);
  not_keeps = λ k. let e = k.0 in absurd (omega arith);
}

pub examples_law : Examples
examples_law = (of_rows, of_changes, of_snapshots, of_views, of_steps, of_writes)
