-- What a tenant's own step writes.
use Rattle.std.proofs.Common.{◌≡◌, ℕ, ℤ, suc, ◌+◌, true, false, nat_lt, List, Option, Some, None, eqb, refl, ap, ◌∙◌, sym, subst, arith, ⊎_elim, ◌⊎◌, cond, inl, inr, pos, negsuc}
use Rattle.std.specs.Prelude.{if◌then◌else◌, ◌-◌}
use Rattle.std.specs.Ordering.{nat_cmp, eq_by_cmp}
use Rattle.std.specs.Cmp.{nat_cmp_total}
use Rattle.std.specs.FinMap.{FinMap}
use Rattle.std.specs.FinMap as finite
use Rattle.std.proofs.lemmas.Bool.{cond-true, cond-false}
use Rattle.stow_model.specs.StowBytes.Limits.{number_limit}
use Rattle.stow_model.specs.declared.refusal.Refusal.TheVariants as refusal
use Rattle.stow_model.specs.Reply.{Reply}
use Rattle.stow_model.specs.Reply as reply
use Rattle.stow_model.specs.Command.{Command, Ping, Echo, Get, GetMany, Exists, Length, Range, Del, TakeSnapshot, ListSnapshots, DropSnapshot, GetInSnapshot, RangeInSnapshot, ReportUsage, Change, Understood, Refused, reading}
use Rattle.stow_model.specs.Store.{Store, Rows, Answer, Outcome, Written, Unchanged, Failed, Request, Asked, GivenQuota, outcome, value_in, rows_without, refused, one_more, exceeds_quota, within_quota, can_take, take_answer, snapshot_rows, without_snapshot, drop_answer, in_snapshot, get_reply, range_reply, written, change_answer, removed_answer, served, counted, answer_to, answer, answer_with}
use Rattle.stow_state.specs.Changes.{AreWritten}
use Rattle.stow_state.specs.State.{IdsBelow}
use Rattle.stow_state.specs.Steps.{KeepsSnapshots, SnapshotMoves, MovesSnapshots, WritesOnce, OwnStepWrites}
use Rattle.stow_state.proofs.Snapshots.{id_cases}
use Rattle.stow_state.proofs.Changes.{writes_are_written_law}

ids_stay : (store after : Store) → after.snapshots ≡ store.snapshots → after.next ≡ store.next → IdsBelow store.next store.snapshots → IdsBelow after.next after.snapshots
ids_stay store after snapshots next new id l = ap (λ (c : FinMap nat_cmp Rows). finite.get c id) snapshots ∙ new id (omega arith)

unmoved : (store after : Store) → after.last ≡ store.last → after.rows ≡ store.rows → after.snapshots ≡ store.snapshots → after.next ≡ store.next → IdsBelow store.next store.snapshots → WritesOnce store after
unmoved store after last rows snapshots next new = record { rows_move = inl (last, rows); snapshots_move = inl snapshots; ids_below = ids_stay store after snapshots next new }

same_store : (store : Store) → IdsBelow store.next store.snapshots → WritesOnce store store
same_store store new = unmoved store store refl refl refl refl new

within_once : (store after : Store) (r : Reply) → IdsBelow store.next store.snapshots → WritesOnce store after → WritesOnce store (within_quota store after r).0
within_once store after r new w =
    let counted_refusal : Store = record store { refusals = one_more store.refusals } in
    let allowed : Answer = (after, r) in
    elim (exceeds_quota store after) as (λ b. WritesOnce store (if b then refused counted_refusal refusal.QuotaExceeded else allowed).0) [
      | true ↦ unmoved store counted_refusal refl refl refl refl new
      | false ↦ w
    ]

written_once : (store : Store) (rows : Rows) (r : Reply) → IdsBelow store.next store.snapshots → AreWritten (suc store.last) store.rows rows → WritesOnce store (written store rows r).0
written_once store rows r new w =
    let after : Store = record store { rows = rows; last = store.last + 1 } in
    elim (nat_lt store.last number_limit) as (λ b. WritesOnce store (if b then within_quota store after r else refused store refusal.WriteNumbersUsedUp).0) [
      | true ↦ within_once store after r new (record { rows_move = inr (omega arith, w); snapshots_move = inl refl; ids_below = new })
      | false ↦ same_store store new
    ]

change_once : (store : Store) (key : List ℕ) (o : Outcome) → IdsBelow store.next store.snapshots → WritesOnce store (change_answer store key o).0
change_once store key (Written value r) new =
    let next : suc store.last ≡ store.last + 1 = omega arith in
    written_once store (finite.insert store.rows key (record { number = store.last + 1; value = value })) r new
    (subst (λ n. AreWritten n store.rows (finite.insert store.rows key (record { number = store.last + 1; value = value }))) (sym next) (writes_are_written_law.of_one store.rows key value (store.last + 1)))
change_once store key (Unchanged r) new = same_store store new
change_once store key (Failed r) new = same_store store new

removed_once : (store : Store) (removed : ℕ) (keys : List (List ℕ)) → IdsBelow store.next store.snapshots → WritesOnce store (removed_answer store removed (rows_without keys store.rows)).0
removed_once store removed keys new =
    let none : Answer = (store, reply.Integer (pos 0)) in
    elim (eqb removed 0) as (λ b. WritesOnce store (if b then none else written store (rows_without keys store.rows) (reply.Integer (pos removed))).0) [
      | true ↦ same_store store new
      | false ↦ written_once store (rows_without keys store.rows) (reply.Integer (pos removed)) new (writes_are_written_law.of_some store.rows keys (suc store.last))
    ]

-- ---- snapshots

taken : Store → Store
taken store = record store { snapshots = finite.insert store.snapshots store.next store.rows; next = store.next + 1 }

take_moves : (store : Store) → IdsBelow store.next store.snapshots → (id : ℕ) → SnapshotMoves store.rows (finite.get store.snapshots id) (finite.get (finite.insert store.snapshots store.next store.rows) id)
take_moves store new id =
    let is : finite.get (finite.insert store.snapshots store.next store.rows) id ≡ cond (eq_by_cmp nat_cmp id store.next) (Some store.rows) (finite.get store.snapshots id) = finite.get-insert nat_cmp_total store.snapshots store.next store.rows id in
    ⊎_elim
    (λ (h : (id ≡ store.next) × (eq_by_cmp nat_cmp id store.next ≡ true)). inr (inr (new id (let e = h.0 in omega arith), is ∙ cond-true _ _ _ h.1)))
    (λ (h : eq_by_cmp nat_cmp id store.next ≡ false). inr (inl (is ∙ cond-false _ _ _ h)))
    (id_cases id store.next)

take_ids : (store : Store) → IdsBelow store.next store.snapshots → IdsBelow (store.next + 1) (finite.insert store.snapshots store.next store.rows)
take_ids store new id l =
    let is : finite.get (finite.insert store.snapshots store.next store.rows) id ≡ cond (eq_by_cmp nat_cmp id store.next) (Some store.rows) (finite.get store.snapshots id) = finite.get-insert nat_cmp_total store.snapshots store.next store.rows id in
    ⊎_elim
    (λ (h : (id ≡ store.next) × (eq_by_cmp nat_cmp id store.next ≡ true)). absurd (let e = h.0 in omega arith))
    (λ (h : eq_by_cmp nat_cmp id store.next ≡ false). is ∙ cond-false _ _ _ h ∙ new id (omega arith))
    (id_cases id store.next)

take_once : (store : Store) → IdsBelow store.next store.snapshots → WritesOnce store (take_answer store).0
unfolding taken
take_once store new =
    let answer : Answer = (taken store, reply.Integer (pos store.next)) in
    elim (can_take store) as (λ b. WritesOnce store (if b then answer else refused store refusal.TooManySnapshots).0) [
      | true ↦ record { rows_move = inl (refl, refl); snapshots_move = inr (record { rows = (refl, refl); each = take_moves store new }); ids_below = take_ids store new }
      | false ↦ same_store store new
    ]

drop_moves : (store : Store) (id q : ℕ) → SnapshotMoves store.rows (finite.get store.snapshots q) (finite.get (finite.remove store.snapshots id) q)
drop_moves store id q =
    let is : finite.get (finite.remove store.snapshots id) q ≡ cond (eq_by_cmp nat_cmp q id) None (finite.get store.snapshots q) = finite.get-remove nat_cmp_total store.snapshots id q in
    ⊎_elim
    (λ (h : (q ≡ id) × (eq_by_cmp nat_cmp q id ≡ true)). inl (is ∙ cond-true _ _ _ h.1))
    (λ (h : eq_by_cmp nat_cmp q id ≡ false). inr (inl (is ∙ cond-false _ _ _ h)))
    (id_cases q id)

drop_ids : (store : Store) (id : ℕ) → IdsBelow store.next store.snapshots → IdsBelow store.next (finite.remove store.snapshots id)
drop_ids store id new q l =
    let is : finite.get (finite.remove store.snapshots id) q ≡ cond (eq_by_cmp nat_cmp q id) None (finite.get store.snapshots q) = finite.get-remove nat_cmp_total store.snapshots id q in
    ⊎_elim
    (λ (h : (q ≡ id) × (eq_by_cmp nat_cmp q id ≡ true)). is ∙ cond-true _ _ _ h.1)
    (λ (h : eq_by_cmp nat_cmp q id ≡ false). is ∙ cond-false _ _ _ h ∙ new q l)
    (id_cases q id)

without_once : (store : Store) (id : ℤ) → IdsBelow store.next store.snapshots → WritesOnce store (without_snapshot store id)
without_once store (pos id) new = record { rows_move = inl (refl, refl); snapshots_move = inr (record { rows = (refl, refl); each = drop_moves store id }); ids_below = drop_ids store id new }
without_once store (negsuc n) new = same_store store new

drop_once : (store : Store) (id : ℤ) (rows : Option Rows) → IdsBelow store.next store.snapshots → WritesOnce store (drop_answer store id rows).0
drop_once store id None new = same_store store new
drop_once store id (Some rows) new = without_once store id new

shown_once : (store : Store) (rows : Option Rows) (told : Rows → Reply) → IdsBelow store.next store.snapshots → WritesOnce store (in_snapshot store rows told).0
shown_once store None told new = same_store store new
shown_once store (Some rows) told new = same_store store new

-- ---- requests

served_once : (store : Store) (c : Command) → IdsBelow store.next store.snapshots → WritesOnce store (served store c).0
served_once store Ping new = same_store store new
served_once store (Echo text) new = same_store store new
served_once store (Get key) new = same_store store new
served_once store (GetMany keys) new = same_store store new
served_once store (Exists keys) new = same_store store new
served_once store (Length key) new = same_store store new
served_once store (Range from to count) new = same_store store new
served_once store (Del keys) new = removed_once store (finite.len store.rows - finite.len (rows_without keys store.rows)) keys new
served_once store TakeSnapshot new = take_once store new
served_once store ListSnapshots new = same_store store new
served_once store (DropSnapshot id) new = drop_once store id (snapshot_rows store id) new
served_once store (GetInSnapshot id key) new = shown_once store (snapshot_rows store id) (get_reply key) new
served_once store (RangeInSnapshot id from to count) new = shown_once store (snapshot_rows store id) (range_reply from to count) new
served_once store ReportUsage new = same_store store new
served_once store (Change key update) new = change_once store key (outcome update (value_in (finite.get store.rows key))) new

-- counting a request changes neither rows nor snapshots
from_counted : (store after : Store) → WritesOnce (counted store) after → WritesOnce store after
from_counted store after w = record { rows_move = w.rows_move; snapshots_move = moves w.snapshots_move; ids_below = w.ids_below }
  where
    moves : (KeepsSnapshots (counted store) after ⊎ MovesSnapshots (counted store) after) → KeepsSnapshots store after ⊎ MovesSnapshots store after
    moves m = ⊎_elim
        (λ (k : KeepsSnapshots (counted store) after). inl k)
        (λ (n : MovesSnapshots (counted store) after). inr (record { rows = n.rows; each = n.each }))
        m

answer_once : (store : Store) (words : List (List ℕ)) → IdsBelow store.next store.snapshots → WritesOnce store (answer store words).0
unfolding answer
answer_once store words new =
    elim (reading words) as (λ r. WritesOnce store (answer_to (counted store) r).0) [
      | Understood c ↦ from_counted store (served (counted store) c).0 (served_once (counted store) c new)
      | Refused r ↦ unmoved store (counted store) refl refl refl refl new
    ]

asked_once : (store : Store) (request : Request) → IdsBelow store.next store.snapshots → WritesOnce store (answer_with store request).0
unfolding answer_with
asked_once store request new =
    elim request.is_refused as (λ b. WritesOnce store (if b then refused store refusal.OutOfMemory else answer store request.words).0) [
      | true ↦ same_store store new
      | false ↦ answer_once store request.words new
    ]

pub own_step_writes_law : OwnStepWrites
own_step_writes_law store (Asked request) new = asked_once store request new
own_step_writes_law store (GivenQuota quota) new = unmoved store (record store { quota = quota }) refl refl refl refl new
