-- What a prepared answer does to its tenant's store, and where it has its room.
use Rattle.std.specs.Prelude.{◌≡◌, ℕ, ◌+◌, ◌<◌, ◌≤◌, List, map, length, pos, Option, Some, IfSome, IsSome, IsTrue, Result, Ok, Err, IfOk, IsOkAnd}
use Rattle.std.specs.List.{AllByRecursion}
use Rattle.std.specs.declared.alloc.AllocError.{AllocError}
use Rattle.std.specs.FinMap as rows
use Rattle.stow_bytes.specs.Limits.{number_limit}
use Rattle.stow_model.specs.declared.refusal.Refusal.TheVariants as refusal
use Rattle.stow_model.specs.Command.{Command, Change}
use Rattle.stow_commands.specs.Commands.{update_of}
use Rattle.stow_commands.specs.declared.update.Update.{Update}
use Rattle.stow_model.specs.Reply.{Reply, reply_of}
use Rattle.stow_model.specs.Reply as reply
use Rattle.stow_model.specs.declared.reply.Reply as told
use Rattle.stow_model.specs.Login.{IsTenant}
use Rattle.stow_model.specs.Store.{Store, Rows, Version, Answer, counted, served, answer, one_more, rows_without, value_in, without_snapshot, written}
use Rattle.stow_ledger.specs.Accounts.{IsGivenBy, is_allowed}
use Rattle.stow_ledger.specs.Shown.{charge_of, sized_option}
use Rattle.stow_ledger.specs.declared.charge.Charge.{Charge}
use Rattle.stow_ledger.specs.declared.sized_version.SizedVersion.{SizedVersion}
use Rattle.stow_core.specs.declared.change.Change as coded
use Rattle.stow_core.specs.declared.change.Change.TheVariants as change
use Rattle.stow_core.specs.declared.prepared.Prepared.{Prepared}
use Rattle.stow_core.specs.declared.write.Write.{Write}
use Rattle.stow_core.specs.Keys.{AreKeysOf}
use Rattle.stow_core.specs.RowLengths.{HaveLength}
use Rattle.stow_core.specs.Taken.{AreDistinct}
use Rattle.stow_core.specs.Tenancies.{tenancy_at, versions_of}
use Rattle.stow_core.specs.Writes.{given_op, row_given, rows_given, writes_of, AreMessages, StaysShort}
use Rattle.stow_dropping.specs.StowTree.Putting.{IsReserved, bytes_of}
use Rattle.stow_tree_model.specs.Keys.{own_key, IsTenantKey}
use Rattle.stow_tree_model.specs.Op.{Op}
use Rattle.stow_versions.specs.VersionsState.{IsReady}
use Rattle.stow_core.specs.State.{CoreState, store_of, row_at, Keeps}

-- the store with these rows, by its next write
abbrev pub after_write : Store → Rows → Store
after_write store rows = record store { rows = rows; last = store.last + 1 }

-- the rows once each of the keys, among the keys of all, got the operation by the next write
abbrev pub rows_after : List (List ℕ) → Op → Store → Rows
rows_after keys op store = rows_given (store.last + 1) op (map own_key keys) store.rows

-- the store after a request that writes so
abbrev pub after_given : List (List ℕ) → Op → Store → Store
after_given keys op store = after_write (counted store) (rows_after keys op store)

-- the store after a request that leads to this write
abbrev pub after_written : {A : Type 0} → Write A → Store → Store
after_written write store = after_given write.keys (given_op write.given) store

-- the store after a write that the quota refuses
abbrev pub after_refusal : Store → Store
after_refusal store = record (counted store) { refusals = one_more store.refusals }

-- the store after a request that takes a snapshot
abbrev pub after_take : Store → Store
after_take store =
    record (counted store) {
      snapshots = rows.insert store.snapshots store.next store.rows;
      next = store.next + 1;
    }

-- the store after a request that drops a snapshot
abbrev pub after_drop : ℕ → Store → Store
after_drop id store = without_snapshot (counted store) (pos id)

-- the store after a change
abbrev pub effect_of : {A : Type 0} → coded.Change A → Store → Store
effect_of change.Nothing store = store
effect_of change.Count store = counted store
effect_of change.Refuse store = after_refusal store
effect_of (change.Write write) store = after_written write store
effect_of change.Take store = after_take store
effect_of (change.Drop id charge) store = after_drop id store

-- what a prepared answer does to its tenant's store
abbrev pub effect : {A : Type 0} → Prepared A → Store → Store
effect prepared store = effect_of prepared.change store

-- a write number is left
abbrev pub CanWrite : CoreState → ℕ → Type 0
CanWrite core tenant = (store_of core tenant).last < number_limit

-- the number of the tenant's next write
abbrev pub next_number : CoreState → ℕ → ℕ
next_number core tenant = (store_of core tenant).last + 1

-- what the tenant's next write makes of the row of its own key
abbrev pub next_row : CoreState → ℕ → Op → List ℕ → Option Version
next_row core tenant op key = row_given (next_number core tenant) op (row_at core tenant key)

-- the charge is that of the store after a change, and the tenant's account gave it and allows it
pub record IsCharged (core : CoreState) (tenant : ℕ) (charge : Charge) (after : Store)
    : Type 0 where
  pub is : charge ≡ charge_of after
  pub given : IfSome (tenancy_at tenant core.tenancies) (λ own. IsGivenBy own.account charge)
  pub allowed : IfSome (tenancy_at tenant core.tenancies)
      (λ own. IsTrue (is_allowed own.account charge))

-- the charge is that of the store after a change, and the tenant's account gave it
pub record IsPriced (core : CoreState) (tenant : ℕ) (charge : Charge) (after : Store)
    : Type 0 where
  pub is : charge ≡ charge_of after
  pub given : IfSome (tenancy_at tenant core.tenancies) (λ own. IsGivenBy own.account charge)

-- the store without the rows of some of its own keys
abbrev pub store_without : List (List ℕ) → Store → Store
store_without keys store = record store { rows = rows_without keys store.rows }

-- the store has the row still once those are gone, and this is the length of its key and its
-- version
pub record IsRowWithout (store : Store) (keys : List (List ℕ)) (own : List ℕ) (key : ℕ)
    (version : SizedVersion) : Type 0 where
  pub key_is : key ≡ length own
  pub version_is : Some version ≡ sized_option (rows.get (rows_without keys store.rows) own)

-- the tenant's account gave the charge, and it is within the limits
pub record IsChargeWithin (core : CoreState) (tenant : ℕ) (charge : Charge) : Type 0 where
  pub given : IfSome (tenancy_at tenant core.tenancies) (λ own. IsGivenBy own.account charge)
  pub charge_within : charge.charge ≤ number_limit
  pub rows_within : charge.rows ≤ number_limit

-- the charge is that of the tenant's store without the rows of these keys, among the keys of all
pub record IsChargedWithout (core : CoreState) (tenant : ℕ) (keys : List (List ℕ))
    (charge : Charge) : Type 0 where
  pub within : IsChargeWithin core tenant charge
  pub is : charge ≡ charge_of (store_without (map own_key keys) (store_of core tenant))

-- The tenant's next write can do this to the values of the keys, among the keys of all: they are
-- its own, each once, no value becomes too long, and the messages fit the smallest buffer.
pub record CanGive (core : CoreState) (tenant : ℕ) (keys : List (List ℕ)) (op : Op)
    : Type 0 where
  pub own : AreKeysOf tenant keys
  pub are_keys : AllByRecursion IsTenantKey keys
  pub distinct : AreDistinct keys
  pub short : AllByRecursion (λ key. StaysShort op (value_in (row_at core tenant (own_key key))))
      keys
  pub fit : bytes_of (writes_of (next_number core tenant) op keys) ≤ 2097152

-- where the write tells a length, each row that it makes has it
abbrev pub TellsLength : {A : Type 0} → CoreState → ℕ → Write A → Type 0
TellsLength core tenant write = IfSome write.length
    (HaveLength (after_written write (store_of core tenant)).rows (next_number core tenant))

-- A write of the tenant's own keys needs no more memory, is charged so, and the length that it
-- tells is that of its rows.
pub record CanPut {A : Type 0} (core : CoreState) (tenant : ℕ) (write : Write A)
    : Type 0 where
  pub is_tenant : IsTenant core.entries tenant
  pub can_write : CanWrite core tenant
  pub own : AreKeysOf tenant write.keys
  pub are_messages : AreMessages
      (writes_of (next_number core tenant) (given_op write.given) write.keys)
  pub reserved : IsReserved core.tree
      (writes_of (next_number core tenant) (given_op write.given) write.keys)
  pub charged : IsCharged core tenant write.charge (after_written write (store_of core tenant))
  pub length : TellsLength core tenant write

-- one more snapshot of the tenant's, and its pin, need no more memory
pub record CanTakeSnapshot (core : CoreState) (tenant : ℕ) : Type 0 where
  pub is_tenant : IsTenant core.entries tenant
  pub ready : IfSome (tenancy_at tenant core.tenancies) (λ own. IsReady (versions_of own))
  pub pin_room : core.pin_room ≡ tenant

-- the tenant's snapshot is live, and what stays without it is charged so
pub record CanDropSnapshot (core : CoreState) (tenant id : ℕ) (charge : Charge) : Type 0 where
  pub is_tenant : IsTenant core.entries tenant
  pub live : IsSome (rows.get (store_of core tenant).snapshots id)
  pub charged : IsCharged core tenant charge (after_drop id (store_of core tenant))

-- the change is one in a tenant's store, and needs no more memory; whom nothing changes for is no
-- tenant
abbrev pub CanChange : {A : Type 0} → CoreState → ℕ → coded.Change A → Type 0
CanChange core tenant change.Nothing = ¬ (IsTenant core.entries tenant)
CanChange core tenant change.Count = IsTenant core.entries tenant
CanChange core tenant change.Refuse = IsTenant core.entries tenant
CanChange core tenant (change.Write write) = CanPut core tenant write
CanChange core tenant change.Take = CanTakeSnapshot core tenant
CanChange core tenant (change.Drop id charge) = CanDropSnapshot core tenant id charge

-- the prepared answer has all its room in this state
abbrev pub CanCarryOut : {A : Type 0} → CoreState → Prepared A → Type 0
CanCarryOut core prepared = CanChange core prepared.tenant prepared.change

-- what the prepared answer will do to this store, and its reply
abbrev pub prepared_answer : {A : Type 0} → Prepared A → Store → Answer
prepared_answer prepared store = (effect prepared store, reply_of prepared.reply)

-- where there was memory, the prepared answer is this one of the tenant's store
abbrev pub Prepares : {A : Type 0} → CoreState → ℕ → Result (Prepared A) AllocError
    → (Store → Answer) → Type 0
Prepares core tenant result answer = IfOk result (λ p. prepared_answer p (store_of core tenant)
    ≡ answer (store_of core tenant))

-- No store moved; and where there was memory, this answer of the tenant's store is prepared, with
-- all its room.
pub record IsPrepared {A : Type 0} (old : CoreState) (tenant : ℕ) (answer : Store → Answer)
    (new : CoreState) (result : Result (Prepared A) AllocError) : Type 0 where
  pub keeps : Keeps old new
  pub room : IfOk result (λ p. CanCarryOut new p)
  pub tenant_is : IfOk result (λ p. p.tenant ≡ tenant)
  pub answers : Prepares old tenant result answer

-- the answer to a command, once it was counted
abbrev pub serves : Command → Store → Answer
serves command store = served (counted store) command

-- the answer to a change of a key's row
abbrev pub changes : List ℕ → Update → Store → Answer
changes key update store = serves (Change key (update_of update)) store

-- the answer to a write that does this to the values of the keys, among the keys of all
abbrev pub gives : List (List ℕ) → Op → Reply → Store → Answer
gives keys op r store = written (counted store) (rows_after keys op store) r

-- the answer to a request that leads to this write
abbrev pub writes : {A : Type 0} → Write A → Reply → Store → Answer
writes write r store = gives write.keys (given_op write.given) r store

-- the answer to words is prepared, where the number is a tenant's
abbrev pub PreparesOwn : {A : Type 0} → CoreState → ℕ → List (List ℕ)
    → Result (Prepared A) AllocError → Type 0
PreparesOwn core tenant words result = IsTenant core.entries tenant
    → Prepares core tenant result (λ store. answer store words)

-- the answer to whom is no tenant, which changes nothing
pub record RefusesStranger {A : Type 0} (old new : CoreState)
    (result : Result (Prepared A) AllocError) : Type 0 where
  pub answers : IsOkAnd result (λ p. (p.change ≡ change.Nothing)
      × (reply_of p.reply ≡ reply.Error refusal.NotAuthenticated))
  pub unchanged : new ≡ old

-- the tenant's store moved as the prepared answer says
abbrev pub CarriesOut : {A : Type 0} → CoreState → CoreState → Prepared A → Type 0
CarriesOut old new prepared = store_of new prepared.tenant
    ≡ effect prepared (store_of old prepared.tenant)

-- a reply, if there was memory for it, that changes nothing but the count
abbrev pub OnlyCounts : {A : Type 0} → ℕ → Result (told.Reply A) AllocError
    → Result (Prepared A) AllocError → Type 0
OnlyCounts tenant (Ok r) result =
    result ≡ Ok (record { tenant = tenant; change = change.Count; reply = r })
OnlyCounts tenant (Err refused) result = result ≡ Err refused
