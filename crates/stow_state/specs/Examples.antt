-- Definitions at examples, and at what they leave out.
use Rattle.std.specs.Prelude.{◌≡◌, ℕ, true, false, List, [], ◌∷◌, Option, Some, None, codes, if◌then◌else◌, ◌==◌}
use Rattle.std.specs.Ordering.{nat_cmp}
use Rattle.std.specs.FinMap.{FinMap}
use Rattle.std.specs.FinMap as map
use Rattle.stow_model.specs.declared.simple_string.SimpleString.TheVariants as simple
use Rattle.stow_model.specs.Reply.{Reply}
use Rattle.stow_model.specs.Reply as reply
use Rattle.stow_model.specs.Store.{Rows, Version, Store, OwnEvent, Asked, empty_store}
use Rattle.stow_tree_model.specs.Keys.{packed}
use Rattle.stow_tree_model.specs.Op.{Op, Put, Gone, Append}
use Rattle.stow_tree_model.specs.TreeMessage.{TreeMessage}
use Rattle.stow_tree_model.specs.Messages.{Messages, set_of}
use Rattle.stow_tree_model.specs.Examples.{two_writes, last_write}
use Rattle.stow_state.specs.Rows.{IsIndex, is_of, rows_at, RowsRise}
use Rattle.stow_state.specs.Changes.{is_same_row, changes, op_between, AreOwn, AreRowsBefore, AreWritten}
use Rattle.stow_state.specs.State.{TenantState, SharedState, view, IsSound, new_tenant, new_state}
use Rattle.stow_state.specs.Steps.{Call, Maintenance, HasIndex, IsElsewhere, numbers_of, moved, SharedStep, ToldEvent, SharedRun, line_of, replies_of, KeepsRows, WritesRows, WritesOnce}

abbrev pub version : ℕ → List ℕ → Version
version n value = record { number = n; value = value }

-- the only row is that of `a`
abbrev pub one_row : Version → Rows
one_row v = map.insert map.empty (codes "a") v

-- a tenant's message for its key `a`
abbrev pub message : ℕ → ℕ → Op → TreeMessage
message tenant n op = record { key = packed tenant (codes "a"); number = n; op = op }

-- the first tenant writes twice, and the second once
abbrev pub three_messages : List TreeMessage
three_messages =
    message 1 1 (Put (codes "x")) ∷ message 1 2 (Append (codes "y"))
    ∷ message 2 1 (Put (codes "z")) ∷ []

abbrev pub of_two_tenants : Messages
of_two_tenants = set_of three_messages

-- rows in the messages of all
pub record OfRows : Type 0 where
  pub own : is_of 1 (packed 1 (codes "a")) ≡ true
  pub not_own : is_of 2 (packed 1 (codes "a")) ≡ false
  pub before : rows_at of_two_tenants 1 0 ≡ map.empty
  pub first : rows_at of_two_tenants 1 1 ≡ one_row (version 1 (codes "x"))
  pub second : rows_at of_two_tenants 1 2 ≡ one_row (version 2 (codes "xy"))
  pub other : rows_at of_two_tenants 2 2 ≡ one_row (version 1 (codes "z"))
  pub rising : RowsRise
      ((codes "a", version 1 (codes "x")) ∷ (codes "b", version 1 (codes "x")) ∷ [])
  pub not_rising : RowsRise
      ((codes "b", version 1 (codes "x")) ∷ (codes "a", version 1 (codes "x")) ∷ []) → ⊥
  pub index : IsIndex 65535
  pub not_index : IsIndex 4294967296 → ⊥

-- rows of `a` and `b`, by their entries
abbrev pub two_rows : Rows
two_rows =
    map.from_sorted
    ((codes "a", version 1 (codes "x")) ∷ (codes "b", version 1 (codes "x")) ∷ [])

abbrev pub other_row : ℕ → Rows
other_row n = map.from_sorted ((codes "a", version n (codes "y")) ∷ [])

-- the messages of a call
pub record OfChanges : Type 0 where
  pub put_and_gone : changes 1 2 two_rows (other_row 2)
      ≡ message 1 2 (Put (codes "y"))
      ∷ record { key = packed 1 (codes "b"); number = 2; op = Gone } ∷ []
  pub nothing : changes 1 2 two_rows two_rows ≡ []
  pub same : is_same_row (Some (version 1 (codes "x"))) (Some (version 1 (codes "x"))) ≡ true
  pub other_number : is_same_row (Some (version 1 (codes "x"))) (Some (version 2 (codes "x")))
      ≡ false
  pub other_value : is_same_row (Some (version 1 (codes "x"))) (Some (version 1 (codes "y")))
      ≡ false
  pub none_between : op_between None None ≡ None
  pub own : AreOwn 1 2 (message 1 2 Gone ∷ [])
  pub not_own : AreOwn 1 2 (message 2 2 Gone ∷ []) → ⊥
  pub below : AreRowsBefore 2 (other_row 1)
  pub not_below : AreRowsBefore 1 (other_row 1) → ⊥
  pub written : AreWritten 2 two_rows (other_row 2)
  -- a row that changes has the write's number
  pub not_written : AreWritten 2 two_rows (other_row 1) → ⊥

-- one snapshot, which shows the rows at this number
abbrev pub with_snapshot : ℕ → TenantState → TenantState
with_snapshot n own = record own { snapshots = map.insert map.empty 1 n; next = 2 }

-- a tenant that has written so often
abbrev pub written_tenant : ℕ → TenantState
written_tenant last = record (new_tenant 9) { last = last }

-- the state after three messages, where the first tenant took a snapshot between its two
abbrev pub of_two_writers : SharedState
of_two_writers =
    record { messages = of_two_tenants; tenants = λ tenant. with_snapshot 1 (written_tenant 2) }

-- a message of the first tenant that its last write is below
abbrev pub unsound : SharedState
unsound =
    record { messages = set_of (message 1 1 Gone ∷ []); tenants = λ tenant. written_tenant 0 }

-- the snapshots 1 and 2, where the tenant had 1 before
abbrev pub two_snapshots : FinMap nat_cmp ℕ
two_snapshots = numbers_of (with_snapshot 1 (written_tenant 2)) (1 ∷ 2 ∷ [])

-- 2 alone
abbrev pub later_snapshot : FinMap nat_cmp ℕ
later_snapshot = numbers_of (with_snapshot 1 (written_tenant 2)) (2 ∷ [])

-- the numbers of snapshots
pub record OfSnapshots : Type 0 where
  pub kept : map.get two_snapshots 1 ≡ Some 1
  pub taken : map.get two_snapshots 2 ≡ Some 2
  pub dropped : map.get later_snapshot 1 ≡ None

-- one tenant's store in the state of all
pub record OfViews : Type 0 where
  pub first : view of_two_writers 1 ≡ record (empty_store 9) {
    rows = one_row (version 2 (codes "xy"));
    last = 2;
    snapshots = map.insert map.empty 1 (one_row (version 1 (codes "x")));
    next = 2;
  }
  pub nobody : view (new_state (λ tenant. 9)) 1 ≡ empty_store 9
  pub sound : IsSound (new_state (λ tenant. 9))
  pub not_sound : IsSound unsound → ⊥

-- a request that writes a row
abbrev pub set_a : OwnEvent
set_a = Asked (record {
  words = codes "SET" ∷ codes "a" ∷ codes "x" ∷ [];
  is_refused = false;
})

-- nothing is written yet, and the row is as much as may be charged
abbrev pub no_writes : SharedState
no_writes = new_state (λ tenant. 18)

abbrev pub told_ok : Option Reply
told_ok = Some (reply.Simple simple.Ok)

-- the state with these messages, after two writes of each tenant ..
abbrev pub with_messages : Messages → SharedState
with_messages messages =
    record { messages = messages; tenants = λ tenant. written_tenant 2 }

-- .. and with a snapshot that the first tenant took between its two
abbrev pub with_messages_and_snapshot : Messages → SharedState
with_messages_and_snapshot messages =
    record {
      messages = messages;
      tenants = λ tenant.
          if tenant == 1 then with_snapshot 1 (written_tenant 2) else written_tenant 2;
    }

abbrev pub one_call : List ToldEvent
one_call = (Maintenance, None) ∷ (Call 1 set_a, told_ok) ∷ []

-- steps and runs
pub record OfSteps : Type 0 where
  pub call : SharedStep no_writes (Call 1 set_a) told_ok (moved no_writes (Call 1 set_a))
  pub not_told : SharedStep no_writes (Call 1 set_a) None (moved no_writes (Call 1 set_a)) → ⊥
  -- the write is lost
  pub not_written : SharedStep no_writes (Call 1 set_a) told_ok no_writes → ⊥
  pub folded : SharedStep (with_messages two_writes) Maintenance None (with_messages last_write)
  -- a snapshot between the two writes shows the first
  pub not_folded : SharedStep (with_messages_and_snapshot two_writes) Maintenance None
      (with_messages_and_snapshot last_write) → ⊥
  pub run : SharedRun no_writes one_call (moved no_writes (Call 1 set_a))
  pub not_run : SharedRun no_writes one_call no_writes → ⊥
  pub own_line : line_of 1 one_call ≡ set_a ∷ []
  pub own_replies : replies_of 1 one_call ≡ reply.Simple simple.Ok ∷ []
  pub other_line : line_of 2 one_call ≡ []
  pub other_replies : replies_of 2 one_call ≡ []
  pub index : HasIndex (Call 1 set_a)
  pub not_index : HasIndex (Call 4294967296 set_a) → ⊥
  pub elsewhere : IsElsewhere 2 (Call 1 set_a)
  pub not_elsewhere : IsElsewhere 1 (Call 1 set_a) → ⊥

-- a store with one row, after so many writes
abbrev pub store_of_one : ℕ → Store
store_of_one last = record (empty_store 9) { rows = one_row (version 1 (codes "x")); last = last }

-- what one step writes
pub record OfWrites : Type 0 where
  pub once : WritesOnce (empty_store 9) (store_of_one 1)
  pub not_twice : WritesOnce (empty_store 9) (store_of_one 2) → ⊥
  pub writes : WritesRows (empty_store 9) (store_of_one 1)
  pub not_writes : WritesRows (empty_store 9) (empty_store 9) → ⊥
  pub keeps : KeepsRows (store_of_one 1) (store_of_one 1)
  pub not_keeps : KeepsRows (empty_store 9) (store_of_one 1) → ⊥

-- all of them
abbrev pub Examples : Type 0
Examples = OfRows × OfChanges × OfSnapshots × OfViews × OfSteps × OfWrites
