-- One tenant's store, alone: what a request means to it.
use Rattle.std.specs.Prelude.{◌≤◌, ◌≡◌, ℕ, ℤ, pos, ◌+◌, ◌-◌, ◌+ℤ◌, negsuc, nat_le, codes, Bool, true, false, not, List, [], ◌∷◌, ◌++◌, length, filter, take, sum_by, Option, Some, None, is_some, if◌then◌else◌, nat_lt, ◌==◌, ◌&&◌, ◌||◌}
use Rattle.std.specs.Prelude.{map as list_map}
use Rattle.std.specs.Option.{unwrap_or}
use Rattle.std.specs.List.{list_any, flat_map}
use Rattle.std.specs.Fmt.{signed_decimal}
use Rattle.std.specs.Ordering.{nat_cmp, is_le, is_lt}
use Rattle.std.specs.Str.{bytes_eq}
use Rattle.std.specs.FinMap.{FinMap}
use Rattle.std.specs.FinMap as map
use Rattle.stow_bytes.specs.Bytes.{bytes_cmp}
use Rattle.stow_bytes.specs.Limits.{snapshot_limit, value_limit, number_limit}
use Rattle.stow_model.specs.declared.refusal.Refusal.{Refusal}
use Rattle.stow_model.specs.declared.refusal.Refusal.TheVariants as refusal
use Rattle.stow_model.specs.declared.simple_string.SimpleString.TheVariants as simple
use Rattle.stow_model.specs.declared.usage.Usage.{Usage}
use Rattle.stow_model.specs.Item.{Item}
use Rattle.stow_model.specs.Item as item
use Rattle.stow_model.specs.Reply.{Reply}
use Rattle.stow_model.specs.Reply as reply
use Rattle.stow_model.specs.NumberText.{number_of, is_integer}
use Rattle.stow_model.specs.Command.{Command, Ping, Echo, Get, GetMany, Exists, Length, Range, Del, TakeSnapshot, ListSnapshots, DropSnapshot, GetInSnapshot, RangeInSnapshot, ReportUsage, Change, Update, Set, Append, Add, Condition, Always, IfMissing, IfThere, Reading, Understood, Refused, reading}

-- ---- what one tenant has

-- a value, and the number of the write that made it
pub record Version : Type 0 where
  pub number : ℕ
  pub value : List ℕ

-- keys in byte order, each with its version
abbrev pub Rows : Type 0
Rows = FinMap bytes_cmp Version

pub record Store : Type 0 where
  pub rows : Rows
  -- the number of the last write
  pub last : ℕ
  -- each live snapshot's id, with a whole copy of the rows
  pub snapshots : FinMap nat_cmp Rows
  -- the next snapshot's id
  pub next : ℕ
  -- the most that may be charged
  pub quota : ℕ
  pub commands : ℕ
  pub refusals : ℕ

-- nothing but a quota
abbrev pub empty_store : ℕ → Store
empty_store quota =
    record {
      rows = map.empty;
      last = 0;
      snapshots = map.empty;
      next = 1;
      quota = quota;
      commands = 0;
      refusals = 0;
    }

-- ---- what is charged for it

-- a key with a version of it
abbrev pub Shown : Type 0
Shown = List ℕ × Version

abbrev pub cost : Shown → ℕ
cost shown = length shown.0 + length shown.1.value + 16

abbrev pub is_same_version : Shown → Shown → Bool
is_same_version a b =
    bytes_eq a.0 b.0 && ((a.1.number == b.1.number) && bytes_eq a.1.value b.1.value)

-- each once
abbrev pub distinct : List Shown → List Shown
distinct [] = []
distinct (first ∷ later) =
    if list_any (is_same_version first) later then distinct later else first ∷ distinct later

-- all that the present rows or a live snapshot show
abbrev pub shown_by : Store → List Shown
shown_by store = map.entries store.rows ++ flat_map map.entries (map.values store.snapshots)

unfoldable pub charge : Store → ℕ
charge store = sum_by cost (distinct (shown_by store))

unfoldable pub usage : Store → Usage
usage store =
    record {
      rows = map.len store.rows;
      charge = charge store;
      quota = store.quota;
      writes =
          store.last;
      commands =
          store.commands;
      refusals = store.refusals;
      snapshots = map.len store.snapshots;
    }

-- a count, one higher, up to its limit
abbrev pub one_more : ℕ → ℕ
one_more n = if nat_lt n number_limit then n + 1 else n

-- ---- a change of one row

abbrev pub value_in : Option Version → Option (List ℕ)
value_in None = None
value_in (Some version) = Some version.value

-- what a change leads to
pub data Outcome : Type 0 where
  -- the row gets this value, and this is told
  Written : List ℕ → Reply → Outcome
  -- the row stays as it is, and this is told
  Unchanged : Reply → Outcome
  Failed : Refusal → Outcome

-- a value, unless it is too long
abbrev pub if_fits : List ℕ → Outcome → Outcome
if_fits value outcome =
    if nat_lt value_limit (length value) then Failed refusal.ValueTooLong else outcome

abbrev pub allows : Condition → Option (List ℕ) → Bool
allows Always present = true
allows IfMissing present = not (is_some present)
allows IfThere present = is_some present

abbrev pub set_outcome : List ℕ → Condition → Option (List ℕ) → Outcome
set_outcome value condition present =
    if_fits value (if allows condition present then Written value (reply.Simple simple.Ok)
    else Unchanged reply.Null)

-- a missing value counts as empty
abbrev pub append_outcome : List ℕ → Option (List ℕ) → Outcome
append_outcome suffix present = let value = unwrap_or present []
    ++ suffix in if_fits value (Written value (reply.Integer (pos (length value))))

-- a missing value counts as 0
abbrev pub stored_number : Option (List ℕ) → Option ℤ
stored_number None = Some (pos 0)
stored_number (Some value) = number_of value

abbrev pub sum_outcome : Option ℤ → ℤ → Outcome
sum_outcome None amount = Failed refusal.NotAnInteger
sum_outcome (Some n) amount =
    let sum =
    n +ℤ amount in if is_integer sum then Written (signed_decimal sum) (reply.Integer sum)
    else Failed refusal.Overflow

-- by the present value
unfoldable pub outcome : Update → Option (List ℕ) → Outcome
outcome (Set value condition) present = set_outcome value condition present
outcome (Append suffix) present = append_outcome suffix present
outcome (Add amount) present = sum_outcome (stored_number present) amount

-- ---- commands

abbrev pub value_or_null : Option Version → Reply
value_or_null None = reply.Null
value_or_null (Some version) = reply.Bulk version.value

abbrev pub item_or_null : Option Version → Item
item_or_null None = item.Null
item_or_null (Some version) = item.Bulk version.value

abbrev pub length_or_zero : Option Version → ℕ
length_or_zero None = 0
length_or_zero (Some version) = length version.value

-- how many of the keys have a row, each as often as it is named
abbrev pub count_rows : Rows → List (List ℕ) → ℕ
count_rows rows keys = length (filter (λ key. is_some (map.get rows key)) keys)

-- below the upper end of an interval, of which an empty one is none
abbrev pub is_below : List ℕ → List ℕ → Bool
is_below to key = (length to == 0) || is_lt (bytes_cmp key to)

-- from the lower end on, and below the upper end
abbrev pub is_within : List ℕ → List ℕ → List ℕ → Bool
is_within from to key = is_le (bytes_cmp from key) && is_below to key

-- the first rows of an interval, in byte order
abbrev pub rows_within : List ℕ → List ℕ → ℕ → Rows → List Shown
rows_within from to count rows =
    take count (filter (λ row. is_within from to row.0) (map.entries rows))

abbrev pub row_items : Shown → List Item
row_items row = item.Bulk row.0 ∷ item.Bulk row.1.value ∷ []

-- the rows without these keys
abbrev pub rows_without : List (List ℕ) → Rows → Rows
rows_without [] rows = rows
rows_without (key ∷ keys) rows = rows_without keys (map.remove rows key)

abbrev pub Answer : Type 0
Answer = Store × Reply

abbrev pub refused : Store → Refusal → Answer
refused store r = (store, reply.Error r)

-- the second store is charged more than the quota, and more than the first
abbrev pub exceeds_quota : Store → Store → Bool
exceeds_quota before after =
    nat_lt before.quota (charge after) && nat_lt (charge before) (charge after)

-- the next store, unless it exceeds the quota, which is counted
abbrev pub within_quota : Store → Store → Reply → Answer
within_quota before after r =
    if exceeds_quota before after
    then refused (record before { refusals = one_more before.refusals }) refusal.QuotaExceeded
    else (after, r)

-- the store's rows become these by its next write
abbrev pub written : Store → Rows → Reply → Answer
written store rows r =
    if nat_lt store.last number_limit
    then within_quota store (record store { rows = rows; last = store.last + 1 }) r
    else refused store refusal.WriteNumbersUsedUp

-- a row's value is written with the number of the store's next write
abbrev pub change_answer : Store → List ℕ → Outcome → Answer
change_answer store key (Written value r) =
    written store (map.insert store.rows key (record { number = store.last + 1; value = value })) r
change_answer store key (Unchanged r) = (store, r)
change_answer store key (Failed refusal) = refused store refusal

-- how many rows fewer there are; a write, where that isn't none
abbrev pub removed_answer : Store → ℕ → Rows → Answer
removed_answer store removed rows =
    if removed == 0 then (store, reply.Integer (pos 0))
    else written store rows (reply.Integer (pos removed))

abbrev pub del_answer : Store → List (List ℕ) → Answer
del_answer store keys =
    removed_answer store (map.len store.rows - map.len (rows_without keys store.rows))
    (rows_without keys store.rows)

-- ---- snapshots

-- an id is left, and few enough snapshots are live
abbrev pub can_take : Store → Bool
can_take store =
    nat_lt (map.len store.snapshots) snapshot_limit && nat_le store.next number_limit

abbrev pub take_answer : Store → Answer
take_answer store =
    if can_take store
    then (
      record store {
        snapshots = map.insert store.snapshots store.next store.rows;
        next = store.next + 1;
      },
      reply.Integer (pos store.next),
    )
    else refused store refusal.TooManySnapshots

-- the number that an id is, unless it is below 0
abbrev pub number_in : ℤ → Option ℕ
number_in (pos n) = Some n
number_in (negsuc n) = None

-- the rows that a live snapshot shows; ids are numbers from 1 on
abbrev pub snapshot_rows : Store → ℤ → Option Rows
snapshot_rows store (pos id) = map.get store.snapshots id
snapshot_rows store (negsuc n) = None

abbrev pub without_snapshot : Store → ℤ → Store
without_snapshot store (pos id) =
    record store { snapshots = map.remove store.snapshots id }
without_snapshot store (negsuc n) = store

abbrev pub drop_answer : Store → ℤ → Option Rows → Answer
drop_answer store id None = refused store refusal.NoSuchSnapshot
drop_answer store id (Some rows) = (without_snapshot store id, reply.Simple simple.Ok)

-- what is told of a snapshot's rows, if it is live
abbrev pub in_snapshot : Store → Option Rows → (Rows → Reply) → Answer
in_snapshot store None told = refused store refusal.NoSuchSnapshot
in_snapshot store (Some rows) told = (store, told rows)

abbrev pub get_reply : List ℕ → Rows → Reply
get_reply key rows = value_or_null (map.get rows key)

abbrev pub range_reply : List ℕ → List ℕ → ℕ → Rows → Reply
range_reply from to count rows =
    reply.Array (flat_map row_items (rows_within from to count rows))

abbrev pub id_items : Store → List Item
id_items store = list_map (λ id. item.Integer (pos id)) (map.keys store.snapshots)

-- ---- the usage report

-- each number is within the limit of numbers
pub record AreWithin (u : Usage) : Type 0 where
  pub rows : u.rows ≤ number_limit
  pub charge : u.charge ≤ number_limit
  pub quota : u.quota ≤ number_limit
  pub writes : u.writes ≤ number_limit
  pub commands : u.commands ≤ number_limit
  pub refusals : u.refusals ≤ number_limit
  pub snapshots : u.snapshots ≤ number_limit

-- each number behind its name
abbrev pub usage_items : Usage → List Item
usage_items u =
    item.Bulk (codes "rows") ∷ item.Integer (pos u.rows)
    ∷ item.Bulk (codes "charge") ∷ item.Integer (pos u.charge)
    ∷ item.Bulk (codes "quota") ∷ item.Integer (pos u.quota)
    ∷ item.Bulk (codes "writes") ∷ item.Integer (pos u.writes)
    ∷ item.Bulk (codes "commands") ∷ item.Integer (pos u.commands)
    ∷ item.Bulk (codes "refusals") ∷ item.Integer (pos u.refusals)
    ∷ item.Bulk (codes "snapshots") ∷ item.Integer (pos u.snapshots)
    ∷ []

-- the store after a command that was counted, and the reply
abbrev pub served : Store → Command → Answer
served store Ping = (store, reply.Simple simple.Pong)
served store (Echo text) = (store, reply.Bulk text)
served store (Get key) = (store, get_reply key store.rows)
served store (GetMany keys) =
    (store, reply.Array (list_map (λ key. item_or_null (map.get store.rows key)) keys))
served store (Exists keys) = (store, reply.Integer (pos (count_rows store.rows keys)))
served store (Length key) = (store, reply.Integer (pos (length_or_zero (map.get store.rows key))))
served store (Range from to count) = (store, range_reply from to count store.rows)
served store (Del keys) = del_answer store keys
served store TakeSnapshot = take_answer store
served store ListSnapshots = (store, reply.Array (id_items store))
served store (DropSnapshot id) = drop_answer store id (snapshot_rows store id)
served store (GetInSnapshot id key) = in_snapshot store (snapshot_rows store id) (get_reply key)
served store (RangeInSnapshot id from to count) =
    in_snapshot store (snapshot_rows store id) (range_reply from to count)
served store ReportUsage = (store, reply.Array (usage_items (usage store)))
served store (Change key update) =
    change_answer store key (outcome update (value_in (map.get store.rows key)))

abbrev pub counted : Store → Store
counted store = record store { commands = one_more store.commands }

abbrev pub answer_to : Store → Reading → Answer
answer_to store (Understood command) = served store command
answer_to store (Refused r) = refused store r

-- one tenant's own step: the next store and the reply
unfoldable pub answer : Store → List (List ℕ) → Answer
answer store words = answer_to (counted store) (reading words)

-- ---- one tenant's own run

-- a request that a tenant is served: its words, and whether memory was refused to it
pub record Request : Type 0 where
  pub words : List (List ℕ)
  pub is_refused : Bool

-- the next store and the reply to a request, with memory or without
unfoldable pub answer_with : Store → Request → Answer
answer_with store request =
    if request.is_refused then refused store refusal.OutOfMemory else answer store request.words

-- what comes to a tenant's store: an entry of its line
pub data OwnEvent : Type 0 where
  Asked : Request → OwnEvent
  -- the operator gives the tenant this quota
  GivenQuota : ℕ → OwnEvent

-- the next store, and the reply if there is one
abbrev pub step : Store → OwnEvent → Store × Option Reply
step store (Asked request) = ((answer_with store request).0, Some (answer_with store request).1)
step store (GivenQuota quota) = (record store { quota = quota }, None)

abbrev pub with_reply : Option Reply → List Reply → List Reply
with_reply None replies = replies
with_reply (Some r) replies = r ∷ replies

-- The tenant's own run over its line, told newest first, with its quota at first: the last store ..
unfoldable pub store_after : ℕ → List OwnEvent → Store
store_after quota [] = empty_store quota
store_after quota (newest ∷ earlier) = (step (store_after quota earlier) newest).0

-- .. and the replies, newest first
unfoldable pub replies_after : ℕ → List OwnEvent → List Reply
replies_after quota [] = []
replies_after quota (newest ∷ earlier) =
    with_reply (step (store_after quota earlier) newest).1 (replies_after quota earlier)

-- ---- want of memory

-- the refusal says that memory was refused
abbrev pub is_memory_refusal : Refusal → Bool
is_memory_refusal refusal.OutOfMemory = true
is_memory_refusal _ = false

-- the reply says that memory was refused
abbrev pub is_out_of_memory : Reply → Bool
is_out_of_memory (reply.Error r) = is_memory_refusal r
is_out_of_memory _ = false

-- a reply says that memory was refused just where it was
abbrev pub WantOfMemoryIsTold : Type 0
WantOfMemoryIsTold = (store : Store) (request : Request)
    → is_out_of_memory (answer_with store request).1 ≡ request.is_refused
