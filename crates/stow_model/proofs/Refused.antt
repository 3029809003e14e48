-- No answer that had its memory says that memory was refused.
use Rattle.std.proofs.Common.{◌≡◌, ℕ, ◌-◌, Bool, true, false, nat_lt, List, [], ◌∷◌, ◌++◌, length, eqb, Option, Some, None, refl, ℤ, pos, negsuc, if◌then◌else◌}
use Rattle.std.specs.Prelude.{◌+ℤ◌}
use Rattle.std.specs.Option.{unwrap_or}
use lib.Chars.{codes}
use Rattle.std.specs.FinMap as map
use Rattle.stow_bytes.specs.Limits.{value_limit, number_limit}
use Rattle.stow_model.specs.declared.refusal.Refusal.TheVariants as refusal
use Rattle.stow_model.specs.declared.simple_string.SimpleString.TheVariants as simple
use Rattle.stow_model.specs.Reply.{Reply}
use Rattle.stow_model.specs.Reply as reply
use Rattle.stow_model.specs.NumberText.{number_of, count_of, is_integer}
use Rattle.stow_model.specs.Command.{Command, Ping, Echo, Get, GetMany, Exists, Length, Range, Del, TakeSnapshot, ListSnapshots, DropSnapshot, GetInSnapshot, RangeInSnapshot, ReportUsage, Change, Update, Set, Append, Add, Condition, Always, Reading, Understood, Refused, reading, of_text, of_key, of_keys, reading_ping, reading_set, reading_set_if, condition_named, reading_append, reading_add, reading_add_number, reading_range, reading_range_count, reading_del, of_nothing, reading_drop_id, reading_drop, reading_get_in_id, reading_get_in, reading_range_in_numbers, reading_range_in, reading_snapshot, is_named, with_keys}
use Rattle.stow_model.specs.Store.{Store, Answer, Rows, Version, Outcome, Written, Unchanged, Failed, refused, counted, served, answer, answer_to, answer_with, written, exceeds_quota, within_quota, can_take, take_answer, drop_answer, in_snapshot, snapshot_rows, get_reply, range_reply, change_answer, outcome, allows, stored_number, sum_outcome, value_in, value_or_null, rows_without, is_memory_refusal, is_out_of_memory, WantOfMemoryIsTold}

either : (b : Bool) (x y : Answer) → is_out_of_memory x.1 ≡ false → is_out_of_memory y.1 ≡ false → is_out_of_memory (if◌then◌else◌ {A = Answer} b x y).1 ≡ false
either true x y p q = p
either false x y p q = q

plain_within : (before after : Store) (r : Reply) → is_out_of_memory r ≡ false → is_out_of_memory (within_quota before after r).1 ≡ false
plain_within before after r plain = either (exceeds_quota before after) _ _ refl plain

plain_written : (store : Store) (rows : Rows) (r : Reply) → is_out_of_memory r ≡ false → is_out_of_memory (written store rows r).1 ≡ false
plain_written store rows r plain = either (nat_lt store.last number_limit) _ _ (plain_within store _ r plain) refl

plain_value : (v : Option Version) → is_out_of_memory (value_or_null v) ≡ false
plain_value None = refl
plain_value (Some version) = refl

-- no outcome says that memory was refused
is_memory_outcome : Outcome → Bool
is_memory_outcome (Written value r) = is_out_of_memory r
is_memory_outcome (Unchanged r) = is_out_of_memory r
is_memory_outcome (Failed r) = is_memory_refusal r

one_outcome : (b : Bool) (x y : Outcome) → is_memory_outcome x ≡ false → is_memory_outcome y ≡ false → is_memory_outcome (if b then x else y) ≡ false
one_outcome true x y p q = p
one_outcome false x y p q = q

plain_sum : (n : Option ℤ) (amount : ℤ) → is_memory_outcome (sum_outcome n amount) ≡ false
unfolding is_memory_outcome
plain_sum None amount = refl
plain_sum (Some n) amount = one_outcome (is_integer (n +ℤ amount)) _ (Failed refusal.Overflow) refl refl

plain_outcome : (update : Update) (present : Option (List ℕ)) → is_memory_outcome (outcome update present) ≡ false
unfolding outcome is_memory_outcome
plain_outcome (Set value condition) present =
    one_outcome (nat_lt value_limit (length value)) (Failed refusal.ValueTooLong) _ refl
    (one_outcome (allows condition present) (Written value (reply.Simple simple.Ok)) (Unchanged reply.Null) refl refl)
plain_outcome (Append suffix) present = one_outcome (nat_lt value_limit (length (unwrap_or present [] ++ suffix))) (Failed refusal.ValueTooLong) _ refl refl
plain_outcome (Add amount) present = plain_sum (stored_number present) amount

plain_change : (store : Store) (key : List ℕ) (o : Outcome) → is_memory_outcome o ≡ false → is_out_of_memory (change_answer store key o).1 ≡ false
unfolding is_memory_outcome
plain_change store key (Written value r) plain = plain_written store _ r plain
plain_change store key (Unchanged r) plain = plain
plain_change store key (Failed r) plain = plain

plain_drop : (store : Store) (id : ℤ) (rows : Option Rows) → is_out_of_memory (drop_answer store id rows).1 ≡ false
plain_drop store id None = refl
plain_drop store id (Some rows) = refl

plain_in_snapshot : (store : Store) (rows : Option Rows) (told : Rows → Reply) → ((r : Rows) → is_out_of_memory (told r) ≡ false) → is_out_of_memory (in_snapshot store rows told).1 ≡ false
plain_in_snapshot store None told plain = refl
plain_in_snapshot store (Some rows) told plain = plain rows

plain_served : (store : Store) (c : Command) → is_out_of_memory (served store c).1 ≡ false
plain_served store Ping = refl
plain_served store (Echo text) = refl
plain_served store (Get key) = plain_value (map.get store.rows key)
plain_served store (GetMany keys) = refl
plain_served store (Exists keys) = refl
plain_served store (Length key) = refl
plain_served store (Range from to count) = refl
plain_served store (Del keys) = either (eqb (map.len store.rows - map.len (rows_without keys store.rows)) 0) _ _ refl (plain_written store _ (reply.Integer _) refl)
plain_served store TakeSnapshot = either (can_take store) _ _ refl refl
plain_served store ListSnapshots = refl
plain_served store (DropSnapshot id) = plain_drop store id (snapshot_rows store id)
plain_served store (GetInSnapshot id key) = plain_in_snapshot store (snapshot_rows store id) (get_reply key) (λ rows. plain_value (map.get rows key))
plain_served store (RangeInSnapshot id from to count) = plain_in_snapshot store (snapshot_rows store id) (range_reply from to count) (λ rows. refl)
plain_served store ReportUsage = refl
plain_served store (Change key update) = plain_change store key (outcome update (value_in (map.get store.rows key))) (plain_outcome update (value_in (map.get store.rows key)))

-- words never say that memory was refused
is_memory : Reading → Bool
is_memory (Understood c) = false
is_memory (Refused r) = is_memory_refusal r

choice : (b : Bool) (x y : Reading) → is_memory x ≡ false → is_memory y ≡ false → is_memory (if b then x else y) ≡ false
choice true x y p q = p
choice false x y p q = q

plain_keys : (keys : List (List ℕ)) (c : Command) → is_memory (with_keys keys c) ≡ false
unfolding is_memory
plain_keys keys c = choice _ (Refused refusal.KeyTooLong) (Understood c) refl refl

plain-of_text : (f : List ℕ → Command) (args : List (List ℕ)) → is_memory (of_text f args) ≡ false
unfolding is_memory
plain-of_text f [] = refl
plain-of_text f (a ∷ []) = refl
plain-of_text f (a ∷ b ∷ args) = refl

plain-of_key : (f : List ℕ → Command) (args : List (List ℕ)) → is_memory (of_key f args) ≡ false
unfolding is_memory
plain-of_key f [] = refl
plain-of_key f (a ∷ []) = plain_keys (a ∷ []) (f a)
plain-of_key f (a ∷ b ∷ args) = refl

plain-of_keys : (f : List (List ℕ) → Command) (args : List (List ℕ)) → is_memory (of_keys f args) ≡ false
unfolding is_memory
plain-of_keys f [] = refl
plain-of_keys f (a ∷ args) = plain_keys (a ∷ args) (f (a ∷ args))

plain_ping : (args : List (List ℕ)) → is_memory (reading_ping args) ≡ false
unfolding is_memory
plain_ping [] = refl
plain_ping (a ∷ args) = plain-of_text Echo (a ∷ args)

plain_set_if : (key value : List ℕ) (condition : Option Condition) → is_memory (reading_set_if key value condition) ≡ false
unfolding is_memory
plain_set_if key value None = refl
plain_set_if key value (Some condition) = plain_keys (key ∷ []) (Change key (Set value condition))

plain_set : (args : List (List ℕ)) → is_memory (reading_set args) ≡ false
unfolding is_memory
plain_set [] = refl
plain_set (a ∷ []) = refl
plain_set (a ∷ b ∷ []) = plain_keys (a ∷ []) (Change a (Set b Always))
plain_set (a ∷ b ∷ c ∷ []) = plain_set_if a b (condition_named c)
plain_set (a ∷ b ∷ c ∷ d ∷ args) = refl

plain_append : (args : List (List ℕ)) → is_memory (reading_append args) ≡ false
unfolding is_memory
plain_append [] = refl
plain_append (a ∷ []) = refl
plain_append (a ∷ b ∷ []) = plain_keys (a ∷ []) (Change a (Append b))
plain_append (a ∷ b ∷ c ∷ args) = refl

plain_add_number : (key : List ℕ) (n : Option ℤ) → is_memory (reading_add_number key n) ≡ false
unfolding is_memory
plain_add_number key None = refl
plain_add_number key (Some n) = plain_keys (key ∷ []) (Change key (Add n))

plain_add : (args : List (List ℕ)) → is_memory (reading_add args) ≡ false
unfolding is_memory
plain_add [] = refl
plain_add (a ∷ []) = refl
plain_add (a ∷ b ∷ []) = plain_add_number a (number_of b)
plain_add (a ∷ b ∷ c ∷ args) = refl

plain_range_count : (from to : List ℕ) (n : Option ℕ) → is_memory (reading_range_count from to n) ≡ false
unfolding is_memory
plain_range_count from to None = refl
plain_range_count from to (Some n) = plain_keys (from ∷ to ∷ []) (Range from to n)

plain_range : (args : List (List ℕ)) → is_memory (reading_range args) ≡ false
unfolding is_memory
plain_range [] = refl
plain_range (a ∷ []) = refl
plain_range (a ∷ b ∷ []) = refl
plain_range (a ∷ b ∷ c ∷ []) = plain_range_count a b (count_of (number_of c))
plain_range (a ∷ b ∷ c ∷ d ∷ args) = refl

plain_del : (args : List (List ℕ)) → is_memory (reading_del args) ≡ false
unfolding is_memory
plain_del [] = refl
plain_del (a ∷ args) = choice _ (Refused refusal.TooManyKeys) (with_keys (a ∷ args) (Del (a ∷ args))) refl (plain_keys (a ∷ args) (Del (a ∷ args)))

plain_nothing : (c : Command) (args : List (List ℕ)) → is_memory (of_nothing c args) ≡ false
unfolding is_memory
plain_nothing c [] = refl
plain_nothing c (a ∷ args) = refl

plain_drop_id : (id : Option ℤ) → is_memory (reading_drop_id id) ≡ false
unfolding is_memory
plain_drop_id None = refl
plain_drop_id (Some id) = refl

plain_reading_drop : (args : List (List ℕ)) → is_memory (reading_drop args) ≡ false
unfolding is_memory
plain_reading_drop [] = refl
plain_reading_drop (a ∷ []) = plain_drop_id (number_of a)
plain_reading_drop (a ∷ b ∷ args) = refl

plain_get_in_id : (key : List ℕ) (id : Option ℤ) → is_memory (reading_get_in_id key id) ≡ false
unfolding is_memory
plain_get_in_id key None = refl
plain_get_in_id key (Some id) = plain_keys (key ∷ []) (GetInSnapshot id key)

plain_get_in : (args : List (List ℕ)) → is_memory (reading_get_in args) ≡ false
unfolding is_memory
plain_get_in [] = refl
plain_get_in (a ∷ []) = refl
plain_get_in (a ∷ b ∷ []) = plain_get_in_id b (number_of a)
plain_get_in (a ∷ b ∷ c ∷ args) = refl

plain_range_in_numbers : (from to : List ℕ) (id : Option ℤ) (count : Option ℕ) → is_memory (reading_range_in_numbers from to id count) ≡ false
unfolding is_memory
plain_range_in_numbers from to None count = refl
plain_range_in_numbers from to (Some id) None = refl
plain_range_in_numbers from to (Some id) (Some count) = plain_keys (from ∷ to ∷ []) (RangeInSnapshot id from to count)

plain_range_in : (args : List (List ℕ)) → is_memory (reading_range_in args) ≡ false
unfolding is_memory
plain_range_in [] = refl
plain_range_in (a ∷ []) = refl
plain_range_in (a ∷ b ∷ []) = refl
plain_range_in (a ∷ b ∷ c ∷ []) = refl
plain_range_in (a ∷ b ∷ c ∷ d ∷ []) = plain_range_in_numbers b c (number_of a) (count_of (number_of d))
plain_range_in (a ∷ b ∷ c ∷ d ∷ e ∷ args) = refl

plain_snapshot : (args : List (List ℕ)) → is_memory (reading_snapshot args) ≡ false
unfolding is_memory
plain_snapshot [] = refl
plain_snapshot (name ∷ args) =
    choice (is_named name (codes "take")) _ _ (plain_nothing TakeSnapshot args)
    (choice (is_named name (codes "list")) _ _ (plain_nothing ListSnapshots args)
    (choice (is_named name (codes "drop")) _ _ (plain_reading_drop args)
    (choice (is_named name (codes "get")) _ _ (plain_get_in args)
    (choice (is_named name (codes "range")) _ _ (plain_range_in args) refl))))

plain_reading : (words : List (List ℕ)) → is_memory (reading words) ≡ false
unfolding reading is_memory
plain_reading [] = refl
plain_reading (name ∷ args) =
    choice (is_named name (codes "ping")) _ _ (plain_ping args)
    (choice (is_named name (codes "echo")) _ _ (plain-of_text Echo args)
    (choice (is_named name (codes "get")) _ _ (plain-of_key Get args)
    (choice (is_named name (codes "mget")) _ _ (plain-of_keys GetMany args)
    (choice (is_named name (codes "exists")) _ _ (plain-of_keys Exists args)
    (choice (is_named name (codes "strlen")) _ _ (plain-of_key Length args)
    (choice (is_named name (codes "range")) _ _ (plain_range args)
    (choice (is_named name (codes "set")) _ _ (plain_set args)
    (choice (is_named name (codes "append")) _ _ (plain_append args)
    (choice (is_named name (codes "incr")) _ _ (plain-of_key (λ key. Change key (Add (pos 1))) args)
    (choice (is_named name (codes "decr")) _ _ (plain-of_key (λ key. Change key (Add (negsuc 0))) args)
    (choice (is_named name (codes "incrby")) _ _ (plain_add args)
    (choice (is_named name (codes "del")) _ _ (plain_del args)
    (choice (is_named name (codes "snapshot")) _ _ (plain_snapshot args)
    (choice (is_named name (codes "usage")) _ _ (plain_nothing ReportUsage args) refl))))))))))))))

plain_to : (store : Store) (r : Reading) → is_memory r ≡ false → is_out_of_memory (answer_to store r).1 ≡ false
unfolding is_memory
plain_to store (Understood c) plain = plain_served store c
plain_to store (Refused r) plain = plain

plain_answer : (store : Store) (words : List (List ℕ)) → is_out_of_memory (answer store words).1 ≡ false
unfolding answer
plain_answer store words = plain_to (counted store) (reading words) (plain_reading words)

by_memory : (store : Store) (words : List (List ℕ)) (is_refused : Bool) → is_out_of_memory (if◌then◌else◌ {A = Answer} is_refused (refused store refusal.OutOfMemory) (answer store words)).1 ≡ is_refused
by_memory store words true = refl
by_memory store words false = plain_answer store words

pub want_of_memory_lem : WantOfMemoryIsTold
unfolding answer_with
want_of_memory_lem store request = by_memory store request.words request.is_refused
