-- Commands that words say have keys within the limits, and what a change writes is within the limit.
use Rattle.std.proofs.Common.{◌≡◌, ℕ, ◌≤◌, Bool, true, false, cond, nat_lt, List, [], ◌∷◌, ◌++◌, length, Option, Some, None, ℤ, pos, negsuc, refl, sym, subst, arith}
use Rattle.std.proofs.Math.Bool.{◌||◌}
use Rattle.std.proofs.lemmas.Bool.{ltb-false, leb-true}
use Rattle.std.proofs.lemmas.Fmt.{length_signed_le}
use Rattle.std.specs.Prelude.{◌+ℤ◌}
use Rattle.std.specs.Fmt.{signed_decimal}
use Rattle.std.specs.List.{AllByRecursion, list_any}
use Rattle.stow_bytes.specs.Limits.{deleted_limit, key_limit, value_limit, number_limit}
use Rattle.stow_model.specs.NumberText.{is_integer, number_of, count_of}
use Rattle.stow_model.specs.declared.refusal.Refusal.{Refusal}
use Rattle.stow_model.specs.declared.refusal.Refusal.TheVariants as refusal
use Rattle.stow_model.specs.Reply as reply
use Rattle.stow_model.specs.declared.simple_string.SimpleString.TheVariants as simple
use Rattle.std.specs.Option.{unwrap_or}
use Rattle.stow_model.specs.Command.{Command, Echo, Get, GetMany, Exists, Length, Range, Del, TakeSnapshot, ListSnapshots, GetInSnapshot, RangeInSnapshot, ReportUsage, Change, Update, Set, Append, Add, Condition, Always, Reading, Understood, Refused, CommandEntry, reading, reading_among, commands, with_keys, is_long_key, is_named, of_text, of_key, of_keys, reading_ping, reading_range, reading_range_count, reading_set, reading_set_if, condition_named, reading_append, reading_add, reading_add_number, reading_del, of_nothing, reading_drop_id, reading_drop, reading_get_in_id, reading_get_in, reading_range_in_numbers, reading_range_in, reading_snapshot, snapshot_commands}
use Rattle.stow_model.specs.Store.{Outcome, Written, Unchanged, Failed, outcome, if_fits, allows, sum_outcome, stored_number}
use Rattle.std.specs.Prelude.{IsSomeAnd}
use Rattle.stow_core.specs.Writes.{StaysShort}
use Rattle.stow_tree_model.specs.Op.{Op}
use Rattle.stow_tree_model.specs.Operations.{bytes_or_none}
use Rattle.stow_tree_model.specs.Operations.{outcome as operated}
use Rattle.stow_core.specs.Legal.{HasLegalKeys, IsShortKey, AreShortKeys}

-- ---- commands

IsLegalReading : Reading → Type 0
IsLegalReading (Understood c) = HasLegalKeys c
IsLegalReading (Refused r) = Unit {0}

either_none : (a b : Bool) → (a || b) ≡ false → (a ≡ false) × (b ≡ false)
either_none true b e = absurd (apart e) where
  apart : true ≡ false → ⊥
  apart e = cc
either_none false b e = (refl, e)

are_short : (keys : List (List ℕ)) → list_any is_long_key keys ≡ false → AreShortKeys keys
are_short [] e = tt
are_short (key ∷ keys) e =
    let both = either_none (is_long_key key) (list_any is_long_key keys) e in
    let short : length key ≤ key_limit = ltb-false key_limit (length key) both.0 in
    (short, are_short keys both.1)

legal_with : (keys : List (List ℕ)) (c : Command) → (AreShortKeys keys → HasLegalKeys c) → IsLegalReading (with_keys keys c)
unfolding IsLegalReading
legal_with keys c legal = one (list_any is_long_key keys) refl where
  one : (b : Bool) → list_any is_long_key keys ≡ b → IsLegalReading (cond b (Refused refusal.KeyTooLong) (Understood c))
  one true e = tt
  one false e = legal (are_short keys e)

abbrev IsLegalEntry : CommandEntry → Type 0
IsLegalEntry entry = (arguments : List (List ℕ)) → IsLegalReading (entry.1 arguments)

legal_text : (arguments : List (List ℕ)) → IsLegalReading (of_text Echo arguments)
unfolding IsLegalReading
legal_text [] = tt
legal_text (text ∷ []) = tt
legal_text (_ ∷ _ ∷ _) = tt

legal_key : (command : List ℕ → Command) → ((key : List ℕ) → IsShortKey key → HasLegalKeys (command key)) → (arguments : List (List ℕ)) → IsLegalReading (of_key command arguments)
unfolding IsLegalReading
legal_key command legal [] = tt
legal_key command legal (key ∷ []) = legal_with (key ∷ []) (command key) (λ short. legal key short.0)
legal_key command legal (_ ∷ _ ∷ _) = tt

legal_keys : (command : List (List ℕ) → Command) → ((keys : List (List ℕ)) → AreShortKeys keys → HasLegalKeys (command keys)) → (arguments : List (List ℕ)) → IsLegalReading (of_keys command arguments)
unfolding IsLegalReading
legal_keys command legal [] = tt
legal_keys command legal (key ∷ keys) = legal_with (key ∷ keys) (command (key ∷ keys)) (legal (key ∷ keys))

legal_ping : (arguments : List (List ℕ)) → IsLegalReading (reading_ping arguments)
unfolding IsLegalReading
legal_ping [] = tt
legal_ping (text ∷ texts) = legal_text (text ∷ texts)

legal_range_count : (from to : List ℕ) (count : Option ℕ) → IsLegalReading (reading_range_count from to count)
unfolding IsLegalReading
legal_range_count from to None = tt
legal_range_count from to (Some count) = legal_with (from ∷ to ∷ []) (Range from to count) (λ short. (short.0, short.1.0))

legal_range : (arguments : List (List ℕ)) → IsLegalReading (reading_range arguments)
unfolding IsLegalReading
legal_range [] = tt
legal_range (_ ∷ []) = tt
legal_range (_ ∷ _ ∷ []) = tt
legal_range (from ∷ to ∷ count ∷ []) = legal_range_count from to (count_of (number_of count))
legal_range (_ ∷ _ ∷ _ ∷ _ ∷ _) = tt

legal_set_if : (key value : List ℕ) (condition : Option Condition) → IsLegalReading (reading_set_if key value condition)
unfolding IsLegalReading
legal_set_if key value None = tt
legal_set_if key value (Some condition) = legal_with (key ∷ []) (Change key (Set value condition)) (λ short. short.0)

legal_set : (arguments : List (List ℕ)) → IsLegalReading (reading_set arguments)
unfolding IsLegalReading
legal_set [] = tt
legal_set (_ ∷ []) = tt
legal_set (key ∷ value ∷ []) = legal_with (key ∷ []) (Change key (Set value Always)) (λ short. short.0)
legal_set (key ∷ value ∷ option ∷ []) = legal_set_if key value (condition_named option)
legal_set (_ ∷ _ ∷ _ ∷ _ ∷ _) = tt

legal_append : (arguments : List (List ℕ)) → IsLegalReading (reading_append arguments)
unfolding IsLegalReading
legal_append [] = tt
legal_append (_ ∷ []) = tt
legal_append (key ∷ suffix ∷ []) = legal_with (key ∷ []) (Change key (Append suffix)) (λ short. short.0)
legal_append (_ ∷ _ ∷ _ ∷ _) = tt

legal_add_number : (key : List ℕ) (amount : Option ℤ) → IsLegalReading (reading_add_number key amount)
unfolding IsLegalReading
legal_add_number key None = tt
legal_add_number key (Some amount) = legal_with (key ∷ []) (Change key (Add amount)) (λ short. short.0)

legal_add : (arguments : List (List ℕ)) → IsLegalReading (reading_add arguments)
unfolding IsLegalReading
legal_add [] = tt
legal_add (_ ∷ []) = tt
legal_add (key ∷ amount ∷ []) = legal_add_number key (number_of amount)
legal_add (_ ∷ _ ∷ _ ∷ _) = tt

legal_del : (arguments : List (List ℕ)) → IsLegalReading (reading_del arguments)
unfolding IsLegalReading
legal_del [] = tt
legal_del (key ∷ keys) = one (nat_lt deleted_limit (length (key ∷ keys))) refl where
  one : (b : Bool) → nat_lt deleted_limit (length (key ∷ keys)) ≡ b → IsLegalReading (cond b (Refused refusal.TooManyKeys) (with_keys (key ∷ keys) (Del (key ∷ keys))))
  one true e = tt
  one false e = legal_with (key ∷ keys) (Del (key ∷ keys)) (λ short. (short, ltb-false deleted_limit (length (key ∷ keys)) e))

legal_nothing : (command : Command) → HasLegalKeys command → (arguments : List (List ℕ)) → IsLegalReading (of_nothing command arguments)
unfolding IsLegalReading
legal_nothing command legal [] = legal
legal_nothing command legal (_ ∷ _) = tt

legal_drop_id : (id : Option ℤ) → IsLegalReading (reading_drop_id id)
unfolding IsLegalReading
legal_drop_id None = tt
legal_drop_id (Some id) = tt

legal_drop : (arguments : List (List ℕ)) → IsLegalReading (reading_drop arguments)
unfolding IsLegalReading
legal_drop [] = tt
legal_drop (id ∷ []) = legal_drop_id (number_of id)
legal_drop (_ ∷ _ ∷ _) = tt

legal_get_in_id : (key : List ℕ) (id : Option ℤ) → IsLegalReading (reading_get_in_id key id)
unfolding IsLegalReading
legal_get_in_id key None = tt
legal_get_in_id key (Some id) = legal_with (key ∷ []) (GetInSnapshot id key) (λ short. short.0)

legal_get_in : (arguments : List (List ℕ)) → IsLegalReading (reading_get_in arguments)
unfolding IsLegalReading
legal_get_in [] = tt
legal_get_in (_ ∷ []) = tt
legal_get_in (id ∷ key ∷ []) = legal_get_in_id key (number_of id)
legal_get_in (_ ∷ _ ∷ _ ∷ _) = tt

legal_range_in_numbers : (from to : List ℕ) (id : Option ℤ) (count : Option ℕ) → IsLegalReading (reading_range_in_numbers from to id count)
unfolding IsLegalReading
legal_range_in_numbers from to None count = tt
legal_range_in_numbers from to (Some id) None = tt
legal_range_in_numbers from to (Some id) (Some count) = legal_with (from ∷ to ∷ []) (RangeInSnapshot id from to count) (λ short. (short.0, short.1.0))

legal_range_in : (arguments : List (List ℕ)) → IsLegalReading (reading_range_in arguments)
unfolding IsLegalReading
legal_range_in [] = tt
legal_range_in (_ ∷ []) = tt
legal_range_in (_ ∷ _ ∷ []) = tt
legal_range_in (_ ∷ _ ∷ _ ∷ []) = tt
legal_range_in (id ∷ from ∷ to ∷ count ∷ []) = legal_range_in_numbers from to (number_of id) (count_of (number_of count))
legal_range_in (_ ∷ _ ∷ _ ∷ _ ∷ _ ∷ _) = tt

legal_among : (entries : List CommandEntry) (unknown : Refusal) → AllByRecursion IsLegalEntry entries → (name : List ℕ) (arguments : List (List ℕ)) → IsLegalReading (reading_among entries unknown name arguments)
unfolding IsLegalReading
legal_among [] unknown all name arguments = tt
legal_among (entry ∷ entries) unknown all name arguments = one (is_named name entry.0) (legal_among entries unknown all.1 name arguments) where
  one : (b : Bool) → IsLegalReading (reading_among entries unknown name arguments) → IsLegalReading (cond b (entry.1 arguments) (reading_among entries unknown name arguments))
  one true rest = all.0 arguments
  one false rest = rest

snapshots_are_legal : AllByRecursion IsLegalEntry snapshot_commands
snapshots_are_legal = (legal_nothing TakeSnapshot tt, (legal_nothing ListSnapshots tt, (legal_drop, (legal_get_in, (legal_range_in, tt)))))

legal_snapshot : (arguments : List (List ℕ)) → IsLegalReading (reading_snapshot arguments)
unfolding IsLegalReading
legal_snapshot [] = tt
legal_snapshot (name ∷ arguments) = legal_among snapshot_commands refusal.SyntaxError snapshots_are_legal name arguments

are_legal : AllByRecursion IsLegalEntry commands
are_legal = (
  legal_ping,
  (
    legal_text,
    (
      legal_key Get (λ key short. short),
      (
        legal_keys GetMany (λ keys short. short),
        (
          legal_keys Exists (λ keys short. short),
          (
            legal_key Length (λ key short. short),
            (
              legal_range,
              (
                legal_set,
                (
                  legal_append,
                  (
                    legal_key (λ key. Change key (Add (pos 1))) (λ key short. short),
                    (
                      legal_key (λ key. Change key (Add (negsuc 0))) (λ key short. short),
                      (
                        legal_add,
                        (
                          legal_del,
                          (legal_snapshot, (legal_nothing ReportUsage tt, tt)),
                        ),
                      ),
                    ),
                  ),
                ),
              ),
            ),
          ),
        ),
      ),
    ),
  ),
)

legal_reading : (words : List (List ℕ)) → IsLegalReading (reading words)
unfolding reading IsLegalReading
legal_reading [] = tt
legal_reading (name ∷ arguments) = legal_among commands refusal.UnknownCommand are_legal name arguments

-- what words say is within the limits
pub understood_legal : (words : List (List ℕ)) (c : Command) → Understood c ≡ reading words → HasLegalKeys c
unfolding IsLegalReading
understood_legal words c e = subst IsLegalReading (sym e) (legal_reading words)

-- ---- values

IsShortOutcome : Outcome → Type 0
IsShortOutcome (Written value r) = length value ≤ value_limit
IsShortOutcome (Unchanged r) = Unit {0}
IsShortOutcome (Failed r) = Unit {0}

if_short : (value : List ℕ) (o : Outcome) → (length value ≤ value_limit → IsShortOutcome o) → IsShortOutcome (if_fits value o)
unfolding IsShortOutcome
if_short value o short = one (nat_lt value_limit (length value)) refl where
  one : (b : Bool) → nat_lt value_limit (length value) ≡ b → IsShortOutcome (cond b (Failed refusal.ValueTooLong) o)
  one true e = tt
  one false e = short (ltb-false value_limit (length value) e)

short_number : (z : ℤ) → is_integer z ≡ true → length (signed_decimal z) ≤ value_limit
short_number (pos n) e = let l : n ≤ number_limit = leb-true n number_limit e in let s = length_signed_le 20 (pos n) (omega (arith, l)) (omega (arith, l)) in omega (arith, s)
short_number (negsuc n) e = let l : n ≤ number_limit = leb-true n number_limit e in let s = length_signed_le 20 (negsuc n) (omega (arith, l)) (omega (arith, l)) in omega (arith, s)

short_sum : (n : Option ℤ) (amount : ℤ) → IsShortOutcome (sum_outcome n amount)
unfolding IsShortOutcome
short_sum None amount = tt
short_sum (Some n) amount = one (is_integer (n +ℤ amount)) refl where
  one : (b : Bool) → is_integer (n +ℤ amount) ≡ b → IsShortOutcome (cond b (Written (signed_decimal (n +ℤ amount)) (reply.Integer (n +ℤ amount))) (Failed refusal.Overflow))
  one true e = short_number (n +ℤ amount) e
  one false e = tt

short_outcome : (update : Update) (present : Option (List ℕ)) → IsShortOutcome (outcome update present)
unfolding outcome IsShortOutcome
short_outcome (Set value condition) present = if_short value (cond (allows condition present) (Written value (reply.Simple simple.Ok)) (Unchanged reply.Null)) (λ short. one (allows condition present) short) where
  one : (b : Bool) → length value ≤ value_limit → IsShortOutcome (cond b (Written value (reply.Simple simple.Ok)) (Unchanged reply.Null))
  one true short = short
  one false short = tt
short_outcome (Append suffix) present = if_short (unwrap_or present [] ++ suffix) (Written (unwrap_or present [] ++ suffix) (reply.Integer (pos (length (unwrap_or present [] ++ suffix))))) (λ short. short)
short_outcome (Add amount) present = short_sum (stored_number present) amount

-- what a change writes is within the limit
pub written_short : (update : Update) (present : Option (List ℕ)) (value : List ℕ) (r : reply.Reply) → outcome update present ≡ Written value r → length value ≤ value_limit
unfolding IsShortOutcome
written_short update present value r e = subst IsShortOutcome e (short_outcome update present)

-- and so does what it gives the row's key
pub given_short : (update : Update) (present : Option (List ℕ)) (op : Op) (r : reply.Reply) → IsSomeAnd (operated op present) (λ value. outcome update present ≡ Written value r) → StaysShort op present
given_short update present op r told = one (operated op present) told where
  one : (o : Option (List ℕ)) → IsSomeAnd o (λ value. outcome update present ≡ Written value r) → length (bytes_or_none o) ≤ value_limit
  one None told = absurd told
  one (Some value) told = written_short update present value r told
