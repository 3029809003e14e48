-- The lengths that the core keeps stay those of its rows.
use Rattle.std.proofs.Common.{◌≡◌, ◌≢◌, ℕ, suc, ◌+◌, ◌<◌, ◌≤◌, List, [], ◌∷◌, length, map, slice_index_or, Option, Some, None, refl, sym, ◌∙◌, subst, arith, true, false, ⊎_elim}
use Rattle.std.specs.Prelude.{All, Contains, IfSome}
use Rattle.std.specs.Option.{option_map}
use Rattle.std.specs.FinMap as finite
use Rattle.std.proofs.lemmas.Bool.{cases_eq, cond-true, cond-false}
use Rattle.std.proofs.lemmas.List.Elements.{All-set}
use Rattle.stow_bytes.specs.Bytes.{bytes_cmp}
use Rattle.stow_core.specs.declared.length_entry.LengthEntry.{LengthEntry}
use Rattle.stow_core.specs.RowLengths.{HaveLength, IsLengthIn, IsKeptIn, AreLengths}
use Rattle.stow_core.specs.Prepared.{after_given, next_number}
use Rattle.stow_core.specs.State.{CoreState, store_of, row_at, IsNewCore, Keeps, Moves}
use Rattle.stow_core.specs.Tenancies.{TenancyState, tenancy_at}
use Rattle.stow_core.specs.Writes.{row_given, IsLengthAfter, StaysShort}
use Rattle.stow_core.proofs.Carried.{IsCarried}
use Rattle.stow_core.proofs.Stores.{no_store, stored}
use Rattle.stow_core.proofs.Written.{given_are_written}
use Rattle.stow_ledger.specs.Shown.{sized_option}
use Rattle.stow_ledger.specs.declared.sized_version.SizedVersion.{SizedVersion}
use Rattle.stow_dropping.specs.StowMerge.declared.pins.Pins.{Pins}
use Rattle.stow_model.specs.Store.{Store, Version, value_in}
use Rattle.stow_ledger.specs.StowState.Changes.{AreRowsBefore}
use Rattle.stow_ledger.specs.StowState.Rows.{version_of}
use Rattle.stow_ledger.proofs.StowState.Changes.{rows_are_below_law}
use Rattle.stow_ledger.proofs.StowState.Rows.{get-with_row}
use Rattle.stow_dropping.specs.StowTree.TreeState.{tree_messages}
use Rattle.stow_tree_model.specs.Keys.{own_key}
use Rattle.stow_tree_model.specs.Merged.{same_key}
use Rattle.stow_tree_model.specs.Op.{Op}
use Rattle.stow_tree_model.specs.Operations.{numbered, outcome}
use Rattle.stow_tree_model.proofs.Orders.{key_cases}

-- the version has this length, if it has the number
abbrev HasLength : Option Version → ℕ → ℕ → Type 0
HasLength row number bytes = IfSome row (λ version. version.number ≡ number → length version.value ≡ bytes)

-- ---- stores that move

still : (store store' : Store) (number bytes : ℕ) → store'.last ≡ store.last → store'.rows ≡ store.rows → IsLengthIn store number bytes → IsLengthIn store' number bytes
still store store' number bytes last rows is = record {
  is_past = subst (λ l. number ≤ l) (sym last) is.is_past;
  is_length = subst (λ r. HaveLength r number bytes) (sym rows) is.is_length;
}

-- the rows of the next write have its number
written : (keys : List (List ℕ)) (op : Op) (store : Store) (number bytes : ℕ) → IsLengthIn store number bytes → IsLengthIn (after_given keys op store) number bytes
written keys op store number bytes is = record {
  is_past = let past = is.is_past in omega (arith, past);
  is_length = λ key. ⊎_elim
      (λ (same : finite.get (after_given keys op store).rows key ≡ finite.get store.rows key). subst (λ o. HasLength o number bytes) (sym same) (is.is_length key))
      (λ (now : IfSome (finite.get (after_given keys op store).rows key) (λ v. v.number ≡ store.last + 1)). newer (finite.get (after_given keys op store).rows key) now)
      (given_are_written (store.last + 1) op (map own_key keys) store.rows key);
}
  where
    newer : (o : Option Version) → IfSome o (λ v. v.number ≡ store.last + 1) → HasLength o number bytes
    newer None now = tt
    newer (Some v) now = λ older. absurd (let past = is.is_past in omega (arith, now, older, past))

each_length : (old new : CoreState) (lengths : List LengthEntry) → ((t number bytes : ℕ) → IsLengthIn (store_of old t) number bytes → IsLengthIn (store_of new t) number bytes) → AreLengths old lengths → AreLengths new lengths
each_length old new lengths stay are = λ k d l. let entry = slice_index_or lengths k d in stay entry.tenant entry.number entry.length (are k d l)

moved : (old new : CoreState) (t : ℕ) (store : Store) (lengths : List LengthEntry) → Moves old t store new → ((number bytes : ℕ) → IsLengthIn (store_of old t) number bytes → IsLengthIn store number bytes) → AreLengths old lengths → AreLengths new lengths
moved old new t store lengths moves stay = each_length old new lengths (λ u number bytes is. ⊎_elim
    (λ (e : u ≡ t). subst (λ v. IsLengthIn (store_of new v) number bytes) (sym e) (subst (λ s. IsLengthIn s number bytes) (sym moves.own) (stay number bytes (subst (λ v. IsLengthIn (store_of old v) number bytes) e is))))
    (λ (ne : u ≢ t). subst (λ s. IsLengthIn s number bytes) (sym (moves.others u ne)) is)
    (cases_eq u t))

-- ---- the core's lengths

-- a new core has no rows
pub new_lengths : (core : CoreState) (lengths : List LengthEntry) → IsNewCore core → All (λ (entry : LengthEntry). entry.number ≡ 0) lengths → AreLengths core lengths
new_lengths core lengths new none = λ k d l. let entry = slice_index_or lengths k d in
    subst (λ s. IsLengthIn s entry.number entry.length) (sym (new.stores entry.tenant))
    (record { is_past = let zero_is = none k d l in omega (arith, zero_is); is_length = λ key. subst (λ o. HasLength o entry.number entry.length) (sym (finite.get-empty bytes_cmp key)) tt })

pub kept_lengths : (old new : CoreState) (lengths : List LengthEntry) → Keeps old new → AreLengths old lengths → AreLengths new lengths
kept_lengths old new lengths keeps = each_length old new lengths (λ t number bytes is. subst (λ s. IsLengthIn s number bytes) (sym (keeps.stores t)) is)

-- stores don't speak of room for pins
pub repinned_lengths : (core : CoreState) (pin_room : ℕ) (lengths : List LengthEntry) → AreLengths core lengths → AreLengths (record core { pin_room = pin_room }) lengths
unfolding store_of
repinned_lengths core pin_room lengths are = are

module _ {A : Type 0} (core core' new : CoreState) (t : ℕ) (pins : Pins A) (lengths : List LengthEntry) (seen : core ≡ core') where
  -- a change that writes no row
  pub still_lengths : (change : Store → Store) → IsCarried core' new t pins change → ((s : Store) → (change s).last ≡ s.last) → ((s : Store) → (change s).rows ≡ s.rows) → AreLengths core lengths → AreLengths new lengths
  still_lengths change carried last rows are =
      moved core' new t (change (store_of core' t)) lengths carried.moves (λ number bytes. still (store_of core' t) (change (store_of core' t)) number bytes (last (store_of core' t)) (rows (store_of core' t)))
      (subst (λ c. AreLengths c lengths) seen are)

  -- a write, with the length that it tells
  pub put_lengths : (keys : List (List ℕ)) (op : Op) (number : ℕ) (told : Option ℕ) (lengths' : List LengthEntry) → IsCarried core' new t pins (after_given keys op) → number ≡ next_number core' t
      → IfSome told (HaveLength (after_given keys op (store_of core' t)).rows (next_number core' t)) → IsKeptIn lengths t number told lengths' → AreLengths core lengths → AreLengths new lengths'
  put_lengths keys op number told lengths' carried next tells kept are = one told tells kept where
    stay : AreLengths new lengths
    stay = moved core' new t (after_given keys op (store_of core' t)) lengths carried.moves (λ n bytes. written keys op (store_of core' t) n bytes) (subst (λ c. AreLengths c lengths) seen are)

    one : (o : Option ℕ) → IfSome o (HaveLength (after_given keys op (store_of core' t)).rows (next_number core' t)) → IsKeptIn lengths t number o lengths' → AreLengths new lengths'
    one None tells kept = subst (AreLengths new) (sym kept) stay
    one (Some bytes) tells kept = subst (AreLengths new) (sym kept.1)
        (All-set (λ (entry : LengthEntry). IsLengthIn (store_of new entry.tenant) entry.number entry.length) lengths kept.0 (record { tenant = t; length = bytes; number = number })
        (subst (λ s. IsLengthIn s number bytes) (sym carried.moves.own)
        (subst (λ n. IsLengthIn (after_given keys op (store_of core' t)) n bytes) (sym next)
        (record { is_past = omega arith; is_length = tells })))
        stay)

-- an entry of the table is so
pub entry_length : (core : CoreState) (lengths : List LengthEntry) (entry : LengthEntry) → AreLengths core lengths → Contains lengths entry → IsLengthIn (store_of core entry.tenant) entry.number entry.length
entry_length core lengths entry are (k, l, e) = subst (λ (x : LengthEntry). IsLengthIn (store_of core x.tenant) x.number x.length) e (are k entry l)

-- ---- what a write tells

-- no row has a later number than the last write
pub rows_below : (core : CoreState) (t : ℕ) → AreRowsBefore (suc (store_of core t).last) (store_of core t).rows
rows_below core t = one (tenancy_at t core.tenancies) refl where
  one : (o : Option TenancyState) → tenancy_at t core.tenancies ≡ o → AreRowsBefore (suc (store_of core t).last) (store_of core t).rows
  one None at = subst (λ (s : Store). AreRowsBefore (suc s.last) s.rows) (sym (no_store core t at)) (λ key. subst (λ o. IfSome o (λ v. v.number < 1)) (sym (finite.get-empty bytes_cmp key)) tt)
  one (Some own) at = subst (λ (s : Store). AreRowsBefore (suc s.last) s.rows) (sym (stored core t own at)) (rows_are_below_law (tree_messages core.tree) t own.last)

-- the length after a write of one key, where it is told
pub one_length : (core : CoreState) (t : ℕ) (key : List ℕ) (op : Op) (before : Option SizedVersion) (after told : Option ℕ) → before ≡ sized_option (row_at core t (own_key key)) → StaysShort op (value_in (row_at core t (own_key key))) → IsLengthAfter op before after → IfSome told (λ bytes. after ≡ Some bytes)
    → IfSome told (HaveLength (after_given (key ∷ []) op (store_of core t)).rows (next_number core t))
one_length core t key op before after None was short is tells = tt
one_length core t key op before after (Some bytes) was short is tells = λ k. subst (λ o. HasLength o (next_number core t) bytes)
    (sym (get-with_row (own_key key) (row_given (next_number core t) op (row_at core t (own_key key))) (store_of core t).rows k))
    (⊎_elim
    (λ (s : (k ≡ own_key key) × (same_key k (own_key key) ≡ true)). subst (λ o. HasLength o (next_number core t) bytes) (sym (cond-true _ _ _ s.1)) (made (outcome op (value_in (row_at core t (own_key key)))) (sym tells ∙ is (row_at core t (own_key key)) was short)))
    (λ (s : (k ≢ own_key key) × (same_key k (own_key key) ≡ false)). subst (λ o. HasLength o (next_number core t) bytes) (sym (cond-false _ _ _ s.1)) (older (row_at core t k) (rows_below core t k)))
    (key_cases k (own_key key)))
  where
    made : (o : Option (List ℕ)) → Some bytes ≡ option_map length o → HasLength (version_of (numbered (next_number core t) o)) (next_number core t) bytes
    made None e = tt
    made (Some value) e = λ _. cc

    older : (o : Option Version) → IfSome o (λ v. v.number < suc (store_of core t).last) → HasLength o (next_number core t) bytes
    older None low = tt
    older (Some v) low = λ e. absurd (omega (arith, low, e))
