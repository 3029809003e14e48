-- What the type keeps of its lists, and what that means of the versions.
use Rattle.std.proofs.Common.{◌≡◌, ℕ, ◌≤◌, ◌<◌, ◌+◌, List, [], ◌∷◌, ◌++◌, length, refl, ap, ◌∙◌, sym, subst, arith}
use Rattle.std.specs.Prelude.{All, Result, Ok, Err, IfErr, OnOk, min}
use Rattle.stow_bytes.specs.Limits.{number_limit, snapshot_limit}
use Rattle.std.specs.Ordering.{nat_cmp}
use Rattle.stow_versions.specs.declared.snapshot_fault.SnapshotFault.{SnapshotFault}
use Rattle.stow_versions.specs.declared.snapshot_fault.SnapshotFault.TheVariants.{TooMany, OutOfMemory}
use Rattle.std.specs.List.{AllPairs}
use Rattle.std.specs.FinMap as map
use Rattle.stow_versions.specs.VersionsState.{VersionsState, IsVersionsState, IsReady}
use Rattle.stow_versions.specs.VersionLists.{snapshots_of, ArePins, AreVersionLists}
use Rattle.stow_versions.proofs.SnapshotLemmas.{keys_of, values_of, len_of, get_of, find_here, find_absent, place_is, rise_push, rise_remove, insert_push, remove_at}
use Rattle.std.specs.Prelude.{◌==◌, Option, Some, None, IsSome, is_some, T}
use Rattle.std.specs.List.{zip, position, remove}
use Rattle.std.specs.FinMap.{find}
use Rattle.std.proofs.Common.{get_or, length-append, ⊎_elim}
use Rattle.std.proofs.lemmas.Bool.{cases_lt}
use Rattle.std.proofs.lemmas.List.Edits.{length-remove, get_or-remove_below, get_or-remove_above}
use Rattle.std.proofs.lemmas.List.Elements.{All-push}
use Rattle.std.proofs.lemmas.List.Quantifiers.{all_pairs_push, all_pairs_remove}

pub are_versions : (last next room : ℕ) (ids numbers pins : List ℕ) → AreVersionLists last next ids numbers pins → IsVersionsState (record { last = last; snapshots = snapshots_of ids numbers; next = next; room = room })
are_versions last next room ids numbers pins are = record {
  few = subst (λ n. n ≤ snapshot_limit) (sym (len_of ids numbers are.each are.ids_rise)) are.few;
  ids_below = subst (λ ks. All (λ id. id < next) ks) (sym (keys_of ids numbers are.each are.ids_rise)) are.ids_below;
  ids_within = are.ids_within;
  numbers_rise = subst (λ ns. AllPairs (λ earlier later. earlier ≤ later) ns) (sym (values_of ids numbers are.each are.ids_rise)) are.numbers_rise;
  numbers_below = subst (λ ns. All (λ number. number ≤ last) ns) (sym (values_of ids numbers are.each are.ids_rise)) are.numbers_below;
  numbers_within = are.numbers_within;
}

-- versions with the same snapshots and as much room are the same
pub same_versions : (last next : ℕ) (s t : map.FinMap nat_cmp ℕ) (m n : ℕ) → s ≡ t → m ≡ n → ◌≡◌ {A = VersionsState} (record { last = last; snapshots = s; next = next; room = m }) (record { last = last; snapshots = t; next = next; room = n })
same_versions last next s t m n p q = λ i. record { last = last; snapshots = p i; next = next; room = q i }

-- empty lists are no snapshot
pub no_snapshots : (ids numbers : List ℕ) → ids ≡ [] → numbers ≡ [] → snapshots_of ids numbers ≡ map.empty
no_snapshots ids numbers e f =
    (λ i. snapshots_of (e i) (f i)) ∙ map.empty_of_len (snapshots_of [] []) (len_of [] [] refl refl)

-- how many snapshots are seen
pub len_seen : (v : VersionsState) (last next room : ℕ) (ids numbers pins : List ℕ) → AreVersionLists last next ids numbers pins → record { last = last; snapshots = snapshots_of ids numbers; next = next; room = room } ≡ v → map.len v.snapshots ≡ length ids
len_seen v last next room ids numbers pins are seen = ap (λ (w : VersionsState). map.len w.snapshots) (sym seen) ∙ len_of ids numbers are.each are.ids_rise

abbrev fault_or : Result (Unit {0}) SnapshotFault → SnapshotFault → SnapshotFault
fault_or (Ok x) d = d
fault_or (Err f) d = f

-- a refusal of memory does not say that too many are live
pub not_too_many : (r : Result (Unit {0}) SnapshotFault) → IfErr r (λ f. f ≡ OutOfMemory) → r ≡ Err TooMany → ⊥
not_too_many (Ok x) h e = cc
not_too_many (Err f) h e = let g : f ≡ TooMany = ap (λ s. fault_or s f) e in let both : OutOfMemory ≡ TooMany = sym h ∙ g in cc

-- where there is room, an id and a place, one more can be taken
pub is_ready : (r : Result (Unit {0}) SnapshotFault) (v : VersionsState) → OnOk r (0 < v.room) → map.len v.snapshots < snapshot_limit → v.next ≤ number_limit → OnOk r (IsReady v)
is_ready (Ok x) v room few left = record { few = few; id_left = left; room = room }
is_ready (Err f) v room few left = tt

pub on_ok_min : (r : Result (Unit {0}) SnapshotFault) (a b c : ℕ) → OnOk r ((0 < a) × (0 < b) × (0 < c)) → OnOk r (0 < min a (min b c))
on_ok_min (Ok x) a b c (p, q, s) = omega arith
on_ok_min (Err f) a b c h = tt

-- what number is seen under an id
pub get_seen : (v : VersionsState) (last next room : ℕ) (ids numbers pins : List ℕ) → AreVersionLists last next ids numbers pins → record { last = last; snapshots = snapshots_of ids numbers; next = next; room = room } ≡ v → (q : ℕ) → map.get v.snapshots q ≡ find nat_cmp q (zip ids numbers)
get_seen v last next room ids numbers pins are seen q = ap (λ (w : VersionsState). map.get w.snapshots q) (sym seen) ∙ get_of ids numbers are.each are.ids_rise q

-- no number is seen under an id without a place
pub none_seen : (v : VersionsState) (last next room : ℕ) (ids numbers pins : List ℕ) → AreVersionLists last next ids numbers pins → record { last = last; snapshots = snapshots_of ids numbers; next = next; room = room } ≡ v → (q : ℕ) → position (λ i. i == q) ids ≡ None → map.get v.snapshots q ≡ None
none_seen v last next room ids numbers pins are seen q h = get_seen v last next room ids numbers pins are seen q ∙ find_absent ids numbers q h

-- the number at an id's place is seen under the id
pub number_seen : (v : VersionsState) (last next room : ℕ) (ids numbers pins : List ℕ) → AreVersionLists last next ids numbers pins → record { last = last; snapshots = snapshots_of ids numbers; next = next; room = room } ≡ v → (q i : ℕ) → position (λ i. i == q) ids ≡ Some i → map.get v.snapshots q ≡ Some (get_or numbers i 0)
number_seen v last next room ids numbers pins are seen q i h =
    let at = place_is ids q i h in
    get_seen v last next room ids numbers pins are seen q ∙ find_here ids numbers q i are.each are.ids_rise at.0 at.1

-- one snapshot more
pub lists_push : (last next : ℕ) (ids numbers pins new : List ℕ) → AreVersionLists last next ids numbers pins → length ids < snapshot_limit → next ≤ number_limit → ArePins new (numbers ++ last ∷ []) → AreVersionLists last (next + 1) (ids ++ next ∷ []) (numbers ++ last ∷ []) new
lists_push last next ids numbers pins new are few left pins_are = record {
  each = length-append numbers (last ∷ []) ∙ ap (λ n. n + 1) are.each ∙ sym (length-append ids (next ∷ []));
  few = let size : length (ids ++ next ∷ []) ≡ length ids + 1 = length-append ids (next ∷ []) in omega arith;
  ids_rise = rise_push ids numbers next last are.each are.ids_rise (λ j l. are.ids_below j 0 l);
  ids_below = All-push (λ id. id < next + 1) ids next (λ k d l. let low = are.ids_below k d l in omega arith) (omega arith);
  ids_within = omega arith;
  numbers_rise = all_pairs_push (λ earlier later. earlier ≤ later) numbers last are.numbers_rise (λ k d l. are.numbers_below k d l);
  numbers_below = All-push (λ number. number ≤ last) numbers last are.numbers_below (omega arith);
  numbers_within = are.numbers_within;
  pins_are = pins_are;
}

all_remove : (P : ℕ → Type 0) (xs : List ℕ) (i : ℕ) → i < length xs → All P xs → All P (remove xs i)
all_remove P xs i l h k d b =
    let size = length-remove xs i l in
    ⊎_elim
    (λ (low : k < i). subst P (sym (get_or-remove_below xs i d k low l)) (h k d (omega arith)))
    (λ (high : i ≤ k). subst P (sym (get_or-remove_above xs i d k high l)) (h (k + 1) d (omega arith)))
    (cases_lt k i)

-- one snapshot fewer
pub lists_remove : (last next : ℕ) (ids numbers pins new : List ℕ) (q i : ℕ) → AreVersionLists last next ids numbers pins → i < length ids → get_or ids i 0 ≡ q → ArePins new (remove numbers i) → AreVersionLists last next (remove ids i) (remove numbers i) new
lists_remove last next ids numbers pins new q i are l e pins_are =
    let inner : i < length numbers = omega (arith, are.each) in
    let fewer_ids = length-remove ids i l in
    let fewer_numbers = length-remove numbers i inner in
    record {
      each = omega (arith, are.each);
      few = omega (arith, are.few);
      ids_rise = rise_remove ids numbers q i are.each are.ids_rise l e;
      ids_below = all_remove (λ id. id < next) ids i l are.ids_below;
      ids_within = are.ids_within;
      numbers_rise = all_pairs_remove (λ earlier later. earlier ≤ later) numbers i inner are.numbers_rise;
      numbers_below = all_remove (λ number. number ≤ last) numbers i inner are.numbers_below;
      numbers_within = are.numbers_within;
      pins_are = pins_are;
    }

-- one snapshot more is seen
pub push_seen : (v : VersionsState) (last next room room' : ℕ) (ids numbers pins : List ℕ) → AreVersionLists last next ids numbers pins → record { last = last; snapshots = snapshots_of ids numbers; next = next; room = room } ≡ v → ◌≡◌ {A = VersionsState} (record { last = last; snapshots = snapshots_of (ids ++ next ∷ []) (numbers ++ last ∷ []); next = next + 1; room = room' }) (record v { snapshots = map.insert v.snapshots v.next v.last; next = v.next + 1; room = room' })
push_seen v last next room room' ids numbers pins are seen =
    let pushed = insert_push ids numbers next last are.each are.ids_rise (λ j l. are.ids_below j 0 l) in
    let first : ◌≡◌ {A = VersionsState} (record { last = last; snapshots = snapshots_of (ids ++ next ∷ []) (numbers ++ last ∷ []); next = next + 1; room = room' }) (record { last = last; snapshots = map.insert (snapshots_of ids numbers) next last; next = next + 1; room = room' }) = same_versions last (next + 1) _ _ room' room' pushed refl in
    first ∙ ap (λ (w : VersionsState). record w { snapshots = map.insert w.snapshots w.next w.last; next = w.next + 1; room = room' }) seen

-- one snapshot fewer is seen
pub remove_seen : (v : VersionsState) (last next room room' : ℕ) (ids numbers pins : List ℕ) (q i : ℕ) → AreVersionLists last next ids numbers pins → record { last = last; snapshots = snapshots_of ids numbers; next = next; room = room } ≡ v → i < length ids → get_or ids i 0 ≡ q → ◌≡◌ {A = VersionsState} (record { last = last; snapshots = snapshots_of (remove ids i) (remove numbers i); next = next; room = room' }) (record v { snapshots = map.remove v.snapshots q; room = room' })
remove_seen v last next room room' ids numbers pins q i are seen l e =
    let removed = remove_at ids numbers q i are.each are.ids_rise l e in
    let first : ◌≡◌ {A = VersionsState} (record { last = last; snapshots = snapshots_of (remove ids i) (remove numbers i); next = next; room = room' }) (record { last = last; snapshots = map.remove (snapshots_of ids numbers) q; next = next; room = room' }) = same_versions last next _ _ room' room' removed refl in
    first ∙ ap (λ (w : VersionsState). record w { snapshots = map.remove w.snapshots q; room = room' }) seen

-- lists that are the same are kept the same
pub same_lists : (last next : ℕ) (ids ids' numbers numbers' pins : List ℕ) → ids' ≡ ids → numbers' ≡ numbers → AreVersionLists last next ids numbers pins → AreVersionLists last next ids' numbers' pins
same_lists last next ids ids' numbers numbers' pins e f are = subst (λ xs. AreVersionLists last next xs numbers' pins) (sym e) (subst (λ xs. AreVersionLists last next ids xs pins) (sym f) are)

-- and are seen the same
pub same_seen : (last next room : ℕ) (ids ids' numbers numbers' : List ℕ) → ids' ≡ ids → numbers' ≡ numbers → ◌≡◌ {A = VersionsState} (record { last = last; snapshots = snapshots_of ids' numbers'; next = next; room = room }) (record { last = last; snapshots = snapshots_of ids numbers; next = next; room = room })
same_seen last next room ids ids' numbers numbers' e f = λ i. record { last = last; snapshots = snapshots_of (e i) (f i); next = next; room = room }

-- lists of the same length have it without a place too
pub each_removed : (ids numbers : List ℕ) (i : ℕ) → length numbers ≡ length ids → i < length ids → length (remove numbers i) ≡ length (remove ids i)
each_removed ids numbers i each l =
    let inner : i < length numbers = omega (arith, each, l) in
    let fewer_ids = length-remove ids i l in
    let fewer_numbers = length-remove numbers i inner in
    omega (arith, each, fewer_ids, fewer_numbers)

pub absent_not_live : (o : Option ℕ) → o ≡ None → IsSome o → ⊥
absent_not_live o e live = absurd (subst T (sym (sym (ap is_some e) ∙ live)) tt)
