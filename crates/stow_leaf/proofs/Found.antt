-- Rows by key, and what a merge has of one.
use Rattle.std.proofs.Common.{◌≡◌, ◌≢◌, ℕ, zero, suc, ◌<◌, ◌≤◌, Bool, true, false, List, [], ◌∷◌, take, drop, map, Option, Some, None, refl, ap, ◌∙◌, sym, subst, arith, ⊎_elim}
use Rattle.std.specs.Prelude.{Contains, IsSome, is_some, if◌then◌else◌, slice_get}
use Rattle.std.specs.FinMap as finite
use Rattle.std.specs.List.{AllByRecursion}
use Rattle.std.specs.List.Sorted.{IsStrictlySortedBy}
use Rattle.std.specs.Ordering.{eq_by_cmp, is_lt, nat_cmp, ordering_then, ordering_reverse}
use Rattle.std.specs.declared.cmp.Ordering.{Ordering}
use Rattle.std.specs.declared.cmp.Ordering.TheVariants.{Less, Equal, Greater}
use Rattle.std.specs.Cmp.Lexicographic.{nat_list_cmp_total}
use Rattle.std.proofs.lemmas.Bool.Decides.{nat_tests}
use Rattle.stow_merge.specs.StowBytes.Bytes.{bytes_cmp}
use Rattle.stow_merge.specs.StowTreeModel.Op.{Op}
use Rattle.stow_merge.specs.StowTreeModel.Agreement.{TenantPins}
use Rattle.stow_merge.specs.StowTreeModel.Keys.{tenant_of}
use Rattle.stow_merge.specs.StowTreeModel.Merged.{op_of_value, row_message, rows_set, merged}
use Rattle.stow_merge.specs.StowTreeModel.Messages.{ops_of, ops_in, with_all, set_of}
use Rattle.stow_merge.specs.StowTreeModel.Operations.{Operations, NumberedValue, applied, latest, or_else, value_in, numbered, outcome, NoneAbove}
use Rattle.stow_merge.specs.StowTreeModel.Order.{VersionPlace, place_cmp, place_of, version_place, VersionsRise}
use Rattle.stow_merge.specs.StowTreeModel.TreeMessage.{TreeMessage}
use Rattle.stow_merge.specs.StowTreeModel.Value.{IsValue}
use Rattle.stow_merge.specs.StowTreeModel.Version.{Version}
use Rattle.stow_merge.proofs.StowTreeModel.Histories.{ops_in-at, ops_in-skip}
use Rattle.stow_merge.proofs.StowTreeModel.Latest.{contains_cases}
use Rattle.stow_merge.proofs.StowTreeModel.Merges.{pruned_agrees_law}
use Rattle.stow_merge.proofs.StowTreeModel.Orders.{place_cases}
use Rattle.stow_merge.proofs.StowTreeModel.Pruning.{contains_here, contains_there, none_in_nothing, pruning}
use Rattle.stow_merge.proofs.StowTreeModel.SetLemmas.{ops-with_all, same_agreement}
use Rattle.stow_merge.proofs.StowMessage.RisingLists.{no_path, lt_is}
use Rattle.stow_merge.proofs.Lists.{all_from_members, all_mapped_member}
use Rattle.stow_merge.specs.Pages.{HaveShortValues}
use Rattle.stow_merge.specs.StowPage.Format.{IsVersion}
use Rattle.stow_merge.specs.StowPage.Rows.{IsCountUpTo}
use Rattle.stow_leaf.specs.Intervals.{spans, NoneOutside}
use Rattle.stow_leaf.specs.Replacements.{GiveWay, ops_with, AreThere, HasShortValues}
use Rattle.stow_leaf.proofs.Intervals.{lt, by_test, lt_self}

-- ---- options

pub both_none : (a b : Option Op) → a ≡ None → b ≡ None → or_else a b ≡ None
both_none a b e f = ap (λ o. or_else o b) e ∙ f

pub or_none : (a b : Option Op) → b ≡ None → or_else a b ≡ a
or_none None b e = e
or_none (Some op) b e = refl

pub none_or : (a b : Option Op) → a ≡ None → or_else a b ≡ b
none_or a b e = ap (λ o. or_else o b) e

pub or_assoc : (a b c : Option Op) → or_else (or_else a b) c ≡ or_else a (or_else b c)
or_assoc None b c = refl
or_assoc (Some op) b c = refl

pub none_some : (o : Option Op) → o ≡ None → IsSome o → ⊥
none_some o e s = cc

pub none_unless : (o : Option Op) → (IsSome o → ⊥) → o ≡ None
none_unless None f = refl
none_unless (Some op) f = absurd (f refl)

pub some_or : {X : Type 0} (a b : Option Op) → (IsSome a → X) → (IsSome b → X) → IsSome (or_else a b) → X
some_or None b f g h = g h
some_or (Some op) b f g h = f refl

pub some_left : (a b : Option Op) → IsSome a → IsSome (or_else a b)
some_left None b h = absurd cc
some_left (Some op) b h = refl

pub some_right : (a b : Option Op) → IsSome b → IsSome (or_else a b)
some_right None b h = h
some_right (Some op) b h = refl

-- ---- messages by key

pub first_stays : (n : TreeMessage) (ns : List TreeMessage) (key : List ℕ) (k : ℕ) → IsSome (ops_in ns key k) → IsSome (ops_in (n ∷ ns) key k)
first_stays n ns key k s = step (eq_by_cmp place_cmp (key, k) (place_of n)) where
  step : (b : Bool) → IsSome (if b then Some n.op else ops_in ns key k)
  step true = refl
  step false = s

-- an operation that messages have is one of theirs
pub found_at : {X : Type 0} (ms : List TreeMessage) (key : List ℕ) (n : ℕ) → IsSome (ops_in ms key n) → ((m : TreeMessage) → Contains ms m → ◌≡◌ {A = VersionPlace} (key, n) (place_of m) → X) → X
found_at [] key n s f = absurd cc
found_at (m ∷ ms) key n s f = ⊎_elim
    (λ (e : (◌≡◌ {A = VersionPlace} (key, n) (place_of m)) × (eq_by_cmp place_cmp (key, n) (place_of m) ≡ true)). f m (contains_here m ms) e.0)
    (λ (e : (◌≢◌ {A = VersionPlace} (key, n) (place_of m)) × (eq_by_cmp place_cmp (key, n) (place_of m) ≡ false)).
    found_at ms key n (subst IsSome (ops_in-skip m ms key n e.0) s) (λ w c k. f w (contains_there m w ms c) k))
    (place_cases (key, n) (place_of m))

pub found : {X : Type 0} (ms : List TreeMessage) (key : List ℕ) (n : ℕ) → IsSome (ops_in ms key n) → ((m : TreeMessage) → Contains ms m → m.key ≡ key → X) → X
found ms key n s f = found_at ms key n s (λ m c e. f m c (sym (ap (λ (p : VersionPlace). p.0) e)))

-- the same of rows
pub found_row : {X : Type 0} (vs : List Version) (key : List ℕ) (n : ℕ) → IsSome (ops_in (map row_message vs) key n) → ((v : Version) → Contains vs v → v.key ≡ key → X) → X
found_row [] key n s f = absurd cc
found_row (v ∷ vs) key n s f = ⊎_elim
    (λ (e : (◌≡◌ {A = VersionPlace} (key, n) (place_of (row_message v))) × (eq_by_cmp place_cmp (key, n) (place_of (row_message v)) ≡ true)). f v (contains_here v vs) (sym (ap (λ (p : VersionPlace). p.0) e.0)))
    (λ (e : (◌≢◌ {A = VersionPlace} (key, n) (place_of (row_message v))) × (eq_by_cmp place_cmp (key, n) (place_of (row_message v)) ≡ false)).
    found_row vs key n (subst IsSome (ops_in-skip (row_message v) (map row_message vs) key n e.0) s) (λ w c k. f w (contains_there v w vs c) k))
    (place_cases (key, n) (place_of (row_message v)))

pub no_row : (vs : List Version) (key : List ℕ) (n : ℕ) → ((v : Version) → Contains vs v → v.key ≡ key → ⊥) → ops_in (map row_message vs) key n ≡ None
no_row vs key n h = none_unless (ops_in (map row_message vs) key n) (λ s. found_row vs key n s h)

pub row_there : (vs : List Version) (v : Version) → Contains vs v → IsSome (ops_in (map row_message vs) v.key v.number)
row_there [] v c = absurd (none_in_nothing v c)
row_there (w ∷ vs) v c = ⊎_elim
    (λ (e : w ≡ v). subst (λ (u : Version). IsSome (ops_in (map row_message (w ∷ vs)) u.key u.number)) e (ap is_some (ops_in-at (row_message w) (map row_message vs))))
    (λ (t : Contains vs v). first_stays (row_message w) (map row_message vs) v.key v.number (row_there vs v t))
    (contains_cases w v vs c)

-- ---- intervals

pub keys_within : (low high : List ℕ) (vs : List Version) → NoneOutside low high (map row_message vs) → (v : Version) → Contains vs v → spans low high v.key ≡ true
keys_within low high vs w v c = by_test (spans low high v.key) (λ e. e) (λ e. absurd (none_some (ops_in (map row_message vs) v.key v.number) (w.outside v.key v.number e) (row_there vs v c)))

pub rows_within : (low high : List ℕ) (vs : List Version) → ((v : Version) → Contains vs v → spans low high v.key ≡ true) → NoneOutside low high (map row_message vs)
rows_within low high vs h = record { outside = λ key n o. no_row vs key n (λ v c k. no_path (sym o ∙ ap (spans low high) (sym k) ∙ h v c)) }

-- ---- order

pub place_le : (p q : VersionPlace) → place_cmp p q ≡ Less → lt q.0 p.0 ≡ false
place_le p q l = by_test (lt q.0 p.0)
    (λ e. let g : bytes_cmp p.0 q.0 ≡ Greater = nat_list_cmp_total.antisymm p.0 q.0 ∙ ap ordering_reverse (lt_is (bytes_cmp q.0 p.0) e) in
    let z : Greater ≡ Less = ap (λ o. ordering_then o (nat_cmp p.1 q.1)) (sym g) ∙ l in
    absurd cc)
    (λ e. e)

-- a later version's key isn't below the first one's
pub from_first : (v : Version) (vs : List Version) (w : Version) → VersionsRise (v ∷ vs) → Contains (v ∷ vs) w → lt w.key v.key ≡ false
unfolding IsStrictlySortedBy
from_first v vs w r c = ⊎_elim
    (λ (e : v ≡ w). ap (λ (u : Version). lt u.key v.key) (sym e) ∙ lt_self v.key)
    (λ (t : Contains vs w). place_le (version_place v) (version_place w) (all_mapped_member (λ q. place_cmp (version_place v) q ≡ Less) version_place vs w r.0 t))
    (contains_cases v w vs c)

-- ---- merges

pub ops-set_of : (ms : List TreeMessage) (key : List ℕ) (n : ℕ) → ops_of (set_of ms) key n ≡ ops_in ms key n
ops-set_of ms key n = ops-with_all finite.empty ms key n ∙ ap (or_else (ops_in ms key n)) (finite.get-empty place_cmp (key, n)) ∙ or_none (ops_in ms key n) None refl

merged_ops : (rows : List Version) (batch : List TreeMessage) (key : List ℕ) (n : ℕ) → ops_of (with_all (rows_set rows) batch) key n ≡ ops_with batch rows key n
merged_ops rows batch key n = ops-with_all (rows_set rows) batch key n ∙ ap (or_else (ops_in batch key n)) (ops-set_of (map row_message rows) key n)

all_merged_ops : (rows : List Version) (batch : List TreeMessage) (key : List ℕ) → ops_of (with_all (rows_set rows) batch) key ≡ ops_with batch rows key
all_merged_ops rows batch key = λ i n. merged_ops rows batch key n i

pub merge_gives_way : (rows : List Version) (batch : List TreeMessage) (pins : TenantPins) (key : List ℕ) → GiveWay (pins (tenant_of key)) (ops_with batch rows key) (ops_in (map row_message (merged rows batch pins)) key)
merge_gives_way rows batch pins key bound none =
    same_agreement (all_merged_ops rows batch key) (λ i n. ops-set_of (map row_message (merged rows batch pins)) key n i) refl
    (pruned_agrees_law pins (with_all (rows_set rows) batch) key bound (subst (NoneAbove bound) (sym (all_merged_ops rows batch key)) none))

-- what gives way to itself
pub stays_itself : (pins : List ℕ) (f : Operations) → GiveWay pins f f
stays_itself pins f bound none = record { at_pins = λ p c. refl; from_bound = λ n l. refl; left_below = none; right_below = none }

-- a merged version is of a key that rows or messages have
pub merged_there : (rows : List Version) (batch : List TreeMessage) (pins : TenantPins) (v : Version) → Contains (merged rows batch pins) v → IsSome (ops_with batch rows v.key v.number)
merged_there rows batch pins v c = subst IsSome (merged_ops rows batch v.key v.number) ((pruning pins (with_all (rows_set rows) batch)).only_these v c).is_kept.0

pub merged_within : (low high : List ℕ) (rows : List Version) (batch : List TreeMessage) (pins : TenantPins) → NoneOutside low high (map row_message rows) → NoneOutside low high batch → (v : Version) → Contains (merged rows batch pins) v → spans low high v.key ≡ true
merged_within low high rows batch pins r b v c = by_test (spans low high v.key) (λ e. e) (λ e.
    absurd (none_some (ops_with batch rows v.key v.number)
    (both_none (ops_in batch v.key v.number) (ops_in (map row_message rows) v.key v.number) (b.outside v.key v.number e) (r.outside v.key v.number e))
    (merged_there rows batch pins v c)))

-- a key that a merge has a version of is one of its rows or messages
pub merged_keys : (rows : List Version) (batch : List TreeMessage) (pins : TenantPins) (key : List ℕ) (n : ℕ) → IsSome (ops_in (map row_message (merged rows batch pins)) key n) → AreThere (ops_with batch rows key)
merged_keys rows batch pins key n s = found_row (merged rows batch pins) key n s (λ v c k.
    subst (λ x. AreThere (ops_with batch rows x)) k (v.number, merged_there rows batch pins v c))

-- ---- values within the limit

put_short : (n : ℕ) (value : Option (List ℕ)) (before : Option NumberedValue) → IsValue value → IsValue (value_in (numbered n (outcome (op_of_value value) (value_in before))))
put_short n None before h = h
put_short n (Some bytes) before h = h

short_applied : (vs : List Version) (key : List ℕ) (n : ℕ) (before : Option NumberedValue) → HaveShortValues vs → IsValue (value_in before) → IsValue (value_in (applied n (ops_in (map row_message vs) key n) before))
short_applied [] key n before h b = b
short_applied (v ∷ vs) key n before h b = step (eq_by_cmp place_cmp (key, n) (place_of (row_message v))) (short_applied vs key n before h.1 b) where
  step : (t : Bool) → IsValue (value_in (applied n (ops_in (map row_message vs) key n) before)) → IsValue (value_in (applied n (if t then Some (op_of_value v.value) else ops_in (map row_message vs) key n) before))
  step true later = put_short n v.value before h.0
  step false later = later

-- rows with short values give each key short values
pub short_rows : (vs : List Version) (key : List ℕ) → HaveShortValues vs → HasShortValues (ops_in (map row_message vs) key)
unfolding latest
short_rows vs key h zero = short_applied vs key zero None h (record { is_short = λ bytes e. absurd cc })
short_rows vs key h (suc n) = short_applied vs key (suc n) (latest (ops_in (map row_message vs) key) n) h (short_rows vs key h n)

-- a merge's values are values that its rows and messages have
pub merged_short : (rows : List Version) (batch : List TreeMessage) (pins : TenantPins) → ((key : List ℕ) (n : ℕ) → IsSome (ops_with batch rows key n) → IsValue (value_in (latest (ops_with batch rows key) n))) → HaveShortValues (merged rows batch pins)
merged_short rows batch pins h = all_from_members (λ v. IsValue v.value) (merged rows batch pins) (λ v c.
    subst IsValue
    (sym (((pruning pins (with_all (rows_set rows) batch)).only_these v c).is_value ∙ ap (λ (f : Operations). value_in (latest f v.number)) (all_merged_ops rows batch v.key)))
    (h v.key v.number (merged_there rows batch pins v c)))

-- ---- rows below a key, and from it on

taken : (P : Version → Type 0) (rows : List Version) (at : ℕ) → ((i : ℕ) (v : Version) → i < at → slice_get rows i ≡ Some v → P v) → AllByRecursion P (take at rows)
taken P [] zero h = tt
taken P [] (suc at) h = tt
taken P (v ∷ rows) zero h = tt
taken P (v ∷ rows) (suc at) h = (h 0 v (omega arith) refl, taken P rows at (λ i w l e. h (suc i) w (omega arith) e))

dropped : (P : Version → Type 0) (rows : List Version) (at : ℕ) → ((i : ℕ) (v : Version) → at ≤ i → slice_get rows i ≡ Some v → P v) → AllByRecursion P (drop at rows)
dropped P [] zero h = tt
dropped P [] (suc at) h = tt
dropped P (v ∷ rows) zero h = (h 0 v (omega arith) refl, dropped P rows zero (λ i w l e. h (suc i) w (omega arith) e))
dropped P (v ∷ rows) (suc at) h = dropped P rows at (λ i w l e. h (suc i) w (omega arith) e)

-- rows are those below a key, and those from it on
pub record IsCut (rows : List Version) (key : List ℕ) (at : ℕ) : Type 0 where
  pub lower : AllByRecursion (λ (v : Version). lt v.key key ≡ true) (take at rows)
  pub upper : AllByRecursion (λ (v : Version). lt v.key key ≡ false) (drop at rows)

numbered_at : (rows : List Version) (i : ℕ) (v : Version) → AllByRecursion IsVersion rows → slice_get rows i ≡ Some v → 1 ≤ v.number
numbered_at [] i v h e = absurd cc
numbered_at (w ∷ rows) zero v h e = subst (λ (u : Version). 1 ≤ u.number) (some_same w v e) h.0.is_numbered.0 where
  some_same : (a b : Version) → ◌≡◌ {A = Option Version} (Some a) (Some b) → a ≡ b
  some_same a b e = cc
numbered_at (w ∷ rows) (suc i) v h e = numbered_at rows i v h.1 e

number_above : (n : ℕ) → 1 ≤ n → nat_cmp 0 n ≡ Less
number_above n l = grind (arith, nat_tests, l)

is_under : (o : Ordering) (n : ℕ) → 1 ≤ n → is_lt (ordering_then o (nat_cmp 0 n)) ≡ false → is_lt (ordering_reverse o) ≡ true
is_under Less n l e = absurd cc
is_under Equal n l e = absurd (no_path (sym e ∙ ap is_lt (number_above n l)))
is_under Greater n l e = refl

pub is_cut : (rows : List Version) (key : List ℕ) (at : ℕ) → AllByRecursion IsVersion rows → IsCountUpTo rows (key, 0) at → IsCut rows key at
is_cut rows key at vs count = record {
  lower = taken (λ (v : Version). lt v.key key ≡ true) rows at (λ i v l e.
      ap is_lt (nat_list_cmp_total.antisymm v.key key) ∙ is_under (bytes_cmp key v.key) v.number (numbered_at rows i v vs e) (count.up_to i v l e));
  upper = dropped (λ (v : Version). lt v.key key ≡ false) rows at (λ i v l e.
      place_le (key, 0) (version_place v) (lt_is (place_cmp (key, 0) (version_place v)) (count.above i v l e)));
}
