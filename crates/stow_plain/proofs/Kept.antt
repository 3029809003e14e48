-- What the contents keep, and what that means of the store.
use Rattle.std.proofs.lemmas.Bool.{lt-ltb, le-ltb, le-leb, lt-leb, leb-true, leb-false, cases_Bool, cases_lt, false≢true}
use Rattle.std.proofs.Common.{◌≡◌, ⊎_elim, ◌^◌, ℕ, ◌+◌, ◌-◌, ◌<◌, ◌≤◌, Bool, true, false, List, [], ◌∷◌, ◌++◌, length, Option, Some, None, refl, ap, ◌∙◌, sym, subst, arith, cond}
use Rattle.std.specs.Prelude.{filter, not, sum_by, nat_lt, nat_le, ◌&&◌, ◌||◌, ◌==◌, pos, map as each}
use Rattle.std.specs.List.{flat_map, AllByRecursion, AllZip}
use Rattle.std.specs.Ordering.{nat_cmp}
use Rattle.std.specs.FinMap.{find, is_sorted}
use Rattle.std.specs.FinMap as map
use Rattle.stow_bytes.specs.Bytes.{bytes_cmp}
use Rattle.stow_bytes.specs.Limits.{number_limit}
use Rattle.std.specs.Borrow.{Bor}
use Rattle.std.specs.Option.{option_copied}
use Rattle.std.specs.Prelude.{is_some, ℤ, negsuc, if◌then◌else◌}
use Rattle.stow_model.specs.Item as item
use Rattle.stow_model.specs.Reply.{Reply}
use Rattle.stow_model.specs.Reply as reply
use Rattle.stow_model.specs.declared.refusal.Refusal.TheVariants as refusal
use Rattle.stow_model.specs.declared.usage.Usage.{Usage}
use Rattle.stow_model.specs.Store.{Version, Rows, Store, Answer, Shown, shown_by, charge, usage, can_take, id_items, snapshot_rows, written, within_quota, refused, one_more, number_in}
use Rattle.stow_ledger.specs.declared.charge.Charge.{Charge}
use Rattle.stow_ledger.specs.declared.shown_row.ShownRow.{ShownRow}
use Rattle.stow_ledger.specs.Charges.{is_shown, row_freed}
use Rattle.stow_ledger.specs.Shown.{is_in, cost_of_all, sized, without_snapshot, IsToldOf}
use Rattle.stow_ledger.proofs.KeptLemmas.{take_is_free_law}
use Rattle.stow_ledger.proofs.DropLemmas.{drop_is_charged_law}
use Rattle.stow_plain.specs.declared.plain_snapshot.PlainSnapshot.{PlainSnapshot}
use Rattle.stow_plain.specs.declared.plain_store.PlainStore.{PlainStore}
use Rattle.stow_plain.specs.Contents.{Contents, is_allowed, bare, charge_of, pairs_of, snapshots_of, shown_in, AreContents}
use Rattle.stow_plain.specs.OwnRun.{store_of}
use Rattle.stow_plain.proofs.Copies.{entries_of, keys_of_pairs, len_of, get_of, shown_of, new_id, rise_push, insert_push, all_push, rise_filter, all_filter, remove_filter}

-- only what is shown is charged
pub charge_same : (s t : Store) → s.rows ≡ t.rows → s.snapshots ≡ t.snapshots → charge s ≡ charge t
unfolding charge
charge_same s t p q = λ i. cost_of_all (map.entries (p i) ++ flat_map map.entries (map.values (q i)))

abbrev pub seen_as : {A : Type 0} → Rows → List (PlainSnapshot A) → ℕ → Contents
seen_as rows copies next = record { rows = rows; snapshots = snapshots_of copies; next = next }

-- what a drop is told of a version that the dropped snapshot showed
abbrev tell : Store → Shown → ShownRow
tell after v = record { key = length v.0; version = sized v.1; next = cond (is_in v (shown_by after)) None (Some 0) }

told_each : (after : Store) (shown : List Shown) → AllZip (IsToldOf after []) shown (each (tell after) shown)
told_each after [] = tt
told_each after (v ∷ shown) = (record { key = refl; version = refl; still = still v (is_in v (shown_by after)) }, told_each after shown)
  where
    still : (v : Shown) (b : Bool) → is_shown [] (record { key = length v.0; version = sized v.1; next = cond b None (Some 0) }) ≡ b
    still v true = refl
    still v false = refl

fewer : (c : Contents) (id : ℕ) (copy : Rows) → map.get c.snapshots id ≡ Some copy → charge_of (record c { snapshots = map.remove c.snapshots id }) ≤ charge_of c
fewer c id copy live =
    let after = without_snapshot (bare c) id in
    let sum = sum_by (row_freed []) (each (tell after) (map.entries copy)) in
    let dropped : charge after ≡ charge (bare c) - sum = ap (λ (x : Charge). x.charge) (drop_is_charged_law (bare c) id copy (each (tell after) (map.entries copy)) [] live (told_each after (map.entries copy))) in
    lower (charge (bare c)) (charge after) sum dropped
  where
    lower : (before after sum : ℕ) → after ≡ before - sum → after ≤ before
    lower before after sum e = omega arith

module _ {A : Type 0} where
  pub charge_is : (rows : Rows) (copies : List (PlainSnapshot A)) (next : ℕ) → is_sorted nat_cmp (pairs_of copies) ≡ true → charge_of (seen_as rows copies next) ≡ cost_of_all (map.entries rows ++ shown_in copies)
  unfolding charge
  charge_is rows copies next rise = ap (λ others. cost_of_all (map.entries rows ++ others)) (shown_of copies rise)

  pub can_take_seen : (rows : Rows) (copies : List (PlainSnapshot A)) (next n : ℕ) (v : Contents) → is_sorted nat_cmp (pairs_of copies) ≡ true → seen_as rows copies next ≡ v → n ≡ length copies → (nat_lt n 64 && nat_le next number_limit) ≡ can_take (bare v)
  can_take_seen rows copies next n v rise seen len = ap (λ m. nat_lt m 64 && nat_le next number_limit) (len ∙ sym (len_of copies rise)) ∙ ap (λ w. can_take (bare w)) seen

  -- ---- a snapshot is taken

  pub contents_push : (rows : Rows) (copies new : List (PlainSnapshot A)) (next : ℕ) (s : PlainSnapshot A) → AreContents rows copies next → next ≤ number_limit → s.id ≡ next → s.rows ≡ rows → new ≡ copies ++ s ∷ [] → AreContents rows new (next + 1)
  contents_push rows copies new next s are left id same pushed =
      let below : AllByRecursion (λ copy. copy.id < s.id) copies = subst (λ n. AllByRecursion (λ copy. copy.id < n) copies) (sym id) are.ids_below in
      let rise = rise_push copies s are.ids_rise below in
      let free : charge_of (record (seen_as rows copies next) { snapshots = map.insert (snapshots_of copies) next rows }) ≡ charge_of (seen_as rows copies next) =
      ap (λ (c : Charge). c.charge) (take_is_free_law (bare (seen_as rows copies next)) next (new_id copies next are.ids_rise are.ids_below)) in
      let inserted : snapshots_of (copies ++ s ∷ []) ≡ map.insert (snapshots_of copies) next rows = insert_push copies s are.ids_rise below ∙ (λ i. map.insert (snapshots_of copies) (id i) (same i)) in
      let charged : cost_of_all (map.entries rows ++ shown_in (copies ++ s ∷ [])) ≡ cost_of_all (map.entries rows ++ shown_in copies) =
      sym (charge_is rows (copies ++ s ∷ []) next rise)
      ∙ charge_same (bare (seen_as rows (copies ++ s ∷ []) next)) (bare (record (seen_as rows copies next) { snapshots = map.insert (snapshots_of copies) next rows })) refl inserted
      ∙ free
      ∙ charge_is rows copies next are.ids_rise in
      subst (λ cs. AreContents rows cs (next + 1)) (sym pushed) (record {
        ids_rise = rise;
        ids_below = subst (λ n. AllByRecursion (λ copy. copy.id < n + 1) (copies ++ s ∷ [])) id (all_push copies s below);
        ids_within = within next left;
        charge_within = subst (λ n. n ≤ number_limit) (sym charged) are.charge_within;
      })
    where
      within : (n : ℕ) → n ≤ number_limit → n + 1 ≤ number_limit + 1
      within n l = omega arith

  -- an id is left, where a snapshot can be taken
  pub left_seen : (rows : Rows) (copies : List (PlainSnapshot A)) (next : ℕ) (v : Contents) → seen_as rows copies next ≡ v → can_take (bare v) ≡ true → next ≤ number_limit
  left_seen rows copies next v seen can = leb-true next number_limit (second (nat_lt (map.len (snapshots_of copies)) 64) (nat_le next number_limit) (ap (λ (w : Contents). can_take (bare w)) seen ∙ can))
    where
      second : (a b : Bool) → (a && b) ≡ true → b ≡ true
      second true b e = e
      second false b e = absurd (false≢true e)

  pub seen_push : (rows : Rows) (copies new : List (PlainSnapshot A)) (next : ℕ) (s : PlainSnapshot A) (v : Contents) → AreContents rows copies next → s.id ≡ next → s.rows ≡ rows → new ≡ copies ++ s ∷ [] → seen_as rows copies next ≡ v → seen_as rows new (next + 1) ≡ record { rows = v.rows; snapshots = map.insert v.snapshots v.next v.rows; next = v.next + 1 }
  seen_push rows copies new next s v are id same pushed seen =
      let below : AllByRecursion (λ copy. copy.id < s.id) copies = subst (λ n. AllByRecursion (λ copy. copy.id < n) copies) (sym id) are.ids_below in
      let inserted : snapshots_of new ≡ map.insert (snapshots_of copies) next rows = ap snapshots_of pushed ∙ insert_push copies s are.ids_rise below ∙ (λ i. map.insert (snapshots_of copies) (id i) (same i)) in
      (λ i. record { rows = rows; snapshots = inserted i; next = next + 1 })
      ∙ ap (λ (w : Contents). record { rows = w.rows; snapshots = map.insert w.snapshots w.next w.rows; next = w.next + 1 }) seen

  -- ---- a snapshot is dropped

  pub contents_filter : (rows : Rows) (copies new : List (PlainSnapshot A)) (next id : ℕ) (v : Contents) → AreContents rows copies next → seen_as rows copies next ≡ v → true ≡ is_some (map.get v.snapshots id) → new ≡ filter (λ copy. not (copy.id == id)) copies → AreContents rows new next
  contents_filter rows copies new next id v are seen live left =
      let there = found (map.get (snapshots_of copies) id) (live ∙ ap (λ (w : Contents). is_some (map.get w.snapshots id)) (sym seen)) in
      let kept = filter (λ copy. not (copy.id == id)) copies in
      let rise = rise_filter copies id are.ids_rise in
      let charged : cost_of_all (map.entries rows ++ shown_in kept) ≡ charge_of (record (seen_as rows copies next) { snapshots = map.remove (snapshots_of copies) id }) =
      sym (charge_is rows kept next rise)
      ∙ charge_same (bare (seen_as rows kept next)) (bare (record (seen_as rows copies next) { snapshots = map.remove (snapshots_of copies) id })) refl (remove_filter copies id are.ids_rise) in
      subst (λ cs. AreContents rows cs next) (sym left) (record {
        ids_rise = rise;
        ids_below = all_filter copies id next are.ids_below;
        ids_within = are.ids_within;
        charge_within = lower _ _ _ charged (fewer (seen_as rows copies next) id there.0 there.1) (charge_is rows copies next are.ids_rise) are.charge_within;
      })
    where
      found : (o : Option Rows) → true ≡ is_some o → (copy : Rows) × (o ≡ Some copy)
      found None t = absurd (false≢true (sym t))
      found (Some copy) t = (copy, refl)

      lower : (after dropped before : ℕ) {whole : ℕ} → after ≡ dropped → dropped ≤ before → before ≡ whole → whole ≤ number_limit → after ≤ number_limit
      lower after dropped before e l f w = omega arith

  pub seen_filter : (rows : Rows) (copies new : List (PlainSnapshot A)) (next id : ℕ) (v : Contents) → AreContents rows copies next → new ≡ filter (λ copy. not (copy.id == id)) copies → seen_as rows copies next ≡ v → seen_as rows new next ≡ record v { snapshots = map.remove v.snapshots id }
  seen_filter rows copies new next id v are left seen =
      (λ i. record { rows = rows; snapshots = (ap snapshots_of left ∙ remove_filter copies id are.ids_rise) i; next = next })
      ∙ ap (λ (w : Contents). record w { snapshots = map.remove w.snapshots id }) seen

  -- ---- other rows

  pub contents_rows : (rows new : Rows) (copies : List (PlainSnapshot A)) (next quota : ℕ) (v : Contents) → AreContents rows copies next → seen_as rows copies next ≡ v → quota ≤ number_limit → is_allowed quota (charge_of v) (charge_of (record v { rows = new })) ≡ true → AreContents new copies next
  contents_rows rows new copies next quota v are seen within allowed = record {
    ids_rise = are.ids_rise;
    ids_below = are.ids_below;
    ids_within = are.ids_within;
    charge_within =
        let before : charge_of v ≡ cost_of_all (map.entries rows ++ shown_in copies) = sym (ap charge_of seen) ∙ charge_is rows copies next are.ids_rise in
        let after : charge_of (record v { rows = new }) ≡ cost_of_all (map.entries new ++ shown_in copies) = sym (ap (λ (w : Contents). charge_of (record w { rows = new })) seen) ∙ charge_is new copies next are.ids_rise in
        subst (λ n. n ≤ number_limit) after (fits quota (charge_of v) (charge_of (record v { rows = new })) within (subst (λ n. n ≤ number_limit) (sym before) are.charge_within) allowed);
  }
    where
      fits : (q a b : ℕ) → q ≤ number_limit → a ≤ number_limit → is_allowed q a b ≡ true → b ≤ number_limit
      fits q a b l m t = ⊎_elim
          (λ (e : nat_le b q ≡ true). let k : b ≤ q = leb-true _ _ e in omega arith)
          (λ (e : nat_le b q ≡ false). let k : b ≤ a = leb-true _ _ (ap (λ x. x || nat_le b a) (sym e) ∙ t) in omega arith)
          (cases_Bool (nat_le b q))

  pub charge_seen : (rows new : Rows) (copies lent : List (PlainSnapshot A)) (next n : ℕ) (v : Contents) → AreContents rows copies next → seen_as rows copies next ≡ v → lent ≡ copies → n ≡ cost_of_all (map.entries new ++ shown_in lent) → n ≡ charge_of (record v { rows = new })
  charge_seen rows new copies lent next n v are seen same e =
      e ∙ ap (λ cs. cost_of_all (map.entries new ++ shown_in cs)) same
      ∙ sym (charge_is new copies next are.ids_rise)
      ∙ ap (λ (w : Contents). charge_of (record w { rows = new })) seen

  pub charge_own : (rows : Rows) (copies lent : List (PlainSnapshot A)) (next n : ℕ) (v : Contents) → AreContents rows copies next → seen_as rows copies next ≡ v → lent ≡ copies → n ≡ cost_of_all (map.entries rows ++ shown_in lent) → n ≡ charge_of v
  charge_own rows copies lent next n v are seen same e =
      e ∙ ap (λ cs. cost_of_all (map.entries rows ++ shown_in cs)) same
      ∙ sym (charge_is rows copies next are.ids_rise)
      ∙ ap charge_of seen

  pub ids_seen : (rows : Rows) (copies : List (PlainSnapshot A)) (next : ℕ) (v : Contents) → AreContents rows copies next → seen_as rows copies next ≡ v → each (λ copy. item.Integer (pos copy.id)) copies ≡ id_items (bare v)
  ids_seen rows copies next v are seen =
      sym (keys_of_pairs (λ id. item.Integer (pos id)) copies)
      ∙ sym (ap (λ es. each (λ id. item.Integer (pos id)) (each (λ (p : ℕ × Rows). p.0) es)) (entries_of copies are.ids_rise))
      ∙ ap (λ (w : Contents). id_items (bare w)) seen

  pub ids_within : (next : ℕ) (copies : List (PlainSnapshot A)) → next ≤ number_limit + 1 → AllByRecursion (λ copy. copy.id < next) copies → AllByRecursion (λ copy. copy.id ≤ number_limit) copies
  ids_within next [] l below = tt
  ids_within next (c ∷ copies) l (b, below) = (omega arith, ids_within next copies l below)

  pub get_seen : (rows : Rows) (copies lent : List (PlainSnapshot A)) (next id : ℕ) (v : Contents) → AreContents rows copies next → seen_as rows copies next ≡ v → lent ≡ copies → find nat_cmp id (pairs_of lent) ≡ map.get v.snapshots id
  get_seen rows copies lent next id v are seen same = ap (λ cs. find nat_cmp id (pairs_of cs)) same ∙ sym (get_of copies are.ids_rise id) ∙ ap (λ (w : Contents). map.get w.snapshots id) seen

  -- ---- nothing yet

  pub new_are : (rows : Rows) (copies : List (PlainSnapshot A)) → rows ≡ map.empty → copies ≡ [] → AreContents rows copies 1
  new_are rows copies e f = subst (λ cs. AreContents rows cs 1) (sym f) (subst (λ r. AreContents {A = A} r [] 1) (sym e) (record {
    ids_rise = refl;
    ids_below = tt;
    ids_within = omega arith;
    charge_within = subst (λ (es : List Shown). cost_of_all (es ++ []) ≤ number_limit) (sym (nothing (map.entries (map.empty {X = Version} {R = bytes_cmp})) (sym (map.len-entries map.empty) ∙ map.len-empty bytes_cmp Version))) (omega arith);
  }))
    where
      nothing : {X : Type 0} (es : List X) → length es ≡ 0 → es ≡ []
      nothing [] e = refl
      nothing (x ∷ es) e = absurd (omega arith)

  pub new_seen : (rows : Rows) (copies : List (PlainSnapshot A)) → rows ≡ map.empty → copies ≡ [] → seen_as rows copies 1 ≡ record { rows = map.empty; snapshots = map.empty; next = 1 }
  new_seen rows copies e f =
      (λ i. seen_as (e i) (f i) 1)
      ∙ (λ i. record { rows = map.empty; snapshots = map.empty_of_len (snapshots_of {A = A} []) (len_of {A = A} [] refl) i; next = 1 })

-- none is found where there is none
pub none_found : {T : Type 0} (o : Option (Bor T)) (m : Option T) → option_copied o ≡ m → is_some o ≡ false → false ≡ is_some m
none_found None m e f = ap is_some e
none_found (Some x) m e f = absurd (false≢true (sym f))

pub some_found : {T : Type 0} (o : Option (Bor T)) (m : Option T) → option_copied o ≡ m → is_some o ≡ true → true ≡ is_some m
some_found None m e f = absurd (false≢true f)
some_found (Some x) m e f = ap is_some e

-- a snapshot's rows, by the number that its id is
pub rows_some : (c : Contents) (id : ℤ) (n : ℕ) → Some n ≡ number_in id → map.get c.snapshots n ≡ snapshot_rows (bare c) id
rows_some c (pos m) n e = ap (λ o. map.get c.snapshots (number_or o)) e
  where
    number_or : Option ℕ → ℕ
    number_or None = 0
    number_or (Some n) = n
rows_some c (negsuc m) n e = cc

pub rows_none : (c : Contents) (id : ℤ) → None ≡ number_in id → None ≡ snapshot_rows (bare c) id
rows_none c (pos m) e = cc
rows_none c (negsuc m) e = refl

-- ---- tests

pub and_less : (n m : ℕ) (b : Bool) → n < m → b ≡ (nat_lt n m && b)
and_less n m b l = ap (λ t. t && b) (sym (lt-ltb n m l))

pub and_more : (n m : ℕ) (b : Bool) → m ≤ n → nat_lt n m ≡ (nat_lt n m && b)
and_more n m b l = le-ltb n m l ∙ ap (λ t. t && b) (sym (le-ltb n m l))

allowed_by_quota : (q a b : ℕ) → b ≤ q → true ≡ is_allowed q a b
allowed_by_quota q a b l = ap (λ t. t || nat_le b a) (sym (le-leb b q l))

-- the answer of the first test, where it holds
pub allowed_then : (q a b : ℕ) → b ≤ q → nat_le b q ≡ is_allowed q a b
allowed_then q a b l = le-leb b q l ∙ allowed_by_quota q a b l

pub allowed_by_charge : (q a b : ℕ) → q < b → nat_le b a ≡ is_allowed q a b
allowed_by_charge q a b l = ap (λ t. t || nat_le b a) (sym (lt-leb b q l))

not_allowed : (q a b : ℕ) → q < b → a < b → false ≡ is_allowed q a b
not_allowed q a b l m = sym (lt-leb b a m) ∙ allowed_by_charge q a b l

exceeds : (q a b : ℕ) → (nat_lt q b && nat_lt a b) ≡ not (is_allowed q a b)
exceeds q a b = (λ i. less q b i && less a b i) ∙ neither (nat_le b q) (nat_le b a)
  where
    less : (x y : ℕ) → nat_lt x y ≡ not (nat_le y x)
    less x y = ⊎_elim
        (λ (t : nat_le y x ≡ true). le-ltb x y (leb-true _ _ t) ∙ ap not (sym t))
        (λ (f : nat_le y x ≡ false). lt-ltb x y (leb-false _ _ f) ∙ ap not (sym f))
        (cases_Bool (nat_le y x))

    neither : (x y : Bool) → (not x && not y) ≡ not (x || y)
    neither true y = refl
    neither false y = refl

-- what doesn't fit 64 bits is above a quota, and above a charge that does
pub none_allowed : {A : Type 0} (rows new : Rows) (copies lent : List (PlainSnapshot A)) (next quota : ℕ) (v : Contents) → AreContents rows copies next → seen_as rows copies next ≡ v → lent ≡ copies → quota < 2 ^ 64 → (cost_of_all (map.entries new ++ shown_in lent) < 2 ^ 64 → ⊥) → false ≡ is_allowed quota (charge_of v) (charge_of (record v { rows = new }))
none_allowed rows new copies lent next quota v are seen same l above =
    let before : charge_of v ≡ cost_of_all (map.entries rows ++ shown_in copies) = sym (ap charge_of seen) ∙ charge_is rows copies next are.ids_rise in
    let after : cost_of_all (map.entries new ++ shown_in lent) ≡ charge_of (record v { rows = new }) = charge_seen rows new copies lent next _ v are seen same refl in
    high quota _ _ l (subst (λ n. n ≤ number_limit) (sym before) are.charge_within) (subst (λ n. n < 2 ^ 64 → ⊥) after above)
  where
    high : (q a b : ℕ) → q < 2 ^ 64 → a ≤ number_limit → (b < 2 ^ 64 → ⊥) → false ≡ is_allowed q a b
    high q a b l m above = ⊎_elim
        (λ (f : b < 2 ^ 64). absurd (above f))
        (λ (h : 2 ^ 64 ≤ b). not_allowed q a b (omega arith) (omega arith))
        (cases_lt b (2 ^ 64))

-- ---- a write

next_if : (b : Bool) (n m : ℕ) → Some m ≡ (if b then Some n else None) → (b ≡ true) × (m ≡ n)
next_if true n m e = (refl, ap number_or e)
  where
    number_or : Option ℕ → ℕ
    number_or None = 0
    number_or (Some n) = n
next_if false n m e = cc

module _ {A : Type 0} (s : PlainStore A) (rows : Rows) (r : Reply) (number : ℕ) (left : Some number ≡ (if nat_lt s.last number_limit then Some (s.last + 1) else None)) where
  after : Store
  after = record (store_of s) { rows = rows; last = s.last + 1 }

  decided : (allowed : Bool) → allowed ≡ is_allowed s.quota (charge_of s.contents) (charge_of (record s.contents { rows = rows })) → ◌≡◌ {A = Answer} (if allowed then (after, r) else refused (record (store_of s) { refusals = one_more s.refusals }) refusal.QuotaExceeded) (written (store_of s) rows r)
  unfolding after
  decided allowed e =
      let same_after : charge (bare (record s.contents { rows = rows })) ≡ charge after = charge_same (bare (record s.contents { rows = rows })) after refl refl in
      let same_before : charge (bare s.contents) ≡ charge (store_of s) = charge_same (bare s.contents) (store_of s) refl refl in
      let test : not allowed ≡ (nat_lt s.quota (charge after) && nat_lt (charge (store_of s)) (charge after)) = ap not (e ∙ (λ i. is_allowed s.quota (same_before i) (same_after i))) ∙ sym (exceeds s.quota (charge (store_of s)) (charge after)) in
      turned allowed
      ∙ ap picked test
      ∙ ap (λ b. if b then within_quota (store_of s) after r else refused (store_of s) refusal.WriteNumbersUsedUp) (sym (next_if (nat_lt s.last number_limit) (s.last + 1) number left).0)
    where
      picked : Bool → Answer
      picked exceeded = if exceeded then refused (record (store_of s) { refusals = one_more s.refusals }) refusal.QuotaExceeded else (after, r)

      turned : (allowed : Bool) → ◌≡◌ {A = Answer} (if allowed then (after, r) else refused (record (store_of s) { refusals = one_more s.refusals }) refusal.QuotaExceeded) (picked (not allowed))
      turned true = refl
      turned false = refl

  pub write_refused : (new : Contents) → false ≡ is_allowed s.quota (charge_of s.contents) (charge_of (record s.contents { rows = rows })) → new ≡ s.contents → ◌≡◌ {A = Answer} (store_of (record s { contents = new; refusals = one_more s.refusals }), reply.Error refusal.QuotaExceeded) (written (store_of s) rows r)
  write_refused new e same = (λ i. (store_of (record s { contents = same i; refusals = one_more s.refusals }), reply.Error refusal.QuotaExceeded)) ∙ decided false e

  pub write_taken : (new : Contents) → true ≡ is_allowed s.quota (charge_of s.contents) (charge_of (record s.contents { rows = rows })) → new ≡ record s.contents { rows = rows } → ◌≡◌ {A = Answer} (store_of (record s { contents = new; last = number }), r) (written (store_of s) rows r)
  unfolding after
  write_taken new e same =
      let counted : number ≡ s.last + 1 = (next_if (nat_lt s.last number_limit) (s.last + 1) number left).1 in
      (λ i. (store_of (record s { contents = same i; last = counted i }), r)) ∙ decided true e

pub usage_is : {A : Type 0} (s : PlainStore A) (rows charged quota writes commands refusals snapshots : ℕ) → rows ≡ map.len s.contents.rows → charged ≡ charge_of s.contents → quota ≡ s.quota → writes ≡ s.last → commands ≡ s.commands → refusals ≡ s.refusals → snapshots ≡ map.len s.contents.snapshots
    → ◌≡◌ {A = Usage} (record { rows = rows; charge = charged; quota = quota; writes = writes; commands = commands; refusals = refusals; snapshots = snapshots }) (usage (store_of s))
unfolding usage
usage_is s rows charged quota writes commands refusals snapshots r c q w k f n =
    let same : charged ≡ charge (store_of s) = c ∙ charge_same (bare s.contents) (store_of s) refl refl in
    λ i. record { rows = r i; charge = same i; quota = q i; writes = w i; commands = k i; refusals = f i; snapshots = n i }
