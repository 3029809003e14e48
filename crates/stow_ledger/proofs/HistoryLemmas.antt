-- What pins tell of a history's rows.
use Rattle.std.proofs.Common.{◌≡◌, ◌≢◌, ℕ, zero, suc, ◌+◌, ◌*◌, ◌<◌, ◌≤◌, Bool, true, false, List, [], ◌∷◌, ◌++◌, length, get_or, Option, Some, None, refl, ap, ◌∙◌, sym, arith, ⊎_elim, eqb}
use Rattle.std.specs.Prelude.{Contains, filter, map, not, sum_by, IfSome, ◌&&◌, ◌||◌, nat_le, nat_lt, ◌↔◌}
use Rattle.std.specs.List.{list_any, AllByRecursion}
use Rattle.std.specs.Str.{bytes_eq}
use Rattle.std.specs.FinMap as finite
use Rattle.std.proofs.lemmas.Bool.{cases_Bool, cases_lt, eqb-true, eq-eqb, ne_eqb, lt-ltb}
use Rattle.std.proofs.lemmas.Bool.Decides.{leb_tells}
use Rattle.std.proofs.lemmas.Slice.Eq.{bytes_eq-Decides as bytes_decides}
use Rattle.std.proofs.lemmas.List.Folds.{list_any-append}
use Rattle.std.proofs.lemmas.List.Sums.{sum_by-cons}
use Rattle.stow_state.specs.StowModel.Store.{Version, Rows, Store, Shown, cost, is_same_version, charge}
use Rattle.stow_ledger.specs.Charges.{is_pinned, is_between}
use Rattle.stow_ledger.specs.Shown.{is_in, copied}
use Rattle.stow_ledger.specs.Histories.{History, IsVersionHistory, ShowsHistory, SameNumbers, PinsTellOfWrites, NextIsNew, PinsTellOfDrops, RowsAreCharged}
use Rattle.stow_ledger.proofs.Costs.{cost_by_once, contra}
use Rattle.stow_ledger.proofs.RowLemmas.{is_row, in_rows, in_copies, once_rows}
use Rattle.stow_ledger.proofs.DropLemmas.{in_kept}

-- ---- tests of numbers

le_true : (a b : ℕ) → a ≤ b → nat_le a b ≡ true
le_true a b l = ⊎_elim
    (λ (h : (nat_le a b ≡ true) × (a ≤ b)). h.0)
    (λ (h : (nat_le a b ≡ false) × (b < a)). let bad = h.1 in absurd (omega arith))
    (leb_tells a b)

le_false : (a b : ℕ) → b < a → nat_le a b ≡ false
le_false a b l = ⊎_elim
    (λ (h : (nat_le a b ≡ true) × (a ≤ b)). let bad = h.1 in absurd (omega arith))
    (λ (h : (nat_le a b ≡ false) × (b < a)). h.0)
    (leb_tells a b)

any_from : (test : ℕ → Bool) (xs : List ℕ) → list_any test xs ≡ true → (x : ℕ) × Contains xs x × (test x ≡ true)
any_from test [] h = absurd (contra false h refl)
any_from test (x ∷ xs) h = ⊎_elim
    (λ (t : test x ≡ true). (x, (0, omega arith, refl), t))
    (λ (f : test x ≡ false).
    let later = any_from test xs (ap (λ b. b || list_any test xs) (sym f) ∙ h) in
    (later.0, (suc later.1.0, omega (arith, later.1.1), later.1.2), later.2))
    (cases_Bool (test x))

or_true : (b : Bool) → (b || true) ≡ true
or_true true = refl
or_true false = refl

any_at : (test : ℕ → Bool) (xs : List ℕ) (k x d : ℕ) → k < length xs → get_or xs k d ≡ x → test x ≡ true → list_any test xs ≡ true
any_at test [] k x d l e t = absurd (omega arith)
any_at test (y ∷ xs) zero x d l e t = ap (λ z. test z || list_any test xs) e ∙ ap (λ b. b || list_any test xs) t
any_at test (y ∷ xs) (suc k) x d l e t = ap (λ b. test y || b) (any_at test xs k x d (omega arith) e t) ∙ or_true (test y)

both_ways : (a b : Bool) → (a ≡ true → b ≡ true) → (b ≡ true → a ≡ true) → a ≡ b
both_ways true b f g = sym (f refl)
both_ways false true f g = g refl
both_ways false false f g = refl

-- lists of the same numbers pass the same tests
any_same : (test : ℕ → Bool) (xs ys : List ℕ) → SameNumbers xs ys → list_any test xs ≡ list_any test ys
any_same test xs ys same = both_ways (list_any test xs) (list_any test ys)
    (λ h. let x = any_from test xs h in let there = (same x.0).0 x.1 in any_at test ys there.0 x.0 x.0 there.1 there.2 x.2)
    (λ h. let y = any_from test ys h in let there = (same y.0).1 y.1 in any_at test xs there.0 y.0 y.0 there.1 there.2 y.2)

any_alike : (f g : ℕ → Bool) (last : ℕ) (ns : List ℕ) → AllByRecursion (λ n. n ≤ last) ns → ((n : ℕ) → n ≤ last → f n ≡ g n) → list_any f ns ≡ list_any g ns
any_alike f g last [] h same = refl
any_alike f g last (n ∷ ns) (l, h) same = (λ i. same n l i || list_any f ns) ∙ ap (λ b. g n || b) (any_alike f g last ns h same)

none_pass : (last : ℕ) (f : ℕ → Bool) (ns : List ℕ) → AllByRecursion (λ n. n ≤ last) ns → ((n : ℕ) → n ≤ last → f n ≡ false) → list_any f ns ≡ false
none_pass last f [] h none = refl
none_pass last f (n ∷ ns) (l, h) none = ap (λ b. b || list_any f ns) (none n l) ∙ none_pass last f ns h none

-- ---- rows at numbers

any_map : (test : Rows → Bool) (at : History) (ns : List ℕ) → list_any test (map at ns) ≡ list_any (λ n. test (at n)) ns
any_map test at [] = refl
any_map test at (n ∷ ns) = ap (λ b. test (at n) || b) (any_map test at ns)

-- whether the rows at a number have the version under the key
abbrev shows_at : History → List ℕ → Version → ℕ → Bool
shows_at at key v n = is_row (finite.get (at n) key) v

in_copied : (at : History) (store : Store) (numbers : List ℕ) (key : List ℕ) (v : Version) → ShowsHistory at store numbers → is_in (key, v) (copied store) ≡ list_any (shows_at at key v) numbers
in_copied at store numbers key v shows =
    in_copies (key, v) (finite.values store.snapshots)
    ∙ ap (list_any (λ (copy : Rows). is_in (key, v) (finite.entries copy))) shows.copies
    ∙ any_map (λ (copy : Rows). is_in (key, v) (finite.entries copy)) at numbers
    ∙ any_each (λ n. is_in (key, v) (finite.entries (at n))) (shows_at at key v) numbers (λ n. in_rows (at n) (key, v))
  where
    any_each : (f g : ℕ → Bool) (ns : List ℕ) → ((n : ℕ) → f n ≡ g n) → list_any f ns ≡ list_any g ns
    any_each f g [] same = refl
    any_each f g (n ∷ ns) same = (λ i. same n i || list_any f ns) ∙ ap (λ b. g n || b) (any_each f g ns same)

row_same : (v : Version) → is_row (Some v) v ≡ true
row_same v = ap (λ b. b && bytes_eq v.value v.value) (eq-eqb v.number v.number refl) ∙ (bytes_decides v.value v.value).1 refl

row_is : (o : Option Version) (v : Version) → is_row o v ≡ true → o ≡ Some v
row_is None v h = absurd (contra false h refl)
row_is (Some w) v h =
    let number : v.number ≡ w.number = eqb-true v.number w.number (first (eqb v.number w.number) (bytes_eq v.value w.value) h) in
    let value : v.value ≡ w.value = (bytes_decides v.value w.value).0 (second (eqb v.number w.number) (bytes_eq v.value w.value) h) in
    sym (λ i. Some (record { number = number i; value = value i }))
  where
    first : (a b : Bool) → (a && b) ≡ true → a ≡ true
    first true b e = refl
    first false b e = e

    second : (a b : Bool) → (a && b) ≡ true → b ≡ true
    second true b e = e
    second false b e = absurd (contra false e refl)

-- a row of a number up to n isn't a version of a later one
row_before : (o : Option Version) (v : Version) (n : ℕ) → IfSome o (λ w. w.number ≤ n) → n < v.number → is_row o v ≡ false
row_before None v n h l = refl
row_before (Some w) v n h l =
    let ne : v.number ≢ w.number = λ e. absurd (omega arith) in
    ap (λ b. b && bytes_eq v.value w.value) (ne_eqb v.number w.number ne)

-- ---- the laws

-- what a version of the present shows at a number
present_at : (at : History) (key : List ℕ) (w : Version) (last n : ℕ) → IsVersionHistory at → finite.get (at last) key ≡ Some w → n ≤ last → shows_at at key w n ≡ nat_le w.number n
present_at at key w last n history is l = ⊎_elim
    (λ (before : n < w.number). row_before (finite.get (at n) key) w n (history.made_before n key) before ∙ sym (le_false w.number n before))
    (λ (since : w.number ≤ n). ap (λ o. is_row o w) (history.stands_since n last key w is since l) ∙ row_same w ∙ sym (le_true w.number n since))
    (cases_lt n w.number)

pub pins_tell_of_writes_law : PinsTellOfWrites
pins_tell_of_writes_law at store numbers pins key history shows same = told (finite.get store.rows key) refl
  where
    told : (o : Option Version) → finite.get store.rows key ≡ o → IfSome o (λ w. is_in (key, w) (copied store) ≡ is_pinned pins w.number)
    told None e = tt
    told (Some w) e =
        in_copied at store numbers key w shows
        ∙ any_alike (shows_at at key w) (λ p. nat_le w.number p) store.last numbers shows.below (λ n l. present_at at key w store.last n history (ap (λ rows. finite.get rows key) (sym shows.rows) ∙ e) l)
        ∙ sym (any_same (λ p. nat_le w.number p) pins numbers same)

pub next_is_new_law : NextIsNew
next_is_new_law at store numbers key value history shows =
    let v : Version = record { number = store.last + 1; value = value } in
    let none : (n : ℕ) → n ≤ store.last → shows_at at key v n ≡ false = λ n l. row_before (finite.get (at n) key) v n (history.made_before n key) (omega arith) in
    list_any-append (is_same_version (key, v)) (finite.entries store.rows) (copied store)
    ∙ ap (λ b. b || is_in (key, v) (copied store)) (in_rows store.rows (key, v) ∙ ap (λ rows. is_row (finite.get rows key) v) shows.rows ∙ none store.last (omega arith))
    ∙ in_copied at store numbers key v shows
    ∙ none_pass store.last (shows_at at key v) numbers shows.below none

not_shown : (b : Bool) → (b ≡ true → ⊥) → b ≡ false
not_shown true h = absurd (h refl)
not_shown false h = refl

-- what a version shows at a number, by its next one
between_at : (at : History) (key : List ℕ) (v : Version) (next last n : ℕ) → IsVersionHistory at → ((m : ℕ) → v.number ≤ m → m ≤ last → (finite.get (at m) key ≡ Some v) ↔ (m < next)) → n ≤ last → shows_at at key v n ≡ is_between v.number next n
between_at at key v next last n history is l = ⊎_elim
    (λ (before : n < v.number). row_before (finite.get (at n) key) v n (history.made_before n key) before ∙ sym (ap (λ b. b && nat_lt n next) (le_false v.number n before)))
    (λ (since : v.number ≤ n). ⊎_elim
    (λ (until : n < next).
    ap (λ o. is_row o v) ((is n since l).1 until) ∙ row_same v
    ∙ sym (ap (λ b. b && nat_lt n next) (le_true v.number n since) ∙ lt-ltb n next until))
    (λ (after : next ≤ n).
    not_shown (is_row (finite.get (at n) key) v) (λ t. let bad = (is n since l).0 (row_is (finite.get (at n) key) v t) in absurd (omega arith))
    ∙ sym (ap (λ b. b && nat_lt n next) (le_true v.number n since) ∙ le_false (suc n) next (omega arith)))
    (cases_lt n next))
    (cases_lt n v.number)

pub pins_tell_of_drops_law : PinsTellOfDrops
pins_tell_of_drops_law at store numbers pins key v None history shows same made is =
    sym (list_any-append (is_same_version (key, v)) (finite.entries store.rows) (copied store)
    ∙ ap (λ b. b || is_in (key, v) (copied store)) (in_rows store.rows (key, v) ∙ ap (λ rows. is_row (finite.get rows key) v) shows.rows ∙ ap (λ o. is_row o v) is ∙ row_same v))
pins_tell_of_drops_law at store numbers pins key v (Some next) history shows same made (within, is) =
    let present : is_in (key, v) (finite.entries store.rows) ≡ false =
    in_rows store.rows (key, v) ∙ ap (λ rows. is_row (finite.get rows key) v) shows.rows
    ∙ not_shown (is_row (finite.get (at store.last) key) v) (λ t. let bad = (is store.last made (omega arith)).0 (row_is (finite.get (at store.last) key) v t) in absurd (omega arith)) in
    any_same (is_between v.number next) pins numbers same
    ∙ sym (any_alike (shows_at at key v) (is_between v.number next) store.last numbers shows.below (λ n l. between_at at key v next store.last n history is l))
    ∙ sym (in_copied at store numbers key v shows)
    ∙ sym (list_any-append (is_same_version (key, v)) (finite.entries store.rows) (copied store) ∙ ap (λ b. b || is_in (key, v) (copied store)) present)

-- ---- rows cost

rows_cost : (es : List Shown) → 16 * length es ≤ sum_by cost es
rows_cost [] = omega arith
rows_cost (e ∷ es) = let later = rows_cost es in let whole = sum_by-cons cost e es in omega arith

pub rows_are_charged_law : RowsAreCharged
unfolding charge
rows_are_charged_law store =
    let rows = finite.entries store.rows in
    let others = filter (λ v. not (is_in v rows)) (copied store) in
    let members : (v : Shown) → is_in v (rows ++ copied store) ≡ (is_in v others || is_in v rows) = λ v.
    list_any-append (is_same_version v) rows (copied store)
    ∙ moved (is_in v rows) (is_in v (copied store))
    ∙ ap (λ b. b || is_in v rows) (sym (in_kept (λ v. not (is_in v rows)) v (copied store))) in
    let apart : (v : Shown) → is_in v rows ≡ true → is_in v others ≡ false = λ v t. in_kept (λ v. not (is_in v rows)) v (copied store) ∙ ap (λ b. is_in v (copied store) && not b) t ∙ none (is_in v (copied store)) in
    let sums = cost_by_once (rows ++ copied store) others rows (once_rows store.rows) members apart in
    let each = rows_cost rows in
    enough (finite.len store.rows) (length rows) _ _ _ (finite.len-entries store.rows) each sums
  where
    moved : (a c : Bool) → (a || c) ≡ ((c && not a) || a)
    moved true true = refl
    moved true false = refl
    moved false true = refl
    moved false false = refl

    none : (b : Bool) → (b && false) ≡ false
    none true = refl
    none false = refl

    enough : (n m whole rest part : ℕ) → n ≡ m → 16 * m ≤ part → whole ≡ rest + part → 16 * n ≤ whole
    enough n m whole rest part e l s = omega arith
