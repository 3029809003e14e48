-- A write's charge.
use Rattle.std.proofs.Common.{◌≡◌, ℕ, ◌+◌, ◌-◌, Bool, true, false, List, [], ◌∷◌, ◌++◌, length, Option, Some, None, is_some, refl, ap, ◌∙◌, sym, subst, arith, ⊎_elim, cond}
use Rattle.std.specs.Prelude.{T, sum_by, IfSome, ◌&&◌, ◌||◌}
use Rattle.std.specs.Ordering.{eq_by_cmp}
use Rattle.std.specs.Cmp.Lexicographic.{nat_list_cmp_total}
use Rattle.std.specs.Str.{bytes_eq}
use Rattle.std.specs.FinMap as finite
use Rattle.std.proofs.lemmas.Bool.{cases_Bool, cond-true, cond-false}
use Rattle.std.proofs.lemmas.Slice.Eq.{bytes_eq-Decides as bytes_decides}
use Rattle.std.proofs.lemmas.List.Folds.{list_any-append}
use Rattle.std.proofs.lemmas.List.Sums.{sum_by-cons}
use Rattle.stow_versions.specs.StowBytes.Bytes.{bytes_cmp}
use Rattle.stow_state.specs.StowModel.Store.{Version, Rows, Store, Shown, cost, is_same_version, charge}
use Rattle.stow_ledger.specs.Charges.{version_cost, is_pinned, cost_brought, cost_freed, count_of}
use Rattle.stow_ledger.specs.Shown.{PinsTell, charge_after_removals, RemovalsAreCharged, is_in, cost_of_all, rows_with, with_row, sized_option, length_option, copied, IsNewRow, WriteIsCharged}
use Rattle.stow_ledger.proofs.Costs.{Once, cost_by_once, contra, same_is, or_false}
use Rattle.stow_ledger.proofs.RowLemmas.{is_row, in_rows, key_eq}

-- what the row of a key is charged beside the rest: nothing, where a copy shows it
abbrev pub own_part : List Shown → List ℕ → Option Version → List Shown
own_part copies key None = []
own_part copies key (Some w) = cond (is_in (key, w) copies) [] ((key, w) ∷ [])

once_own : (copies : List Shown) (key : List ℕ) (o : Option Version) → Once (own_part copies key o)
once_own copies key None = tt
once_own copies key (Some w) = elim (is_in (key, w) copies) as (λ b. Once (cond b [] ((key, w) ∷ []))) [
  | true ↦ tt
  | false ↦ (refl, tt)
]

-- rows that have this under a key, and else are others
abbrev HaveAt : Rows → Rows → List ℕ → Option Version → Type 0
HaveAt rows others key o = (q : List ℕ) → finite.get rows q ≡ cond (eq_by_cmp bytes_cmp q key) o (finite.get others q)

or_swap : (r c d : Bool) → d ≡ false → (r || c) ≡ ((false || c) || (r || false))
or_swap true true d e = refl
or_swap true false d e = refl
or_swap false true d e = refl
or_swap false false d e = refl

or_absorbed : (r c : Bool) → (r ≡ true → c ≡ true) → (r || c) ≡ ((false || c) || false)
or_absorbed true true h = refl
or_absorbed true false h = absurd (contra false (h refl) refl)
or_absorbed false true h = refl
or_absorbed false false h = refl

-- at the key: the row, or a copy of it
at_key : (copies : List Shown) (key : List ℕ) (v : Shown) → bytes_eq v.0 key ≡ true → (o : Option Version) → (is_row o v.1 || is_in v copies) ≡ ((false || is_in v copies) || is_in v (own_part copies key o))
at_key copies key v t None = sym (or_false (is_in v copies))
at_key copies key v t (Some w) = ⊎_elim
    (λ (d : is_in (key, w) copies ≡ true).
    or_absorbed (is_row (Some w) v.1) (is_in v copies) (λ r. let e : v ≡ (key, w) = same_is v (key, w) (ap (λ b. b && is_row (Some w) v.1) t ∙ r) in ap (λ x. is_in x copies) e ∙ d)
    ∙ ap (λ b. (false || is_in v copies) || is_in v (cond b [] ((key, w) ∷ []))) (sym d))
    (λ (d : is_in (key, w) copies ≡ false).
    or_swap (is_row (Some w) v.1) (is_in v copies) false refl
    ∙ ap (λ b. (false || is_in v copies) || ((b && is_row (Some w) v.1) || false)) (sym t)
    ∙ ap (λ b. (false || is_in v copies) || is_in v (cond b [] ((key, w) ∷ []))) (sym d))
    (cases_Bool (is_in (key, w) copies))

-- elsewhere the key's row is none
elsewhere : (copies : List Shown) (key : List ℕ) (v : Shown) → bytes_eq v.0 key ≡ false → (o : Option Version) → is_in v (own_part copies key o) ≡ false
elsewhere copies key v f None = refl
elsewhere copies key v f (Some w) = elim (is_in (key, w) copies) as (λ b. is_in v (cond b [] ((key, w) ∷ [])) ≡ false) [
  | true ↦ refl
  | false ↦ ap (λ b. (b && is_row (Some w) v.1) || false) f
]

shown_in : (rows : Rows) (copies : List Shown) (v : Shown) → is_in v (finite.entries rows ++ copies) ≡ (is_row (finite.get rows v.0) v.1 || is_in v copies)
shown_in rows copies v = list_any-append (is_same_version v) (finite.entries rows) copies ∙ ap (λ b. b || is_in v copies) (in_rows rows v)

members : (rows rest : Rows) (copies : List Shown) (key : List ℕ) (o : Option Version) (others : Rows) → HaveAt rows others key o → HaveAt rest others key None → (v : Shown) → is_in v (finite.entries rows ++ copies) ≡ (is_in v (finite.entries rest ++ copies) || is_in v (own_part copies key o))
members rows rest copies key o others have none v = ⊎_elim
    (λ (t : bytes_eq v.0 key ≡ true).
    let tied : eq_by_cmp bytes_cmp v.0 key ≡ true = key_eq v.0 key ∙ t in
    let here : finite.get rows v.0 ≡ o = have v.0 ∙ cond-true (eq_by_cmp bytes_cmp v.0 key) o (finite.get others v.0) tied in
    let gone : finite.get rest v.0 ≡ None = none v.0 ∙ cond-true (eq_by_cmp bytes_cmp v.0 key) None (finite.get others v.0) tied in
    shown_in rows copies v ∙ ap (λ p. is_row p v.1 || is_in v copies) here
    ∙ at_key copies key v t o
    ∙ sym (ap (λ b. b || is_in v (own_part copies key o)) (shown_in rest copies v ∙ ap (λ p. is_row p v.1 || is_in v copies) gone)))
    (λ (f : bytes_eq v.0 key ≡ false).
    let apart : eq_by_cmp bytes_cmp v.0 key ≡ false = key_eq v.0 key ∙ f in
    let here : finite.get rows v.0 ≡ finite.get others v.0 = have v.0 ∙ cond-false (eq_by_cmp bytes_cmp v.0 key) o (finite.get others v.0) apart in
    let there : finite.get rest v.0 ≡ finite.get others v.0 = none v.0 ∙ cond-false (eq_by_cmp bytes_cmp v.0 key) None (finite.get others v.0) apart in
    shown_in rows copies v ∙ ap (λ p. is_row p v.1 || is_in v copies) (here ∙ sym there)
    ∙ sym (shown_in rest copies v)
    ∙ sym (ap (λ b. is_in v (finite.entries rest ++ copies) || b) (elsewhere copies key v f o) ∙ or_false (is_in v (finite.entries rest ++ copies))))
    (cases_Bool (bytes_eq v.0 key))

-- the key's row isn't shown by the rest
not_in_rest : (rest : Rows) (copies : List Shown) (key : List ℕ) (o : Option Version) (others : Rows) → HaveAt rest others key None → (v : Shown) → is_in v (own_part copies key o) ≡ true → is_in v (finite.entries rest ++ copies) ≡ false
not_in_rest rest copies key None others none v h = absurd (contra false h refl)
not_in_rest rest copies key (Some w) others none v h = ⊎_elim
    (λ (d : is_in (key, w) copies ≡ true). absurd (contra false (ap (λ b. is_in v (cond b [] ((key, w) ∷ []))) (sym d) ∙ h) refl))
    (λ (d : is_in (key, w) copies ≡ false).
    let one : (is_same_version v (key, w) || false) ≡ true = ap (λ b. is_in v (cond b [] ((key, w) ∷ []))) (sym d) ∙ h in
    let e : v ≡ (key, w) = same_is v (key, w) (sym (or_false (is_same_version v (key, w))) ∙ one) in
    let tied : eq_by_cmp bytes_cmp key key ≡ true = key_eq key key ∙ (bytes_decides key key).1 refl in
    let gone : finite.get rest key ≡ None = none key ∙ cond-true (eq_by_cmp bytes_cmp key key) None (finite.get others key) tied in
    ap (λ x. is_in x (finite.entries rest ++ copies)) e
    ∙ shown_in rest copies (key, w) ∙ ap (λ p. is_row p w || is_in (key, w) copies) gone ∙ d)
    (cases_Bool (is_in (key, w) copies))

-- what all costs is what the rest costs, and the key's row
parts : (rows rest : Rows) (copies : List Shown) (key : List ℕ) (o : Option Version) (others : Rows) → HaveAt rows others key o → HaveAt rest others key None → cost_of_all (finite.entries rows ++ copies) ≡ cost_of_all (finite.entries rest ++ copies) + sum_by cost (own_part copies key o)
parts rows rest copies key o others have none = cost_by_once (finite.entries rows ++ copies) (finite.entries rest ++ copies) (own_part copies key o) (once_own copies key o) (members rows rest copies key o others have none) (not_in_rest rest copies key o others none)

one_cost : (v : Shown) → sum_by cost (v ∷ []) ≡ cost v
one_cost v = sum_by-cons cost v [] ∙ plus_none (cost v)
  where
    plus_none : (n : ℕ) → n + 0 ≡ n
    plus_none n = omega arith

brought_is : (copies : List Shown) (key : List ℕ) (o : Option Version) → IfSome o (λ w. is_in (key, w) copies ≡ false) → sum_by cost (own_part copies key o) ≡ cost_brought (length key) (length_option o)
brought_is copies key None h = refl
brought_is copies key (Some w) h = ap (λ b. sum_by cost (cond b [] ((key, w) ∷ []))) h ∙ one_cost (key, w)

freed_is : (copies : List Shown) (key : List ℕ) (pins : List ℕ) (o : Option Version) → IfSome o (λ w. is_in (key, w) copies ≡ is_pinned pins w.number) → sum_by cost (own_part copies key o) ≡ cost_freed pins (length key) (sized_option o)
freed_is copies key pins None h = refl
freed_is copies key pins (Some w) h =
    ap (λ b. sum_by cost (cond b [] ((key, w) ∷ []))) h
    ∙ elim (is_pinned pins w.number) as (λ b. sum_by cost (cond b [] ((key, w) ∷ [])) ≡ cond b 0 (version_cost (length key) (length w.value))) [
      | true ↦ refl
      | false ↦ one_cost (key, w)
    ]

same_at : (rows : Rows) (key : List ℕ) → HaveAt rows rows key (finite.get rows key)
same_at rows key q = ⊎_elim
    (λ (t : eq_by_cmp bytes_cmp q key ≡ true).
    let same : q ≡ key = (bytes_decides q key).0 (sym (key_eq q key) ∙ t) in
    ap (finite.get rows) same ∙ sym (cond-true (eq_by_cmp bytes_cmp q key) (finite.get rows key) (finite.get rows q) t))
    (λ (f : eq_by_cmp bytes_cmp q key ≡ false). sym (cond-false (eq_by_cmp bytes_cmp q key) (finite.get rows key) (finite.get rows q) f))
    (cases_Bool (eq_by_cmp bytes_cmp q key))

with_at : (rows : Rows) (key : List ℕ) (after : Option Version) → HaveAt (rows_with rows key after) rows key after
with_at rows key None q = finite.get-remove nat_list_cmp_total rows key q
with_at rows key (Some w) q = finite.get-insert nat_list_cmp_total rows key w q

rows_counted : (rows : Rows) (key : List ℕ) (after : Option Version) → finite.len (rows_with rows key after) ≡ (finite.len rows + count_of (length_option after)) - count_of (sized_option (finite.get rows key))
rows_counted rows key None =
    finite.len-remove nat_list_cmp_total rows key
    ∙ elim (finite.get rows key) as (λ o. cond (is_some o) (finite.len rows - 1) (finite.len rows) ≡ (finite.len rows + 0) - count_of (sized_option o)) [
      | None ↦ omega arith
      | Some v ↦ omega arith
    ]
rows_counted rows key (Some w) =
    finite.len-insert nat_list_cmp_total rows key w
    ∙ elim (finite.get rows key) as (λ o. cond (is_some o) (finite.len rows) (finite.len rows + 1) ≡ (finite.len rows + 1) - count_of (sized_option o)) [
      | None ↦ omega arith
      | Some v ↦ omega arith
    ]

abbrev new_in_copies : (store : Store) (key : List ℕ) (after : Option Version) → IsNewRow store key after → IfSome after (λ w. is_in (key, w) (copied store) ≡ false)
new_in_copies store key None h = tt
new_in_copies store key (Some w) h = or_second (is_in (key, w) (finite.entries store.rows)) (is_in (key, w) (copied store)) (sym (list_any-append (is_same_version (key, w)) (finite.entries store.rows) (copied store)) ∙ h)
  where
    or_second : (a b : Bool) → (a || b) ≡ false → b ≡ false
    or_second true b e = absurd (subst T e tt)
    or_second false b e = e

pub write_is_charged_law : WriteIsCharged
unfolding charge
write_is_charged_law store key after pins new tells =
    let rest = finite.remove store.rows key in
    let copies = copied store in
    let none = with_at store.rows key None in
    let before = parts store.rows rest copies key (finite.get store.rows key) store.rows (same_at store.rows key) none in
    let later = parts (rows_with store.rows key after) rest copies key after store.rows (with_at store.rows key after) none in
    let brought = brought_is copies key after (new_in_copies store key after new) in
    let freed = freed_is copies key pins (finite.get store.rows key) tells in
    let sum : charge (with_row store key after) ≡ (charge store + cost_brought (length key) (length_option after)) - cost_freed pins (length key) (sized_option (finite.get store.rows key)) =
    moved (cost_of_all (finite.entries rest ++ copies)) _ _ _ _ _ _ before later freed brought in
    let count = rows_counted store.rows key after in
    λ i. record { charge = sum i; rows = count i }
  where
    moved : (base before later f b freed brought : ℕ) → before ≡ base + f → later ≡ base + b → f ≡ freed → b ≡ brought → later ≡ (before + brought) - freed
    moved base before later f b freed brought p q r s = omega arith

-- what pins tell of a key they tell once another key, or the same, lost its row
still_told : (store : Store) (key other : List ℕ) (pins : List ℕ) → PinsTell store key pins → PinsTell (with_row store other None) key pins
still_told store key other pins tells = subst (λ o. IfSome o (λ w. is_in (key, w) (copied store) ≡ is_pinned pins w.number))
    (sym (finite.get-remove nat_list_cmp_total store.rows other key))
    (unless (λ w. is_in (key, w) (copied store) ≡ is_pinned pins w.number) (eq_by_cmp bytes_cmp key other) (finite.get store.rows key) tells)
  where
    unless : (P : Version → Type 0) (b : Bool) (o : Option Version) → IfSome o P → IfSome (cond b None o) P
    unless P true o h = tt
    unless P false o h = h

pub removals_are_charged_law : RemovalsAreCharged
removals_are_charged_law store [] pins tell = refl
removals_are_charged_law store (key ∷ keys) pins tell =
    removals_are_charged_law (with_row store key None) keys pins (λ k. still_told store k key pins (tell k))
    ∙ ap (λ so_far. charge_after_removals so_far (with_row store key None) keys pins) (write_is_charged_law store key None pins tt (tell key))
