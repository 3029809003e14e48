-- What a key has at a number by a leaf's rows.
use Rattle.std.proofs.Common.{◌≡◌, ℕ, zero, suc, ◌<◌, ◌≤◌, true, false, cond, List, [], ◌∷◌, map, Option, Some, None, refl, ap, ◌∙◌, sym, subst, arith, ⊎_elim, inl, inr, ◌⊎◌}
use Rattle.std.specs.Prelude.{IsSome, is_some, filter, nat_le}
use Rattle.std.specs.List.{AllByRecursion}
use Rattle.std.specs.List.Sorted.{IsStrictlySortedBy}
use Rattle.std.specs.Cmp.Lexicographic.{bytes_decides}
use Rattle.std.specs.Str.{bytes_eq}
use Rattle.std.specs.declared.cmp.Ordering.TheVariants.{Less}
use Rattle.std.proofs.lemmas.Bool.{cases_Bool, cases_lt, le-leb, lt-leb, and_from, and_left, and_right}
use Rattle.stow_tree_model.specs.Merged.{op_of_value, row_message}
use Rattle.stow_tree_model.specs.Messages.{ops_in}
use Rattle.stow_tree_model.specs.Operations.{NumberedValue, Operations, applied, latest, numbered}
use Rattle.stow_tree_model.specs.Order.{VersionPlace, place_cmp, version_place, VersionsRise}
use Rattle.stow_tree_model.specs.Version.{Version}
use Rattle.stow_tree_model.proofs.Histories.{ops_in-at, ops_in-skip, latest_none, falls_number}
use Rattle.stow_tree_model.proofs.Latest.{latest_stays}
use Rattle.stow_node.specs.StowPage.Rows.{is_up_to, last_of, version_at}
use Rattle.stow_read.specs.Shown.{value_shown}

-- ---- the newest version up to a number

-- an operation that looks at nothing below it
settles : (n : ℕ) (value : Option (List ℕ)) (below : Option NumberedValue) → applied n (Some (op_of_value value)) below ≡ numbered n value
settles n None below = refl
settles n (Some bytes) below = refl

settled_at : (f : Operations) (n : ℕ) (value : Option (List ℕ)) → f n ≡ Some (op_of_value value) → latest f n ≡ numbered n value
unfolding latest
settled_at f zero value e = ap (λ o. applied 0 o None) e ∙ settles 0 value None
settled_at f (suc n) value e = ap (λ o. applied (suc n) o (latest f n)) e ∙ settles (suc n) value (latest f n)

-- no version is up to the number, or this is the newest of them
data Newest (rows : List Version) (key : List ℕ) (n : ℕ) : Type 0 where
  no_version : version_at rows key n ≡ None → ((k : ℕ) → k ≤ n → ops_in (map row_message rows) key k ≡ None) → Newest rows key n
  newest_version : (v : Version) → version_at rows key n ≡ Some v → v.number ≤ n
      → ops_in (map row_message rows) key v.number ≡ Some (op_of_value v.value)
      → ((k : ℕ) → v.number < k → k ≤ n → ops_in (map row_message rows) key k ≡ None) → Newest rows key n

pub up_to_cases : (key : List ℕ) (n : ℕ) (v : Version) → ((key ≡ v.key) × (v.number ≤ n) × (is_up_to key n v ≡ true)) ⊎ ((is_up_to key n v ≡ false) × (key ≡ v.key → v.number ≤ n → ⊥))
up_to_cases key n v = ⊎_elim
    (λ (same : bytes_eq key v.key ≡ true). ⊎_elim
    (λ (l : n < v.number). inr (and_right (bytes_eq key v.key) (nat_le v.number n) (lt-leb v.number n l), λ e m. omega arith))
    (λ (l : v.number ≤ n). inl ((bytes_decides key v.key).0 same, l, and_from (bytes_eq key v.key) (nat_le v.number n) same (le-leb v.number n l)))
    (cases_lt n v.number))
    (λ (other : bytes_eq key v.key ≡ false). inr (and_left (bytes_eq key v.key) (nat_le v.number n) other, λ e m. let z : true ≡ false = sym ((bytes_decides key v.key).1 e) ∙ other in absurd (cc)))
    (cases_Bool (bytes_eq key v.key))

last_behind : (v w : Version) (rows : List Version) → last_of rows ≡ Some v → last_of (w ∷ rows) ≡ Some v
last_behind v w [] e = cc
last_behind v w (_ ∷ _) e = e

last_alone : (w : Version) (rows : List Version) → last_of rows ≡ None → last_of (w ∷ rows) ≡ Some w
last_alone w [] e = refl
last_alone w (x ∷ rows) e = absurd (some_last x rows e) where
  some_last : (y : Version) (ys : List Version) → last_of (y ∷ ys) ≡ None → ⊥
  some_last y [] f = cc
  some_last y (z ∷ zs) f = some_last z zs f

-- the rows after one have none of its key's operations up to its number
none_after : (w : Version) (rows : List Version) (k : ℕ) → AllByRecursion (λ q. place_cmp (version_place w) q ≡ Less) (map version_place rows) → k ≤ w.number → ops_in (map row_message rows) w.key k ≡ None
none_after w [] k h l = refl
none_after w (x ∷ rows) k h l =
    ops_in-skip (row_message x) (map row_message rows) w.key k (λ e.
    let key : w.key ≡ x.key = ap (λ (p : VersionPlace). p.0) e in
    let number : k ≡ x.number = ap (λ (p : VersionPlace). p.1) e in
    let less : w.number < x.number = falls_number w.key w.number x.number (subst (λ y. place_cmp (w.key, w.number) (y, x.number) ≡ Less) (sym key) h.0) in
    omega arith)
    ∙ none_after w rows k h.1 l

skip_row : (w : Version) (rows : List Version) (key : List ℕ) (k : ℕ) → (key ≡ w.key → k ≡ w.number → ⊥) → ops_in (map row_message (w ∷ rows)) key k ≡ ops_in (map row_message rows) key k
skip_row w rows key k ne = ops_in-skip (row_message w) (map row_message rows) key k (λ e. ne (ap (λ (p : VersionPlace). p.0) e) (ap (λ (p : VersionPlace). p.1) e))

-- an operation of the rows after one is above it
above_first : (w : Version) (rows : List Version) (key : List ℕ) (k : ℕ) → AllByRecursion (λ q. place_cmp (version_place w) q ≡ Less) (map version_place rows) → key ≡ w.key → IsSome (ops_in (map row_message rows) key k) → w.number < k
above_first w rows key k h e s = ⊎_elim
    (λ (l : w.number < k). l)
    (λ (l : k ≤ w.number). absurd (let none : ops_in (map row_message rows) key k ≡ None = ap (λ x. ops_in (map row_message rows) x k) e ∙ none_after w rows k h l in cc))
    (cases_lt w.number k)

newest : (rows : List Version) (key : List ℕ) (n : ℕ) → VersionsRise rows → Newest rows key n
unfolding version_at IsStrictlySortedBy
newest [] key n up = no_version refl (λ k l. refl)
newest (w ∷ rows) key n up = step (newest rows key n up.1) (up_to_cases key n w)
  where
    step : Newest rows key n → ((key ≡ w.key) × (w.number ≤ n) × (is_up_to key n w ≡ true)) ⊎ ((is_up_to key n w ≡ false) × (key ≡ w.key → w.number ≤ n → ⊥)) → Newest (w ∷ rows) key n
    step (no_version e none) (inl (same, l, is)) = newest_version w
        (ap (λ b. last_of (cond b (w ∷ filter (is_up_to key n) rows) (filter (is_up_to key n) rows))) is ∙ last_alone w (filter (is_up_to key n) rows) e)
        l
        (ap (λ x. ops_in (map row_message (w ∷ rows)) x w.number) same ∙ ops_in-at (row_message w) (map row_message rows))
        (λ k a b. skip_row w rows key k (λ f g. omega arith) ∙ none k b)
    step (no_version e none) (inr (is, not_own)) = no_version
        (ap (λ b. last_of (cond b (w ∷ filter (is_up_to key n) rows) (filter (is_up_to key n) rows))) is ∙ e)
        (λ k l. skip_row w rows key k (λ f g. not_own f (omega arith)) ∙ none k l)
    step (newest_version v e l at none) (inl (same, m, is)) =
        let less : w.number < v.number = above_first w rows key v.number up.0 same (ap is_some at) in
        newest_version v
        (ap (λ b. last_of (cond b (w ∷ filter (is_up_to key n) rows) (filter (is_up_to key n) rows))) is ∙ last_behind v w (filter (is_up_to key n) rows) e)
        l
        (skip_row w rows key v.number (λ f g. omega arith) ∙ at)
        (λ k a b. skip_row w rows key k (λ f g. omega arith) ∙ none k a b)
    step (newest_version v e l at none) (inr (is, not_own)) = newest_version v
        (ap (λ b. last_of (cond b (w ∷ filter (is_up_to key n) rows) (filter (is_up_to key n) rows))) is ∙ e)
        l
        (skip_row w rows key v.number (λ f g. not_own f (omega arith)) ∙ at)
        (λ k a b. skip_row w rows key k (λ f g. not_own f (omega arith)) ∙ none k a b)

-- the newest version of a key up to a number shows what its rows mean there
pub rows_show : (rows : List Version) (key : List ℕ) (n : ℕ) → VersionsRise rows → value_shown (version_at rows key n) ≡ latest (ops_in (map row_message rows) key) n
rows_show rows key n up = step (newest rows key n up) where
  step : Newest rows key n → value_shown (version_at rows key n) ≡ latest (ops_in (map row_message rows) key) n
  step (no_version e none) = ap value_shown e ∙ sym (latest_none (ops_in (map row_message rows) key) n none)
  step (newest_version v e l at none) =
      ap value_shown e
      ∙ sym (latest_stays (ops_in (map row_message rows) key) v.number n l none
      ∙ settled_at (ops_in (map row_message rows) key) v.number v.value at)
