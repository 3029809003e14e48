-- The next key of an interval in a leaf's rows.
use Rattle.std.proofs.Common.{◌≡◌, ℕ, zero, suc, ◌<◌, ◌≤◌, Bool, true, false, List, [], ◌∷◌, length, get_or, map, Option, Some, refl, ap, ◌∙◌, sym, subst, arith, ⊎_elim, ◌⊎◌}
use Rattle.std.specs.Prelude.{IsSome, not, slice_get}
use Rattle.std.specs.Ordering.{is_lt, nat_cmp, ordering_then, ordering_reverse}
use Rattle.std.specs.declared.cmp.Ordering.{Ordering}
use Rattle.std.specs.declared.cmp.Ordering.TheVariants.{Less, Equal, Greater}
use Rattle.std.specs.Cmp.Lexicographic.{nat_list_cmp_total}
use Rattle.std.proofs.lemmas.Bool.{cases_order}
use Rattle.std.proofs.lemmas.Option.{slice_get-get_or, slice_get_within}
use Rattle.stow_bytes.specs.Bytes.{bytes_cmp}
use Rattle.stow_tree_model.specs.Merged.{row_message}
use Rattle.stow_tree_model.specs.Messages.{ops_in}
use Rattle.stow_tree_model.specs.Order.{version_place, VersionsRise}
use Rattle.stow_tree_model.specs.Version.{Version}
use Rattle.stow_tree_model.proofs.Orders.{less_than, same_number, more_than}
use Rattle.stow_node.specs.StowPage.Format.{IsVersion, AreVersions}
use Rattle.stow_node.specs.StowPage.Rows.{is_above, IsCountUpTo}
use Rattle.stow_node.proofs.StowPage.Looked.{versions_rise_at}
use Rattle.stow_node.proofs.StowLeaf.Found.{found_row, row_there, none_unless, place_le}
use Rattle.stow_node.proofs.StowLeaf.Intervals.{lt, lt_self, lt_le}
use Rattle.stow_read.specs.NextKey.{is_from, passed_number, HaveNone, IsLowest}
use Rattle.stow_read.proofs.NextKeys.{apart}

above_zero : (o : Ordering) (n : ℕ) → 1 ≤ n → is_lt (ordering_then o (nat_cmp 0 n)) ≡ not (is_lt (ordering_reverse o))
above_zero Less n l = refl
above_zero Equal n l = ap is_lt (less_than 0 n (omega arith))
above_zero Greater n l = refl

above_most : (o : Ordering) (m n : ℕ) → n ≤ m → is_lt (ordering_then o (nat_cmp m n)) ≡ is_lt o
above_most Less m n l = refl
above_most Equal m n l = ⊎_elim
    (λ (e : m ≡ n). ap (λ k. is_lt (nat_cmp m k)) (sym e) ∙ ap is_lt (same_number m))
    (λ (c : (m < n) ⊎ (n < m)). ⊎_elim (λ (a : m < n). absurd (omega arith)) (λ (a : n < m). ap is_lt (more_than m n a)) c)
    (cases_order m n)
above_most Greater m n l = refl

-- a row is above the start exactly where its key is from it on
pub above_is : (start : List ℕ) (after : Bool) (v : Version) → IsVersion v → is_above (start, passed_number after) v ≡ is_from start after v.key
above_is start true v is = above_most (bytes_cmp start v.key) 18446744073709551615 v.number (let l = is.is_numbered.1 in omega arith)
above_is start false v is =
    above_zero (bytes_cmp start v.key) v.number is.is_numbered.0
    ∙ ap (λ o. not (is_lt o)) (sym (nat_list_cmp_total.antisymm v.key start))

version_at_place : (rows : List Version) (i : ℕ) (v : Version) → AreVersions rows → slice_get rows i ≡ Some v → IsVersion v
version_at_place [] i v all e = absurd cc
version_at_place (w ∷ rows) zero v all e = subst IsVersion (is w v e) all.0 where
  is : (a b : Version) → ◌≡◌ {A = Option Version} (Some a) (Some b) → a ≡ b
  is a b e = cc
version_at_place (w ∷ rows) (suc i) v all e = version_at_place rows i v all.1 e

-- a row of a key from the start on stands at the count or behind it
row_behind : {X : Type 0} (rows : List Version) (start : List ℕ) (after : Bool) (count : ℕ) (key : List ℕ) (n : ℕ) → AreVersions rows → IsCountUpTo rows (start, passed_number after) count → is_from start after key ≡ true → IsSome (ops_in (map row_message rows) key n)
    → ((i : ℕ) (w : Version) → count ≤ i → slice_get rows i ≡ Some w → w.key ≡ key → X) → X
row_behind rows start after count key n all up f s g = found_row rows key n s (λ w c k.
    let at : slice_get rows c.0 ≡ Some w = slice_get-get_or rows c.0 w c.1 ∙ ap (λ x. Some x) c.2 in
    let above : is_above (start, passed_number after) w ≡ true = above_is start after w (version_at_place rows c.0 w all at) ∙ ap (is_from start after) k ∙ f in
    ⊎_elim
    (λ (e : c.0 ≡ count). g c.0 w (omega arith) at k)
    (λ (o : (c.0 < count) ⊎ (count < c.0)). ⊎_elim
    (λ (l : c.0 < count). apart above (up.up_to c.0 w l at))
    (λ (l : count < c.0). g c.0 w (omega arith) at k) o)
    (cases_order c.0 count))

pub rows_none : (rows : List Version) (start : List ℕ) (after : Bool) (to : List ℕ) (count : ℕ) → AreVersions rows → IsCountUpTo rows (start, passed_number after) count → length rows ≤ count → HaveNone (ops_in (map row_message rows)) start after to
rows_none rows start after to count all up past key f l n = none_unless (ops_in (map row_message rows) key n) (λ s. row_behind rows start after count key n all up f s (λ i w b e k. let inside = slice_get_within rows i w e in omega arith))

-- keys below the row at the count have no rows
none_before : (rows : List Version) (start : List ℕ) (after : Bool) (count : ℕ) (v : Version) → AreVersions rows → VersionsRise rows → IsCountUpTo rows (start, passed_number after) count → slice_get rows count ≡ Some v → HaveNone (ops_in (map row_message rows)) start after v.key
none_before rows start after count v all rise up at key f l n = none_unless (ops_in (map row_message rows) key n) (λ s. row_behind rows start after count key n all up f s (λ i w b e k. ⊎_elim
    (λ (same : count ≡ i). apart l (ap (λ x. lt x v.key) (sym k) ∙ ap (λ (u : Version). lt u.key v.key) (same_row v w (sym at ∙ ap (slice_get rows) same ∙ e)) ∙ lt_self v.key))
    (λ (o : (count < i) ⊎ (i < count)). ⊎_elim
    (λ (c : count < i). apart l (ap (λ x. lt x v.key) (sym k) ∙ place_le (version_place v) (version_place w) (versions_rise_at rows count i v w rise c at e)))
    (λ (c : i < count). absurd (omega arith)) o)
    (cases_order count i)))
  where
    same_row : (a b : Version) → ◌≡◌ {A = Option Version} (Some a) (Some b) → b ≡ a
    same_row a b e = cc

pub rows_next : (rows : List Version) (start : List ℕ) (after : Bool) (to : List ℕ) (count : ℕ) (v : Version) → AreVersions rows → VersionsRise rows → IsCountUpTo rows (start, passed_number after) count → slice_get rows count ≡ Some v → lt v.key to ≡ true → IsLowest (ops_in (map row_message rows)) start after to v.key
rows_next rows start after to count v all rise up at l = record {
  from = sym (above_is start after v (version_at_place rows count v all at)) ∙ up.above count v (omega arith) at;
  below = l;
  number = v.number;
  there = row_there rows v (count, slice_get_within rows count v at, inside);
  none = none_before rows start after count v all rise up at;
}
  where
    inside : get_or rows count v ≡ v
    inside = some_same (sym (slice_get-get_or rows count v (slice_get_within rows count v at)) ∙ at) where
      some_same : ◌≡◌ {A = Option Version} (Some (get_or rows count v)) (Some v) → get_or rows count v ≡ v
      some_same e = cc

-- below an upper end there are no rows where the first one behind the start is not below it
pub rows_end : (rows : List Version) (start : List ℕ) (after : Bool) (to : List ℕ) (count : ℕ) (v : Version) → AreVersions rows → VersionsRise rows → IsCountUpTo rows (start, passed_number after) count → slice_get rows count ≡ Some v → lt v.key to ≡ false → HaveNone (ops_in (map row_message rows)) start after to
rows_end rows start after to count v all rise up at l key f below n = none_before rows start after count v all rise up at key f (lt_under key to v.key below l) n where
  lt_under : (a b c : List ℕ) → lt a b ≡ true → lt c b ≡ false → lt a c ≡ true
  lt_under a b c e g = lt_le a b c e g
