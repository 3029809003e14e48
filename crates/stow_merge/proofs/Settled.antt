-- Rows that a merge with nothing leaves as they are: one of each key, with a value.
use Rattle.std.proofs.Common.{◌≡◌, ◌≢◌, ℕ, zero, suc, ◌+◌, ◌<◌, List, [], ◌∷◌, ◌++◌, length, take, drop, map, Option, Some, None, refl, ap, ◌∙◌, sym, subst, arith, ⊎_elim, inl}
use Rattle.std.specs.Prelude.{Contains, IsSome, slice_get}
use Rattle.std.specs.declared.cmp.Ordering.TheVariants.{Less}
use Rattle.std.proofs.lemmas.List.{take-append-drop}
use Rattle.stow_page.specs.StowBytes.Bytes.{bytes_cmp}
use Rattle.stow_page.specs.Rows.{AreAlone}
use Rattle.stow_page.specs.StowTreeModel.Agreement.{TenantPins}
use Rattle.stow_page.specs.StowTreeModel.Merged.{op_of_value, row_message, rows_set, merged}
use Rattle.stow_page.specs.StowTreeModel.Messages.{ops_in, with_all}
use Rattle.stow_page.specs.StowTreeModel.Operations.{Operations, latest, value_in}
use Rattle.stow_page.specs.StowTreeModel.Order.{VersionPlace, VersionsRise}
use Rattle.stow_page.specs.StowTreeModel.Version.{Version}
use Rattle.stow_page.proofs.StowTreeModel.Histories.{ops_in-at, ops_in-skip}
use Rattle.stow_page.proofs.StowTreeModel.Latest.{contains_cases}
use Rattle.stow_page.proofs.StowTreeModel.Pruning.{pruned_exactly_law, none_in_nothing}
use Rattle.stow_merge.proofs.Climbing.{KeysClimb, climb, climb_at, one_each}
use Rattle.stow_merge.proofs.KeyLemmas.{rises_front, rises_after}
use Rattle.stow_merge.proofs.KeyOps.{not_below, is_there, ops_over, ops-merged, by_ops, from_ops, StaysBy, none_if_not, row_found, put_last}
use Rattle.stow_merge.proofs.Lists.{all_member}

-- rows that rise, next ones of different keys, each with a value
pub record AreSettled (rows : List Version) : Type 0 where
  pub rise : VersionsRise rows
  pub alone : AreAlone rows

-- ---- parts of settled rows

slice_get-front : {X : Type 0} (xs ys : List X) (i : ℕ) (x : X) → slice_get xs i ≡ Some x → slice_get (xs ++ ys) i ≡ Some x
slice_get-front [] ys i x e = absurd cc
slice_get-front (y ∷ xs) ys zero x e = e
slice_get-front (y ∷ xs) ys (suc i) x e = slice_get-front xs ys i x e

slice_get-behind : {X : Type 0} (xs ys : List X) (i : ℕ) → slice_get (xs ++ ys) (length xs + i) ≡ slice_get ys i
slice_get-behind [] ys i = let e : 0 + i ≡ i = omega arith in ap (slice_get ys) e
slice_get-behind (x ∷ xs) ys i = let e : suc (length xs) + i ≡ suc (length xs + i) = omega arith in ap (slice_get (x ∷ xs ++ ys)) e ∙ slice_get-behind xs ys i

pub settled_front : (rows more : List Version) → AreSettled (rows ++ more) → AreSettled rows
settled_front rows more h = record {
  rise = rises_front rows more h.rise;
  alone = record {
    are_apart = record { apart = λ i v w e f. h.alone.are_apart.apart i v w (slice_get-front rows more i v e) (slice_get-front rows more (i + 1) w f) };
    values = λ i v e. h.alone.values i v (slice_get-front rows more i v e);
  };
}

pub settled_after : (rows more : List Version) → AreSettled (rows ++ more) → AreSettled more
settled_after rows more h = record {
  rise = rises_after rows more h.rise;
  alone = record {
    are_apart = record {
      apart = λ i v w e f. h.alone.are_apart.apart (length rows + i) v w (slice_get-behind rows more i ∙ e)
          (let n : length rows + i + 1 ≡ length rows + (i + 1) = omega arith in ap (slice_get (rows ++ more)) n ∙ slice_get-behind rows more (i + 1) ∙ f);
    };
    values = λ i v e. h.alone.values (length rows + i) v (slice_get-behind rows more i ∙ e);
  };
}

pub settled_take : (n : ℕ) (rows : List Version) → AreSettled rows → AreSettled (take n rows)
settled_take n rows h = settled_front (take n rows) (drop n rows) (subst AreSettled (sym (take-append-drop n rows)) h)

pub settled_drop : (n : ℕ) (rows : List Version) → AreSettled rows → AreSettled (drop n rows)
settled_drop n rows h = settled_after (take n rows) (drop n rows) (subst AreSettled (sym (take-append-drop n rows)) h)

-- ---- keys that rise

climb_settled : (rows : List Version) → AreSettled rows → KeysClimb rows
climb_settled rows h = climb rows h.rise h.alone.are_apart

-- a later row has a higher key
pub settled_at : (rows : List Version) (i j : ℕ) (v w : Version) → AreSettled rows → i < j → slice_get rows i ≡ Some v → slice_get rows j ≡ Some w → bytes_cmp v.key w.key ≡ Less
settled_at rows i j v w h = climb_at rows i j v w (climb_settled rows h)

has_value : (rows : List Version) (v : Version) → ((i : ℕ) (w : Version) → slice_get rows i ≡ Some w → IsSome w.value) → Contains rows v → IsSome v.value
has_value [] v h c = absurd (none_in_nothing v c)
has_value (x ∷ rows) v h c = ⊎_elim
    (λ (e : x ≡ v). subst (λ (u : Version). IsSome u.value) e (h 0 x refl))
    (λ (t : Contains rows v). has_value rows v (λ i w f. h (suc i) w f) t)
    (contains_cases x v rows c)

-- ---- a row's operation

row_op : (rows : List Version) (v : Version) → KeysClimb rows → Contains rows v → ops_in (map row_message rows) v.key v.number ≡ Some (op_of_value v.value)
row_op [] v h c = absurd (none_in_nothing v c)
row_op (x ∷ rows) v h c = ⊎_elim
    (λ (e : x ≡ v). subst (λ (u : Version). ops_in (map row_message (x ∷ rows)) u.key u.number ≡ Some (op_of_value u.value)) e (ops_in-at (row_message x) (map row_message rows)))
    (λ (t : Contains rows v).
    ops_in-skip (row_message x) (map row_message rows) v.key v.number (λ e. not_below x.key (subst (λ k. bytes_cmp x.key k ≡ Less) (ap (λ (p : VersionPlace). p.0) e) (all_member (λ (u : Version). bytes_cmp x.key u.key ≡ Less) rows v h.0 t)))
    ∙ row_op rows v h.1 t)
    (contains_cases x v rows c)

value_op : (value : Option (List ℕ)) (f : Operations) (n : ℕ) → IsSome value → f n ≡ Some (op_of_value value) → value ≡ value_in (latest f n)
value_op None f n s e = absurd cc
value_op (Some bytes) f n s e = sym (put_last f n bytes e)

not_none : (value : Option (List ℕ)) → IsSome value → value ≢ None
not_none None s e = absurd cc
not_none (Some bytes) s e = cc

row_stays : (pins : TenantPins) (rows : List Version) (v : Version) → AreSettled rows → Contains rows v → StaysBy pins (ops_over rows [] v.key) v
row_stays pins rows v h c = record {
  is_kept = (
    is_there (ops_over rows [] v.key v.number) (op_of_value v.value) (row_op rows v (climb_settled rows h) c),
    inl (λ n l. none_if_not (ops_over rows [] v.key n) (λ s.
        let w = row_found rows v.key n s in
        let e : w.0 ≡ v = one_each rows w.0 v (climb_settled rows h) w.1 c w.2 in
        let m : w.0.number ≡ v.number = ap (λ (u : Version). u.number) e in
        let k : w.0.number ≡ n = w.3 in
        absurd (omega arith))),
  );
  is_value = value_op v.value (ops_over rows [] v.key) v.number (has_value rows v h.alone.values c) (row_op rows v (climb_settled rows h) c);
  is_wanted = inl (not_none v.value (has_value rows v h.alone.values c));
}

stays_there : (pins : TenantPins) (rows : List Version) (v : Version) → AreSettled rows → StaysBy pins (ops_over rows [] v.key) v → Contains rows v
stays_there pins rows v h s =
    let w = row_found rows v.key v.number s.is_kept.0 in
    let value : w.0.value ≡ v.value = (row_stays pins rows w.0 h w.1).is_value ∙ (λ i. value_in (latest (ops_over rows [] (w.2 i)) (w.3 i))) ∙ sym s.is_value in
    let e : w.0 ≡ v = λ i. record { key = w.2 i; number = w.3 i; value = value i } in
    subst (Contains rows) e w.1

-- settled rows stay as they are
pub merged_settled : (rows : List Version) (pins : TenantPins) → AreSettled rows → merged rows [] pins ≡ rows
merged_settled rows pins h = sym ((pruned_exactly_law pins (with_all (rows_set rows) []) rows).1 (record {
  rises = h.rise;
  only_these = λ v c. from_ops pins (with_all (rows_set rows) []) v (subst (λ (f : Operations). StaysBy pins f v) (sym (ops-merged rows [] v.key)) (row_stays pins rows v h c));
  all_these = λ v s. stays_there pins rows v h (subst (λ (f : Operations). StaysBy pins f v) (ops-merged rows [] v.key) (by_ops pins (with_all (rows_set rows) []) v s));
}))
