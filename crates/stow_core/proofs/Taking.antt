-- Which keys a deletion takes rows out with, a key at a time.
use Rattle.std.proofs.Common.{◌≡◌, ◌≢◌, ℕ, ◌+◌, ◌-◌, ◌<◌, ◌⊎◌, Bool, true, false, cond, inl, inr, List, [], ◌∷◌, ◌++◌, length, take, drop, map, get_or, Option, Some, None, is_some, eqb, refl, ap, sym, ◌∙◌, subst, arith, ⊎_elim, w32}
use Rattle.std.proofs.Math.Bool.{and_assoc, ◌&&◌, ◌||◌, false≢true}
use Rattle.std.proofs.lemmas.Bool.{cond-true, cond-false}
use Rattle.std.proofs.lemmas.Grind.{take_at_read}
use Rattle.std.proofs.lemmas.List.{length-append}
use Rattle.std.proofs.lemmas.Map.Text.{is_eq-slice_cmp}
use Rattle.std.specs.FinMap as map
use Rattle.std.specs.Cmp.Lexicographic.{nat_list_cmp_total, nat_list_eq_equiv}
use Rattle.std.specs.Int.{to_be_bytes}
use Rattle.std.specs.List.{list_any}
use Rattle.std.specs.Str.{bytes_eq}
use Rattle.stow_bytes.specs.Bytes.{bytes_cmp}
use Rattle.stow_model.specs.Store.{Rows, Version, rows_without}
use Rattle.stow_model.proofs.Numbers.{all_append}
use Rattle.stow_core.specs.Keys.{AreKeysOf}
use Rattle.stow_core.specs.Taken.{AreDistinct, AreTaken}
use Rattle.stow_core.proofs.Keyed.{one_more_own}
use Rattle.stow_ledger.proofs.StowState.Rows.{same_rows}
use Rattle.stow_tree_model.specs.Keys.{packed, own_key, IsTenantKey}
use Rattle.stow_tree_model.specs.Merged.{same_key}
use Rattle.stow_tree_model.proofs.Orders.{key_cases}

-- ---- keys of one tenant

-- the bytes of two parts, one after the other
split : (p q key : List ℕ) → bytes_eq (p ++ q) key ≡ (bytes_eq p (take (length p) key) && bytes_eq q (drop (length p) key))
split [] q key = refl
split (x ∷ p) q [] = refl
split (x ∷ p) q (y ∷ key) = ap (λ b. eqb x y && b) (split p q key) ∙ sym (and_assoc (eqb x y) _ _)

packed_eq : (t : ℕ) (a b : List ℕ) → bytes_eq (packed t a) (packed t b) ≡ bytes_eq a b
packed_eq t a b = split (to_be_bytes w32 t) a (packed t b) ∙ ap (λ x. x && bytes_eq a b) (nat_list_eq_equiv.refl (to_be_bytes w32 t))

any_packed : (t : ℕ) (q : List ℕ) (ks : List (List ℕ)) → list_any (bytes_eq (packed t q)) (map (packed t) ks) ≡ list_any (bytes_eq q) ks
any_packed t q [] = refl
any_packed t q (k ∷ ks) = λ i. packed_eq t q k i || any_packed t q ks i

any_own : (t : ℕ) (q : List ℕ) (keys : List (List ℕ)) → AreKeysOf t keys → list_any (bytes_eq (packed t q)) keys ≡ list_any (bytes_eq q) (map own_key keys)
any_own t q keys own = ap (list_any (bytes_eq (packed t q))) (sym own) ∙ any_packed t q (map own_key keys)

-- ---- rows without keys

either : (a b : Bool) (o : Option Version) → cond a None (cond b None o) ≡ cond (b || a) None o
either true true o = refl
either true false o = refl
either false true o = refl
either false false o = refl

pub get-rows_without : (keys : List (List ℕ)) (m : Rows) (q : List ℕ) → map.get (rows_without keys m) q ≡ cond (list_any (bytes_eq q) keys) None (map.get m q)
get-rows_without [] m q = refl
get-rows_without (key ∷ keys) m q =
    get-rows_without keys (map.remove m key) q
    ∙ ap (cond (list_any (bytes_eq q) keys) None) (map.get-remove nat_list_cmp_total m key q ∙ ap (λ b. cond b None (map.get m q)) (is_eq-slice_cmp q key))
    ∙ either (list_any (bytes_eq q) keys) (bytes_eq q key) (map.get m q)

pub rows_without-push : (keys : List (List ℕ)) (k : List ℕ) (rows : Rows) → rows_without (keys ++ k ∷ []) rows ≡ map.remove (rows_without keys rows) k
rows_without-push [] k rows = refl
rows_without-push (key ∷ keys) k rows = rows_without-push keys k (map.remove rows key)

pub map-push : (keys : List (List ℕ)) (k : List ℕ) → map own_key (keys ++ k ∷ []) ≡ map own_key keys ++ own_key k ∷ []
map-push [] k = refl
map-push (key ∷ keys) k = ap (λ l. own_key key ∷ l) (map-push keys k)

-- a row that is not there is not taken out
remove_none : (rows : Rows) (k : List ℕ) → map.get rows k ≡ None → map.remove rows k ≡ rows
remove_none rows k none = same_rows _ _ (λ q. map.get-remove nat_list_cmp_total rows k q ∙ ⊎_elim
    (λ (e : (q ≡ k) × (same_key q k ≡ true)). cond-true _ _ _ e.1 ∙ sym none ∙ ap (map.get rows) (sym e.0))
    (λ (e : (q ≢ k) × (same_key q k ≡ false)). cond-false _ _ _ e.1)
    (key_cases q k))

-- a row that is there is one of those counted
some_row : (rows : Rows) (k : List ℕ) → is_some (map.get rows k) ≡ true → map.len rows ≢ 0
some_row rows k there none =
    let gone : is_some (map.get rows k) ≡ false = ap (λ m. is_some (map.get m k)) (map.empty_of_len rows none) ∙ ap is_some (map.get-empty bytes_cmp k) in
    absurd (false≢true (sym gone ∙ there))

remove_counts : (rows : Rows) (k : List ℕ) → is_some (map.get rows k) ≡ true → map.len (map.remove rows k) + 1 ≡ map.len rows
remove_counts rows k there =
    let some : map.len rows ≢ 0 = some_row rows k there in
    let less : map.len (map.remove rows k) ≡ map.len rows - 1 = map.len-remove nat_list_cmp_total rows k ∙ ap (λ b. cond b (map.len rows - 1) (map.len rows)) there in
    omega (arith, some, less)

none_there : (o : Option Version) → is_some o ≡ false → o ≡ None
none_there None e = refl
none_there (Some v) e = absurd (false≢true (sym e))

gone : (b : Bool) (o : Option Version) → o ≡ None → cond b None o ≡ None
gone true o e = refl
gone false o e = e

-- ---- one key more

differ : (p : List ℕ) (x : List ℕ) → bytes_eq p x ≡ false → p ≢ x
differ p x e is = absurd (false≢true (sym e ∙ ap (bytes_eq p) (sym is) ∙ nat_list_eq_equiv.refl p))

first_false : (a b : Bool) → (a || b) ≡ false → a ≡ false
first_false true b e = e
first_false false b e = refl

second_false : (a b : Bool) → (a || b) ≡ false → b ≡ false
second_false true b e = absurd (false≢true (sym e))
second_false false b e = e

distinct_more : (keys : List (List ℕ)) (p : List ℕ) → AreDistinct keys → list_any (bytes_eq p) keys ≡ false → AreDistinct (keys ++ p ∷ [])
distinct_more [] p d none = (tt, tt)
distinct_more (x ∷ keys) p d none = (
  all_append (λ k. k ≢ x) keys (p ∷ []) d.0 (differ p x (first_false _ _ none), tt),
  distinct_more keys p d.1 (second_false (bytes_eq p x) _ none),
)

pub taken_none : (t : ℕ) (rows : Rows) → AreTaken t rows [] []
taken_none t rows = record { own = refl; short = tt; distinct = tt; few = omega arith; left = refl; counted = omega arith }

-- the next key, that has a row and is not yet among those taken
pub taken_more : (t : ℕ) (rows : Rows) (keys taken : List (List ℕ)) (i : ℕ) (k : List ℕ) → i < length keys → k ≡ get_or keys i k → IsTenantKey (packed t k) → AreTaken t rows (take i keys) taken
    → is_some (map.get rows k) ≡ true → list_any (bytes_eq (packed t k)) taken ≡ false → AreTaken t rows (take (i + 1) keys) (taken ++ packed t k ∷ [])
taken_more t rows keys taken i k l is short so there none = subst (λ ks. AreTaken t rows ks (taken ++ packed t k ∷ [])) (sym next) (record {
  own = one_more_own t taken (packed t k) so.own refl;
  short = all_append IsTenantKey taken (packed t k ∷ []) so.short (short, tt);
  distinct = distinct_more taken (packed t k) so.distinct none;
  few = (let a = length-append taken (packed t k ∷ []) in let b = length-append (take i keys) (k ∷ []) in let c = so.few in omega (arith, a, b, c));
  left = ap (λ ks. rows_without ks rows) (map-push taken (packed t k)) ∙ rows_without-push (map own_key taken) k rows ∙ ap (λ r. map.remove r k) so.left ∙ sym (rows_without-push (take i keys) k rows);
  counted =
      let a = length-append taken (packed t k ∷ []) in
      let b = ap map.len (rows_without-push (take i keys) k rows) in
      let c = remove_counts (rows_without (take i keys) rows) k still in
      let d = so.counted in
      omega (arith, a, b, c, d);
})
  where
    next : take (i + 1) keys ≡ take i keys ++ k ∷ []
    next = (take_at_read keys i k l).1 ∙ ap (λ x. take i keys ++ x ∷ []) (sym is)

    still : is_some (map.get (rows_without (take i keys) rows) k) ≡ true
    still = ap (λ r. is_some (map.get r k)) (sym so.left) ∙ ap is_some (get-rows_without (map own_key taken) rows k ∙ cond-false _ _ _ (sym (any_own t k taken so.own) ∙ none)) ∙ there

-- the next key, that takes nothing more out
pub taken_same : (t : ℕ) (rows : Rows) (keys taken : List (List ℕ)) (i : ℕ) (k : List ℕ) → i < length keys → k ≡ get_or keys i k → AreTaken t rows (take i keys) taken
    → (is_some (map.get rows k) ≡ false) ⊎ (list_any (bytes_eq (packed t k)) taken ≡ true) → AreTaken t rows (take (i + 1) keys) taken
taken_same t rows keys taken i k l is so why = subst (λ ks. AreTaken t rows ks taken) (sym next) (record {
  own = so.own;
  short = so.short;
  distinct = so.distinct;
  few = (let b = length-append (take i keys) (k ∷ []) in let c = so.few in omega (arith, b, c));
  left = so.left ∙ sym same;
  counted = ap (λ r. length taken + map.len r) same ∙ so.counted;
})
  where
    next : take (i + 1) keys ≡ take i keys ++ k ∷ []
    next = (take_at_read keys i k l).1 ∙ ap (λ x. take i keys ++ x ∷ []) (sym is)

    none : map.get (rows_without (take i keys) rows) k ≡ None
    none = ap (λ r. map.get r k) (sym so.left) ∙ get-rows_without (map own_key taken) rows k ∙ ⊎_elim
        (λ (e : is_some (map.get rows k) ≡ false). gone (list_any (bytes_eq k) (map own_key taken)) (map.get rows k) (none_there (map.get rows k) e))
        (λ (e : list_any (bytes_eq (packed t k)) taken ≡ true). cond-true _ _ _ (sym (any_own t k taken so.own) ∙ e))
        why

    same : rows_without (take i keys ++ k ∷ []) rows ≡ rows_without (take i keys) rows
    same = rows_without-push (take i keys) k rows ∙ remove_none (rows_without (take i keys) rows) k none

-- a row that is there without some keys is the one that was there
pub without_or_same : (keys : List (List ℕ)) (m : Rows) (q : List ℕ) → (map.get (rows_without keys m) q ≡ None) ⊎ (map.get (rows_without keys m) q ≡ map.get m q)
without_or_same keys m q = one (list_any (bytes_eq q) keys) refl where
  one : (b : Bool) → list_any (bytes_eq q) keys ≡ b → (map.get (rows_without keys m) q ≡ None) ⊎ (map.get (rows_without keys m) q ≡ map.get m q)
  one true e = inl (get-rows_without keys m q ∙ cond-true _ _ _ e)
  one false e = inr (get-rows_without keys m q ∙ cond-false _ _ _ e)

-- and is there still where its key is none of them
pub still_there : (t : ℕ) (keys : List (List ℕ)) (m : Rows) (q : List ℕ) → AreKeysOf t keys → list_any (bytes_eq (packed t q)) keys ≡ false → map.get (rows_without (map own_key keys) m) q ≡ map.get m q
still_there t keys m q own none = get-rows_without (map own_key keys) m q ∙ cond-false _ _ _ (sym (any_own t q keys own) ∙ none)
