-- Lists of ids and numbers, as a map.
use Rattle.std.proofs.Common.{◌≡◌, ◌≢◌, ℕ, zero, suc, ◌<◌, ◌≤◌, Bool, true, false, List, [], ◌∷◌, ◌++◌, length, get_or, Option, Some, None, refl, ap, ◌∙◌, sym, subst, arith, cond, ◌⊎◌, inl, inr, ⊎_elim}
use Rattle.std.specs.Prelude.{T, map, not, is_some, ◌&&◌, ◌||◌, ◌==◌}
use Rattle.std.specs.List.{zip, list_any, position, position_or_len, remove}
use Rattle.std.specs.declared.cmp.Ordering.TheVariants.{Less, Equal, Greater}
use Rattle.std.specs.Ordering.{nat_cmp, is_eq, is_lt, eq_by_cmp}
use Rattle.std.specs.Cmp.{nat_cmp_total, nat_cmp_is}
use Rattle.std.specs.FinMap.{find, put, is_sorted}
use Rattle.std.specs.FinMap.Entries.{by_order, below_all, where_key, find-where_key, is_sorted-where_key}
use Rattle.std.specs.FinMap as finite
use Rattle.std.proofs.lemmas.Bool.{cases_eq, cases_lt, eq-eqb, eqb-true, lt-ltb, cond-true, cond-false}
use Rattle.std.proofs.lemmas.List.{length-map}
use Rattle.std.proofs.lemmas.List.Quantifiers.{position-Some}
use Rattle.std.proofs.lemmas.Slice.Zip.{firsts-zip, seconds-zip}
use Rattle.stow_versions.specs.VersionLists.{snapshots_of}

-- ---- order

and_first : (a b : Bool) → (a && b) ≡ true → a ≡ true
and_first true b e = refl
and_first false b e = e

and_second : (a b : Bool) → (a && b) ≡ true → b ≡ true
and_second true b e = e
and_second false b e = absurd (subst T (sym e) tt)

both_true : (a b : Bool) → a ≡ true → b ≡ true → (a && b) ≡ true
both_true a b p q = ap (λ x. x && b) p ∙ q

pub t_from : (b : Bool) → b ≡ true → T b
t_from b e = subst T (sym e) tt

below_is : (x y : ℕ) → x < y → nat_cmp x y ≡ Less
below_is x y l = sym (nat_cmp_is x y Less l)

above_is : (x y : ℕ) → y < x → nat_cmp x y ≡ Greater
above_is x y l = sym (nat_cmp_is x y Greater l)

equal_is : (x y : ℕ) → x ≡ y → nat_cmp x y ≡ Equal
equal_is x y e = sym (nat_cmp_is x y Equal e)

-- two numbers in their order, by what the order answers
order_cases : (x y : ℕ) → ((x < y) × (nat_cmp x y ≡ Less)) ⊎ (((x ≡ y) × (nat_cmp x y ≡ Equal)) ⊎ ((y < x) × (nat_cmp x y ≡ Greater)))
order_cases x y = ⊎_elim
    (λ (e : x ≡ y). inr (inl (e, equal_is x y e)))
    (λ (ne : x ≢ y). ⊎_elim
    (λ (l : x < y). inl (l, below_is x y l))
    (λ (g : y ≤ x). let less : y < x = omega arith in inr (inr (less, above_is x y less)))
    (cases_lt x y))
    (cases_eq x y)

less_from : (x y : ℕ) → is_lt (nat_cmp x y) ≡ true → x < y
less_from x y t = ⊎_elim
    (λ (h : (x < y) × (nat_cmp x y ≡ Less)). h.0)
    (λ (h : ((x ≡ y) × (nat_cmp x y ≡ Equal)) ⊎ ((y < x) × (nat_cmp x y ≡ Greater))). ⊎_elim
    (λ (e : (x ≡ y) × (nat_cmp x y ≡ Equal)). absurd (subst T (sym t ∙ ap is_lt e.1) tt))
    (λ (e : (y < x) × (nat_cmp x y ≡ Greater)). absurd (subst T (sym t ∙ ap is_lt e.1) tt)) h)
    (order_cases x y)

pub same_is : (x y : ℕ) → x ≡ y → eq_by_cmp nat_cmp x y ≡ true
same_is x y e = ap is_eq (equal_is x y e)

other_is : (x y : ℕ) → x ≢ y → eq_by_cmp nat_cmp x y ≡ false
other_is x y ne = ⊎_elim
    (λ (h : (x < y) × (nat_cmp x y ≡ Less)). ap is_eq h.1)
    (λ (h : ((x ≡ y) × (nat_cmp x y ≡ Equal)) ⊎ ((y < x) × (nat_cmp x y ≡ Greater))). ⊎_elim
    (λ (e : (x ≡ y) × (nat_cmp x y ≡ Equal)). absurd (ne e.0))
    (λ (e : (y < x) × (nat_cmp x y ≡ Greater)). ap is_eq e.1) h)
    (order_cases x y)

neither : (a b : Bool) → (a || b) ≡ false → b ≡ false
neither true b e = absurd (subst T e tt)
neither false b e = e

t_true : (b : Bool) → T b → b ≡ true
t_true true h = refl
t_true false h = absurd h

swap_equal : (x y : ℕ) → eq_by_cmp nat_cmp x y ≡ eq_by_cmp nat_cmp y x
swap_equal x y = ⊎_elim
    (λ (e : x ≡ y). same_is x y e ∙ sym (same_is y x (sym e)))
    (λ (ne : x ≢ y). other_is x y ne ∙ sym (other_is y x (λ e. ne (sym e))))
    (cases_eq x y)

-- ---- the map of two lists

module _ (ids numbers : List ℕ) (each : length numbers ≡ length ids) (rise : is_sorted nat_cmp (zip ids numbers) ≡ true) where
  pub entries_of : finite.entries (snapshots_of ids numbers) ≡ zip ids numbers
  entries_of = finite.entries-from_sorted nat_cmp (zip ids numbers) (t_from _ rise)

  pub keys_of : finite.keys (snapshots_of ids numbers) ≡ ids
  keys_of = ap (map (λ (p : ℕ × ℕ). p.0)) entries_of ∙ firsts-zip ids numbers each

  pub values_of : finite.values (snapshots_of ids numbers) ≡ numbers
  values_of = ap (map (λ (p : ℕ × ℕ). p.1)) entries_of ∙ seconds-zip ids numbers each

  pub len_of : finite.len (snapshots_of ids numbers) ≡ length ids
  len_of = finite.len-entries (snapshots_of ids numbers) ∙ sym (length-map (finite.entries (snapshots_of ids numbers)) (λ (p : ℕ × ℕ). p.0)) ∙ ap length keys_of

  pub get_of : (q : ℕ) → finite.get (snapshots_of ids numbers) q ≡ find nat_cmp q (zip ids numbers)
  get_of q = finite.get-from_sorted nat_cmp (zip ids numbers) q (t_from _ rise)

-- ---- a place in the lists

-- what is below all ids is below each
below_each : (x : ℕ) (ids numbers : List ℕ) → length numbers ≡ length ids → below_all nat_cmp x (zip ids numbers) ≡ true → (j : ℕ) → j < length ids → x < get_or ids j 0
below_each x [] numbers each h j l = absurd (omega arith)
below_each x (i ∷ ids) [] each h j l = absurd (omega arith)
below_each x (i ∷ ids) (n ∷ numbers) each h zero l = less_from x i (and_first (is_lt (nat_cmp x i)) (below_all nat_cmp x (zip ids numbers)) h)
below_each x (i ∷ ids) (n ∷ numbers) each h (suc j) l = below_each x ids numbers (omega arith) (and_second (is_lt (nat_cmp x i)) (below_all nat_cmp x (zip ids numbers)) h) j (omega arith)

-- the number at an id's place is the id's
pub find_here : (ids numbers : List ℕ) (q i : ℕ) → length numbers ≡ length ids → is_sorted nat_cmp (zip ids numbers) ≡ true → i < length ids → get_or ids i 0 ≡ q → find nat_cmp q (zip ids numbers) ≡ Some (get_or numbers i 0)
find_here [] numbers q i each rise l e = absurd (omega arith)
find_here (x ∷ ids) [] q i each rise l e = absurd (omega arith)
find_here (x ∷ ids) (n ∷ numbers) q zero each rise l e = cond-true _ _ _ (same_is q x (sym e))
find_here (x ∷ ids) (n ∷ numbers) q (suc i) each rise l e =
    let below = below_each x ids numbers (omega arith) (and_first (below_all nat_cmp x (zip ids numbers)) (is_sorted nat_cmp (zip ids numbers)) rise) i (omega arith) in
    let ne : q ≢ x = λ same. omega arith in
    cond-false _ _ _ (other_is q x ne) ∙ find_here ids numbers q i (omega arith) (and_second (below_all nat_cmp x (zip ids numbers)) (is_sorted nat_cmp (zip ids numbers)) rise) (omega arith) e

-- an id that isn't there has no number
pub find_none : (ids numbers : List ℕ) (q : ℕ) → list_any (λ i. i == q) ids ≡ false → find nat_cmp q (zip ids numbers) ≡ None
find_none [] numbers q h = refl
find_none (x ∷ ids) [] q h = refl
find_none (x ∷ ids) (n ∷ numbers) q h =
    cond-false _ _ _ (other_is q x (λ e. let bad : false ≡ true = sym h ∙ ap (λ b. b || list_any (λ i. i == q) ids) (eq-eqb x q (sym e)) in absurd (subst T (sym bad) tt)))
    ∙ find_none ids numbers q (neither (x == q) (list_any (λ i. i == q) ids) h)

-- ids above the one that is dropped stay
all_others : (x : ℕ) (ids numbers : List ℕ) (q : ℕ) → length numbers ≡ length ids → below_all nat_cmp x (zip ids numbers) ≡ true → x ≡ q → where_key nat_cmp (λ y. not (eq_by_cmp nat_cmp q y)) (zip ids numbers) ≡ zip ids numbers
all_others x [] numbers q each h e = refl
all_others x (i ∷ ids) [] q each h e = refl
all_others x (i ∷ ids) (n ∷ numbers) q each h e =
    let less = less_from x i (and_first (is_lt (nat_cmp x i)) (below_all nat_cmp x (zip ids numbers)) h) in
    let ne : q ≢ i = λ same. omega arith in
    cond-true _ _ _ (ap not (other_is q i ne))
    ∙ ap (λ es. (i, n) ∷ es) (all_others x ids numbers q (omega arith) (and_second (is_lt (nat_cmp x i)) (below_all nat_cmp x (zip ids numbers)) h) e)

-- an id's place taken out leaves the others
pub zip-remove : (ids numbers : List ℕ) (q i : ℕ) → length numbers ≡ length ids → is_sorted nat_cmp (zip ids numbers) ≡ true → i < length ids → get_or ids i 0 ≡ q → zip (remove ids i) (remove numbers i) ≡ where_key nat_cmp (λ x. not (eq_by_cmp nat_cmp q x)) (zip ids numbers)
zip-remove [] numbers q i each rise l e = absurd (omega arith)
zip-remove (x ∷ ids) [] q i each rise l e = absurd (omega arith)
zip-remove (x ∷ ids) (n ∷ numbers) q zero each rise l e =
    sym (cond-false _ _ _ (ap not (same_is q x (sym e))) ∙ all_others x ids numbers q (omega arith) (and_first (below_all nat_cmp x (zip ids numbers)) (is_sorted nat_cmp (zip ids numbers)) rise) e)
zip-remove (x ∷ ids) (n ∷ numbers) q (suc i) each rise l e =
    let below = below_each x ids numbers (omega arith) (and_first (below_all nat_cmp x (zip ids numbers)) (is_sorted nat_cmp (zip ids numbers)) rise) i (omega arith) in
    let ne : q ≢ x = λ same. omega arith in
    ap (λ es. (x, n) ∷ es) (zip-remove ids numbers q i (omega arith) (and_second (below_all nat_cmp x (zip ids numbers)) (is_sorted nat_cmp (zip ids numbers)) rise) (omega arith) e)
    ∙ sym (cond-true _ _ _ (ap not (other_is q x ne)))

-- ---- an id more, above the others

zip-push : (ids numbers : List ℕ) (id number : ℕ) → length numbers ≡ length ids → zip (ids ++ id ∷ []) (numbers ++ number ∷ []) ≡ zip ids numbers ++ (id, number) ∷ []
zip-push [] [] id number each = refl
zip-push [] (n ∷ numbers) id number each = absurd (omega arith)
zip-push (i ∷ ids) [] id number each = absurd (omega arith)
zip-push (i ∷ ids) (n ∷ numbers) id number each = ap (λ es. (i, n) ∷ es) (zip-push ids numbers id number (omega arith))

below_push : (x : ℕ) (es : List (ℕ × ℕ)) (id number : ℕ) → below_all nat_cmp x es ≡ true → x < id → below_all nat_cmp x (es ++ (id, number) ∷ []) ≡ true
below_push x [] id number h l = both_true _ _ (ap is_lt (below_is x id l)) refl
below_push x (e ∷ es) id number h l =
    both_true (is_lt (nat_cmp x e.0)) (below_all nat_cmp x (es ++ (id, number) ∷ []))
    (and_first (is_lt (nat_cmp x e.0)) (below_all nat_cmp x es) h)
    (below_push x es id number (and_second (is_lt (nat_cmp x e.0)) (below_all nat_cmp x es) h) l)

pub rise_push : (ids numbers : List ℕ) (id number : ℕ) → length numbers ≡ length ids → is_sorted nat_cmp (zip ids numbers) ≡ true → ((j : ℕ) → j < length ids → get_or ids j 0 < id) → is_sorted nat_cmp (zip (ids ++ id ∷ []) (numbers ++ number ∷ [])) ≡ true
rise_push [] [] id number each rise below = refl
rise_push [] (n ∷ numbers) id number each rise below = absurd (omega arith)
rise_push (i ∷ ids) [] id number each rise below = absurd (omega arith)
rise_push (i ∷ ids) (n ∷ numbers) id number each rise below =
    both_true (below_all nat_cmp i (zip (ids ++ id ∷ []) (numbers ++ number ∷ []))) (is_sorted nat_cmp (zip (ids ++ id ∷ []) (numbers ++ number ∷ [])))
    (subst (λ es. below_all nat_cmp i es ≡ true) (sym (zip-push ids numbers id number (omega arith)))
    (below_push i (zip ids numbers) id number (and_first (below_all nat_cmp i (zip ids numbers)) (is_sorted nat_cmp (zip ids numbers)) rise) (below zero (omega arith))))
    (rise_push ids numbers id number (omega arith) (and_second (below_all nat_cmp i (zip ids numbers)) (is_sorted nat_cmp (zip ids numbers)) rise) (λ j l. below (suc j) (omega arith)))

put_push : (ids numbers : List ℕ) (id number : ℕ) → length numbers ≡ length ids → ((j : ℕ) → j < length ids → get_or ids j 0 < id) → put nat_cmp id number (zip ids numbers) ≡ zip (ids ++ id ∷ []) (numbers ++ number ∷ [])
put_push [] [] id number each below = refl
put_push [] (n ∷ numbers) id number each below = absurd (omega arith)
put_push (i ∷ ids) [] id number each below = absurd (omega arith)
put_push (i ∷ ids) (n ∷ numbers) id number each below =
    ap (λ r. by_order r ((id, number) ∷ (i, n) ∷ zip ids numbers) ((i, number) ∷ zip ids numbers) ((i, n) ∷ put nat_cmp id number (zip ids numbers))) (above_is id i (below zero (omega arith)))
    ∙ ap (λ es. (i, n) ∷ es) (put_push ids numbers id number (omega arith) (λ j l. below (suc j) (omega arith)))

pub insert_push : (ids numbers : List ℕ) (id number : ℕ) → length numbers ≡ length ids → is_sorted nat_cmp (zip ids numbers) ≡ true → ((j : ℕ) → j < length ids → get_or ids j 0 < id) → snapshots_of (ids ++ id ∷ []) (numbers ++ number ∷ []) ≡ finite.insert (snapshots_of ids numbers) id number
insert_push ids numbers id number each rise below = finite.same_entries_map _ _
    (finite.entries-from_sorted nat_cmp (zip (ids ++ id ∷ []) (numbers ++ number ∷ [])) (t_from _ (rise_push ids numbers id number each rise below))
    ∙ sym (put_push ids numbers id number each below)
    ∙ ap (put nat_cmp id number) (sym (entries_of ids numbers each rise))
    ∙ sym (finite.entries-insert nat_cmp_total (snapshots_of ids numbers) id number))

-- ---- an id fewer

pub rise_remove : (ids numbers : List ℕ) (q i : ℕ) → length numbers ≡ length ids → is_sorted nat_cmp (zip ids numbers) ≡ true → i < length ids → get_or ids i 0 ≡ q → is_sorted nat_cmp (zip (remove ids i) (remove numbers i)) ≡ true
rise_remove ids numbers q i each rise l e =
    ap (is_sorted nat_cmp) (zip-remove ids numbers q i each rise l e)
    ∙ t_true _ (is_sorted-where_key nat_cmp (λ x. not (eq_by_cmp nat_cmp q x)) (zip ids numbers) (t_from _ rise))

turned : {A : Type 0} (b : Bool) (x y : A) → cond (not b) x y ≡ cond b y x
turned true x y = refl
turned false x y = refl

-- the test that drops an id can't tell keys apart that the order can't
alike : (q k x : ℕ) → nat_cmp k x ≡ Equal → not (eq_by_cmp nat_cmp q x) ≡ not (eq_by_cmp nat_cmp q k)
alike q k x e = ap (λ y. not (eq_by_cmp nat_cmp q y)) (sym (finite.nat_cmp-IsAntisymmetric k x e))

pub remove_at : (ids numbers : List ℕ) (q i : ℕ) → length numbers ≡ length ids → is_sorted nat_cmp (zip ids numbers) ≡ true → i < length ids → get_or ids i 0 ≡ q → snapshots_of (remove ids i) (remove numbers i) ≡ finite.remove (snapshots_of ids numbers) q
remove_at ids numbers q i each rise l e = finite.same_map nat_cmp_total finite.nat_cmp-IsAntisymmetric _ _ (λ k.
    finite.get-from_sorted nat_cmp (zip (remove ids i) (remove numbers i)) k (t_from _ (rise_remove ids numbers q i each rise l e))
    ∙ ap (find nat_cmp k) (zip-remove ids numbers q i each rise l e)
    ∙ find-where_key nat_cmp (λ x. not (eq_by_cmp nat_cmp q x)) k (λ x same. alike q k x same) (zip ids numbers)
    ∙ turned (eq_by_cmp nat_cmp q k) (find nat_cmp k (zip ids numbers)) None
    ∙ ap (λ b. cond b None (find nat_cmp k (zip ids numbers))) (swap_equal q k)
    ∙ sym (finite.get-remove nat_cmp_total (snapshots_of ids numbers) q k ∙ ap (cond (eq_by_cmp nat_cmp k q) None) (get_of ids numbers each rise k)))

-- ---- the place of an id

bool_cases : (b : Bool) → (b ≡ true) ⊎ (b ≡ false)
bool_cases true = inl refl
bool_cases false = inr refl

-- what is there has a place
place_within : (p : ℕ → Bool) (xs : List ℕ) → list_any p xs ≡ true → position_or_len p xs < length xs
place_within p [] h = absurd (subst T (sym h) tt)
place_within p (x ∷ xs) h = ⊎_elim
    (λ (t : p x ≡ true). subst (λ n. n < suc (length xs)) (sym (cond-false _ _ _ (ap not t))) (omega arith))
    (λ (f : p x ≡ false).
    let rest = place_within p xs (sym (ap (λ b. b || list_any p xs) f) ∙ h) in
    subst (λ n. n < suc (length xs)) (sym (cond-true _ _ _ (ap not f))) (omega arith))
    (bool_cases (p x))

some_place : (o : Option ℕ) (i : ℕ) → o ≡ Some i → o ≡ None → ⊥
some_place o i e f = let both : Some i ≡ None = sym e ∙ f in subst T (ap is_some both) tt

-- an id without a place has no number
pub find_absent : (ids numbers : List ℕ) (q : ℕ) → position (λ i. i == q) ids ≡ None → find nat_cmp q (zip ids numbers) ≡ None
find_absent ids numbers q h = ⊎_elim
    (λ (t : list_any (λ i. i == q) ids ≡ true). absurd (some_place _ _ (cond-true _ _ _ (lt-ltb _ _ (place_within (λ i. i == q) ids t))) h))
    (λ (f : list_any (λ i. i == q) ids ≡ false). find_none ids numbers q f)
    (bool_cases (list_any (λ i. i == q) ids))

-- an id's place is within, and the id stands there
pub place_is : (ids : List ℕ) (q i : ℕ) → position (λ i. i == q) ids ≡ Some i → (i < length ids) × (get_or ids i 0 ≡ q)
place_is ids q i h = let at = position-Some (λ i. i == q) ids i 0 h in (at.0, eqb-true (get_or ids i 0) q at.1)
