-- The rows of an interval, as the tree tells them.
use Rattle.std.proofs.Common.{◌≡◌, ◌≢◌, ℕ, zero, suc, ◌+◌, ◌<◌, ◌≤◌, ◌^◌, ◌⊎◌, inl, inr, Bool, true, false, cond, not, List, [], ◌∷◌, length, take, map, eqb, Option, Some, None, refl, ap, sym, ◌∙◌, subst, arith, ⊎_elim}
use Rattle.std.proofs.Math.Bool.{◌&&◌, ◌||◌, false≢true}
use Rattle.std.specs.Prelude.{filter, Contains, IsSome, T}
use Rattle.std.specs.FinMap as rows
use Rattle.std.specs.FinMap.{find, is_sorted}
use Rattle.std.specs.List.{AllByRecursion, flat_map}
use Rattle.std.specs.List.Sorted.{IsStrictlySortedBy}
use Rattle.std.specs.Cmp.{tied_itself}
use Rattle.std.specs.Cmp.Lexicographic.{nat_list_cmp_total}
use Rattle.std.specs.declared.cmp.Ordering.{Ordering}
use Rattle.std.specs.declared.cmp.Ordering.TheVariants.{Less, Equal, Greater}
use Rattle.std.specs.Ordering.{is_le, is_lt, ordering_then, ordering_reverse, nat_cmp}
use Rattle.std.proofs.lemmas.Bool.{cases_order, cond-true, cond-false}
use Rattle.std.proofs.lemmas.List.{length-map}
use Rattle.stow_bytes.specs.Bytes.{bytes_cmp}
use Rattle.stow_dropping.specs.StowLeaf.Intervals.{spans}
use Rattle.stow_model.specs.Item.{Item}
use Rattle.stow_model.specs.Item as item
use Rattle.stow_model.specs.Store.{Rows, Shown, Version, is_within, row_items, rows_within}
use Rattle.stow_tree_model.specs.Intervals.{IsWholeKey}
use Rattle.stow_core.specs.Ends.{upper_end, row_bulks}
use Rattle.stow_dropping.specs.StowRead.Range.{KeyValue, IsRange, AreUnder}
use Rattle.stow_ledger.specs.StowState.Rows.{rows_at, version_of}
use Rattle.stow_ledger.proofs.StowState.Rows.{rows_by_value_law}
use Rattle.stow_tree_model.specs.Keys.{packed, own_key, tenant_of}
use Rattle.stow_tree_model.specs.Merged.{same_key}
use Rattle.stow_tree_model.specs.Messages.{Messages, ops_of, value}
use Rattle.stow_tree_model.specs.Operations.{NumberedValue, latest, value_in}
use Rattle.stow_tree_model.proofs.Latest.{contains_cases}
use Rattle.stow_tree_model.proofs.Orders.{key_cases, less_than, same_number, more_than}
use Rattle.stow_tree_model.proofs.Packed.{own_key-packed}
use Rattle.stow_tree_model.proofs.PackedOrder.{packed_in_order_law, packed-parts}
use Rattle.stow_tree_model.proofs.Rising.{less_from}

-- ---- lists that rise

-- the key is one of these
Among : List ℕ → List (List ℕ) → Type 0
Among k [] = ⊥
Among k (x ∷ xs) = (k ≡ x) ⊎ Among k xs

abbrev Rises : List (List ℕ) → Type 0
Rises ks = IsStrictlySortedBy bytes_cmp ks

not_itself : (a : List ℕ) → bytes_cmp a a ≡ Less → ⊥
not_itself a l = let t = tied_itself nat_list_cmp_total a in let e : Equal ≡ Less = sym t ∙ l in cc

not_both : (a b : List ℕ) → bytes_cmp a b ≡ Less → bytes_cmp b a ≡ Less → ⊥
not_both a b l m = not_itself a (nat_list_cmp_total.trans a b a l m)

above_all : (x k : List ℕ) (xs : List (List ℕ)) → AllByRecursion (λ y. bytes_cmp x y ≡ Less) xs → Among k xs → bytes_cmp x k ≡ Less
unfolding Among
above_all x k [] a h = absurd h
above_all x k (y ∷ xs) a h = ⊎_elim
    (λ (e : k ≡ y). subst (λ z. bytes_cmp x z ≡ Less) (sym e) a.0)
    (λ (m : Among k xs). above_all x k xs a.1 m)
    h

abbrev AreAllBelow : List (List ℕ) → List ℕ → Type 0
AreAllBelow ks key = AllByRecursion (λ k. bytes_cmp k key ≡ Less) ks

-- of two lists that rise, one is the first keys of the other
front : (ks ls : List (List ℕ)) (count : ℕ) → Rises ks → Rises ls → length ks ≤ count → ((k : List ℕ) → Among k ks → Among k ls)
    → ((l : List ℕ) → Among l ls → Among l ks ⊎ ((length ks ≡ count) × AreAllBelow ks l)) → ks ≡ take count ls
unfolding IsStrictlySortedBy Among
front [] [] zero rk rl few into all = refl
front [] [] (suc c) rk rl few into all = refl
front [] (l ∷ ls) zero rk rl few into all = refl
front [] (l ∷ ls) (suc c) rk rl few into all = ⊎_elim
    (λ (m : ⊥). absurd m)
    (λ (f : (0 ≡ suc c) × Unit {0}). absurd (let e = f.0 in omega (arith, e)))
    (all l (inl refl))
front (k ∷ ks) [] count rk rl few into all = absurd (into k (inl refl))
front (k ∷ ks) (l ∷ ls) zero rk rl few into all = absurd (omega (arith, few))
front (k ∷ ks) (l ∷ ls) (suc c) rk rl few into all = λ i. same i ∷ front ks ls c rk.1 rl.1 (omega (arith, few)) into' all' i
  where
    no : bytes_cmp l k ≡ Less → ⊥
    no less = ⊎_elim
        (λ (h : (l ≡ k) ⊎ Among l ks). ⊎_elim
        (λ (e : l ≡ k). not_itself k (subst (λ z. bytes_cmp z k ≡ Less) e less))
        (λ (m : Among l ks). not_both k l (above_all k l ks rk.0 m) less)
        h)
        (λ (h : (suc (length ks) ≡ suc c) × AreAllBelow (k ∷ ks) l). not_both k l h.1.0 less)
        (all l (inl refl))

    same : k ≡ l
    same = ⊎_elim
        (λ (e : k ≡ l). e)
        (λ (m : Among k ls). absurd (no (above_all l k ls rl.0 m)))
        (into k (inl refl))

    into' : (x : List ℕ) → Among x ks → Among x ls
    into' x m = ⊎_elim
        (λ (e : x ≡ l). absurd (not_itself k (subst (λ z. bytes_cmp k z ≡ Less) (e ∙ sym same) (above_all k x ks rk.0 m))))
        (λ (h : Among x ls). h)
        (into x (inr m))

    all' : (x : List ℕ) → Among x ls → Among x ks ⊎ ((length ks ≡ c) × AreAllBelow ks x)
    all' x m = ⊎_elim
        (λ (h : (x ≡ k) ⊎ Among x ks). ⊎_elim
        (λ (e : x ≡ k). absurd (not_itself l (subst (λ z. bytes_cmp l z ≡ Less) (e ∙ same) (above_all l x ls rl.0 m))))
        (λ (h : Among x ks). inl h)
        h)
        (λ (h : (suc (length ks) ≡ suc c) × AreAllBelow (k ∷ ks) x). inr ((let e = h.0 in omega (arith, e)), h.1.1))
        (all x (inr m))

-- ---- the interval among the keys of all

not_lt : (o : Ordering) → not (is_lt o) ≡ is_le (ordering_reverse o)
not_lt Less = refl
not_lt Equal = refl
not_lt Greater = refl

own_cmp : (t : ℕ) (a b : List ℕ) → t < 2 ^ 32 → bytes_cmp (packed t a) (packed t b) ≡ bytes_cmp a b
own_cmp t a b l = packed_in_order_law t t a b l l ∙ ap (λ o. ordering_then o (bytes_cmp a b)) (same_number t)

lower_test : (t : ℕ) (from k : List ℕ) → t < 2 ^ 32 → not (is_lt (bytes_cmp (packed t k) (packed t from))) ≡ is_le (bytes_cmp from k)
lower_test t from k l = ap (λ o. not (is_lt o)) (own_cmp t k from l) ∙ not_lt (bytes_cmp k from) ∙ ap is_le (sym (nat_list_cmp_total.antisymm from k))

upper_test : (t : ℕ) (to k : List ℕ) (b : Bool) → t ≤ 65535 → is_lt (bytes_cmp (packed t k) (cond b (packed (t + 1) []) (packed t to))) ≡ (b || is_lt (bytes_cmp k to))
upper_test t to k true l = ap is_lt (packed_in_order_law t (t + 1) k [] (omega (arith, l)) (omega (arith, l)) ∙ ap (λ o. ordering_then o (bytes_cmp k [])) (less_than t (t + 1) (omega arith)))
upper_test t to k false l = ap is_lt (own_cmp t k to (omega (arith, l)))

-- the tenant's key is in the interval where its own key is
spans_own : (t : ℕ) (from to k : List ℕ) → t ≤ 65535 → spans (packed t from) (upper_end t to) (packed t k) ≡ is_within from to k
spans_own t from to k l = λ i. lower_test t from k (omega (arith, l)) i && upper_test t to k (eqb (length to) 0) l i

never_below_none : (k : List ℕ) → is_lt (bytes_cmp k []) ≡ true → ⊥
never_below_none [] e = false≢true e
never_below_none (x ∷ k) e = false≢true e

first_test : (a b : Bool) → (a && b) ≡ true → a ≡ true
first_test true b e = refl
first_test false b e = absurd (false≢true e)

second_test : (a b : Bool) → (a && b) ≡ true → b ≡ true
second_test true b e = e
second_test false b e = absurd (false≢true e)

not_lower : (t u : ℕ) (from k : List ℕ) → t < 2 ^ 32 → u < t → not (is_lt (bytes_cmp (packed u k) (packed t from))) ≡ true → ⊥
not_lower t u from k l less e =
    false≢true (sym (ap (λ o. not (is_lt o)) (packed_in_order_law u t k from (omega (arith, l, less)) l ∙ ap (λ o. ordering_then o (bytes_cmp k from)) (less_than u t less))) ∙ e)

not_higher : (t u : ℕ) (to k : List ℕ) (b : Bool) → t ≤ 65535 → u < 2 ^ 32 → t < u → is_lt (bytes_cmp (packed u k) (cond b (packed (t + 1) []) (packed t to))) ≡ true → ⊥
not_higher t u to k true l low more e = ⊎_elim
    (λ (s : u ≡ t + 1). never_below_none k (sym (ap is_lt (order ∙ ap (λ o. ordering_then o (bytes_cmp k [])) (ap (λ x. nat_cmp x (t + 1)) s ∙ same_number (t + 1)))) ∙ e))
    (λ (h : (u < t + 1) ⊎ (t + 1 < u)). ⊎_elim
    (λ (a : u < t + 1). absurd (omega (arith, a, more)))
    (λ (a : t + 1 < u). false≢true (sym (ap is_lt (order ∙ ap (λ o. ordering_then o (bytes_cmp k [])) (more_than u (t + 1) a))) ∙ e))
    h)
    (cases_order u (t + 1))
  where
    order : bytes_cmp (packed u k) (packed (t + 1) []) ≡ ordering_then (nat_cmp u (t + 1)) (bytes_cmp k [])
    order = packed_in_order_law u (t + 1) k [] low (omega (arith, l))
not_higher t u to k false l low more e =
    false≢true (sym (ap is_lt (packed_in_order_law u t k to low (omega (arith, l)) ∙ ap (λ o. ordering_then o (bytes_cmp k to)) (more_than u t more))) ∙ e)

-- a key of the interval is the tenant's
own_of_spans : (t : ℕ) (from to key : List ℕ) → t ≤ 65535 → IsWholeKey key → spans (packed t from) (upper_end t to) key ≡ true → packed t (own_key key) ≡ key
own_of_spans t from to key l is e = subst (λ u. packed u (own_key key) ≡ key) same parts
  where
    parts : packed (tenant_of key) (own_key key) ≡ key
    parts = packed-parts key is.0 is.1

    low : tenant_of key < 2 ^ 32
    low = let near = is.0.is_near in omega (arith, near)

    inside : spans (packed t from) (upper_end t to) (packed (tenant_of key) (own_key key)) ≡ true
    inside = ap (spans (packed t from) (upper_end t to)) parts ∙ e

    same : tenant_of key ≡ t
    same = ⊎_elim
        (λ (s : tenant_of key ≡ t). s)
        (λ (h : (tenant_of key < t) ⊎ (t < tenant_of key)). ⊎_elim
        (λ (a : tenant_of key < t). absurd (not_lower t (tenant_of key) from (own_key key) (omega (arith, l)) a (first_test _ _ inside)))
        (λ (a : t < tenant_of key). absurd (not_higher t (tenant_of key) to (own_key key) (eqb (length to) 0) l low a (second_test (not (is_lt (bytes_cmp (packed (tenant_of key) (own_key key)) (packed t from)))) _ inside)))
        h)
        (cases_order (tenant_of key) t)

-- ---- entries of rows

first_part : (a b : Bool) → T (a && b) → T a
first_part true b p = tt
first_part false b p = p

second_part : (a b : Bool) → T (a && b) → T b
second_part true b p = p
second_part false b p = absurd p

less : (o : Ordering) → T (is_lt o) → o ≡ Less
less Less p = refl
less Equal p = absurd p
less Greater p = absurd p

above : (k : List ℕ) (es : List Shown) → T (rows.Entries.below_all bytes_cmp k es) → AllByRecursion (λ q. bytes_cmp k q ≡ Less) (map (λ (e : Shown). e.0) es)
above k [] h = tt
above k (e ∷ es) h = (less (bytes_cmp k e.0) (first_part _ _ h), above k es (second_part (is_lt (bytes_cmp k e.0)) _ h))

rising : (es : List Shown) → T (is_sorted bytes_cmp es) → Rises (map (λ (e : Shown). e.0) es)
unfolding IsStrictlySortedBy
rising [] h = tt
rising (e ∷ es) h = (above e.0 es (first_part _ _ h), rising es (second_part (rows.Entries.below_all bytes_cmp e.0 es) _ h))

still_above : (k : List ℕ) (p : List ℕ → Bool) (es : List Shown) → AllByRecursion (λ q. bytes_cmp k q ≡ Less) (map (λ (e : Shown). e.0) es) → AllByRecursion (λ q. bytes_cmp k q ≡ Less) (map (λ (e : Shown). e.0) (filter (λ e. p e.0) es))
still_above k p [] h = tt
still_above k p (e ∷ es) h = one (p e.0) (still_above k p es h.1) where
  one : (b : Bool) → AllByRecursion (λ q. bytes_cmp k q ≡ Less) (map (λ (e : Shown). e.0) (filter (λ e. p e.0) es)) → AllByRecursion (λ q. bytes_cmp k q ≡ Less) (map (λ (e : Shown). e.0) (cond b (e ∷ filter (λ e. p e.0) es) (filter (λ e. p e.0) es)))
  one true rest = (h.0, rest)
  one false rest = rest

still_rising : (p : List ℕ → Bool) (es : List Shown) → Rises (map (λ (e : Shown). e.0) es) → Rises (map (λ (e : Shown). e.0) (filter (λ e. p e.0) es))
unfolding IsStrictlySortedBy
still_rising p [] h = tt
still_rising p (e ∷ es) h = one (p e.0) (still_rising p es h.1) where
  one : (b : Bool) → Rises (map (λ (e : Shown). e.0) (filter (λ e. p e.0) es)) → Rises (map (λ (e : Shown). e.0) (cond b (e ∷ filter (λ e. p e.0) es) (filter (λ e. p e.0) es)))
  one true rest = (still_above e.0 p es h.0, rest)
  one false rest = rest

same_itself : (k : List ℕ) → same_key k k ≡ true
same_itself k = ⊎_elim
    (λ (s : (k ≡ k) × (same_key k k ≡ true)). s.1)
    (λ (ne : (k ≢ k) × (same_key k k ≡ false)). absurd (ne.0 refl))
    (key_cases k k)

no_some : {X : Type 0} (x : X) → None ≡ Some x → ⊥
no_some x e = cc

-- a key that passes and has a row is among the rows that pass
passing : (p : List ℕ → Bool) (k : List ℕ) (v : Version) (es : List Shown) → find bytes_cmp k es ≡ Some v → p k ≡ true → Among k (map (λ (e : Shown). e.0) (filter (λ e. p e.0) es))
unfolding Among
passing p k v [] e w = absurd (no_some v e)
passing p k v (x ∷ es) e w = ⊎_elim
    (λ (s : (k ≡ x.0) × (same_key k x.0 ≡ true)). subst (λ b. Among k (map (λ (e : Shown). e.0) (cond b (x ∷ filter (λ e. p e.0) es) (filter (λ e. p e.0) es)))) (sym w ∙ ap p s.0) (inl s.0))
    (λ (ne : (k ≢ x.0) × (same_key k x.0 ≡ false)). later (p x.0) (passing p k v es (sym (cond-false _ _ _ ne.1) ∙ e) w))
    (key_cases k x.0)
  where
    later : (b : Bool) → Among k (map (λ (e : Shown). e.0) (filter (λ e. p e.0) es)) → Among k (map (λ (e : Shown). e.0) (cond b (x ∷ filter (λ e. p e.0) es) (filter (λ e. p e.0) es)))
    later true m = inr m
    later false m = m

some_over : (b : Bool) (v : Version) (o : Option Version) → IsSome o → IsSome (cond b (Some v) o)
some_over true v o s = refl
some_over false v o s = s

-- .. and the other way round
passed : (p : List ℕ → Bool) (k : List ℕ) (es : List Shown) → Among k (map (λ (e : Shown). e.0) (filter (λ e. p e.0) es)) → IsSome (find bytes_cmp k es) × (p k ≡ true)
unfolding Among
passed p k [] m = absurd m
passed p k (x ∷ es) m = one (λ h. let rest = passed p k es h in (some_over (same_key k x.0) x.1 (find bytes_cmp k es) rest.0, rest.1)) (p x.0) refl m where
  one : (Among k (map (λ (e : Shown). e.0) (filter (λ e. p e.0) es)) → IsSome (find bytes_cmp k (x ∷ es)) × (p k ≡ true)) → (b : Bool) → p x.0 ≡ b → Among k (map (λ (e : Shown). e.0) (cond b (x ∷ filter (λ e. p e.0) es) (filter (λ e. p e.0) es))) → IsSome (find bytes_cmp k (x ∷ es)) × (p k ≡ true)
  one later true e h = ⊎_elim
      (λ (s : k ≡ x.0). (subst (λ q. IsSome (find bytes_cmp q (x ∷ es))) (sym s) (subst (λ b. IsSome (cond b (Some x.1) (find bytes_cmp x.0 es))) (sym (same_itself x.0)) refl), ap p s ∙ e))
      (λ (h : Among k (map (λ (e : Shown). e.0) (filter (λ e. p e.0) es))). later h)
      h
  one later false e h = later h

-- ---- what is told of a row

bytes_of : Option Version → List ℕ
bytes_of None = []
bytes_of (Some v) = v.value

-- what is told of a key's row
bulks_at : Rows → List ℕ → List Item
bulks_at r k = item.Bulk k ∷ item.Bulk (bytes_of (rows.get r k)) ∷ []

all_but_first : (x : Shown) (es part : List Shown) → AllByRecursion (λ q. bytes_cmp x.0 q ≡ Less) (map (λ (e : Shown). e.0) part) → AllByRecursion (λ e. find bytes_cmp e.0 es ≡ Some e.1) part → AllByRecursion (λ e. find bytes_cmp e.0 (x ∷ es) ≡ Some e.1) part
all_but_first x es [] a h = tt
all_but_first x es (e ∷ part) a h = (cond-false _ _ _ other ∙ h.0, all_but_first x es part a.1 h.1) where
  other : same_key e.0 x.0 ≡ false
  other = ⊎_elim
      (λ (s : (e.0 ≡ x.0) × (same_key e.0 x.0 ≡ true)). absurd (not_itself x.0 (subst (λ z. bytes_cmp x.0 z ≡ Less) s.0 a.0)))
      (λ (ne : (e.0 ≢ x.0) × (same_key e.0 x.0 ≡ false)). ne.1)
      (key_cases e.0 x.0)

all_found : (es : List Shown) → Rises (map (λ (e : Shown). e.0) es) → AllByRecursion (λ e. find bytes_cmp e.0 es ≡ Some e.1) es
unfolding IsStrictlySortedBy
all_found [] r = tt
all_found (x ∷ es) r = (cond-true _ _ _ (same_itself x.0), all_but_first x es es r.0 (all_found es r.1))

all_filtered : (P : Shown → Type 0) (p : List ℕ → Bool) (es : List Shown) → AllByRecursion P es → AllByRecursion P (filter (λ e. p e.0) es)
all_filtered P p [] h = tt
all_filtered P p (e ∷ es) h = one (p e.0) (all_filtered P p es h.1) where
  one : (b : Bool) → AllByRecursion P (filter (λ e. p e.0) es) → AllByRecursion P (cond b (e ∷ filter (λ e. p e.0) es) (filter (λ e. p e.0) es))
  one true rest = (h.0, rest)
  one false rest = rest

all_got : (r : Rows) (es : List Shown) → AllByRecursion (λ e. find bytes_cmp e.0 (rows.entries r) ≡ Some e.1) es → AllByRecursion (λ e. rows.get r e.0 ≡ Some e.1) es
all_got r [] h = tt
all_got r (e ∷ es) h = (rows.get-entries r e.0 ∙ h.0, all_got r es h.1)

shown_bulks : (r : Rows) (es : List Shown) (count : ℕ) → AllByRecursion (λ e. rows.get r e.0 ≡ Some e.1) es → flat_map row_items (take count es) ≡ flat_map (bulks_at r) (take count (map (λ (e : Shown). e.0) es))
unfolding bulks_at bytes_of
shown_bulks r [] zero h = refl
shown_bulks r [] (suc c) h = refl
shown_bulks r (e ∷ es) zero h = refl
shown_bulks r (e ∷ es) (suc c) h = λ i. item.Bulk e.0 ∷ item.Bulk (bytes_of (sym h.0 i)) ∷ shown_bulks r es c h.1 i

-- a row that the tree tells is one of the tenant's, in the interval
record IsToldRow (t : ℕ) (r : Rows) (from to : List ℕ) (row : KeyValue) : Type 0 where
  own : packed t (own_key row.0) ≡ row.0
  within : is_within from to (own_key row.0) ≡ true
  there : IsSome (rows.get r (own_key row.0))
  bytes : bytes_of (rows.get r (own_key row.0)) ≡ row.1

told_bulks : (t : ℕ) (r : Rows) (from to : List ℕ) (told : List KeyValue) → AllByRecursion (IsToldRow t r from to) told → flat_map row_bulks told ≡ flat_map (bulks_at r) (map (λ (row : KeyValue). own_key row.0) told)
unfolding bulks_at
told_bulks t r from to [] h = refl
told_bulks t r from to (row ∷ told) h = λ i. item.Bulk (own_key row.0) ∷ item.Bulk (sym h.0.bytes i) ∷ told_bulks t r from to told h.1 i

told_there : (t : ℕ) (r : Rows) (from to k : List ℕ) (told : List KeyValue) → AllByRecursion (IsToldRow t r from to) told → Among k (map (λ (row : KeyValue). own_key row.0) told) → IsSome (rows.get r k) × (is_within from to k ≡ true)
unfolding Among
told_there t r from to k [] h m = absurd m
told_there t r from to k (row ∷ told) h m = ⊎_elim
    (λ (e : k ≡ own_key row.0). subst (λ q. IsSome (rows.get r q) × (is_within from to q ≡ true)) (sym e) (h.0.there, h.0.within))
    (λ (l : Among k (map (λ (row : KeyValue). own_key row.0) told)). told_there t r from to k told h.1 l)
    m

told_among : (key : List ℕ) (told : List KeyValue) → Contains (map (λ (row : KeyValue). row.0) told) key → Among (own_key key) (map (λ (row : KeyValue). own_key row.0) told)
unfolding Among
told_among key [] c = absurd (let l = c.1 in omega (arith, l))
told_among key (row ∷ told) c = ⊎_elim
    (λ (e : row.0 ≡ key). inl (ap own_key (sym e)))
    (λ (l : Contains (map (λ (row : KeyValue). row.0) told) key). inr (told_among key told l))
    (contains_cases row.0 key (map (λ (row : KeyValue). row.0) told) c)

own_below : (t : ℕ) (a key l : List ℕ) → t < 2 ^ 32 → packed t (own_key a) ≡ a → key ≡ packed t l → bytes_cmp a key ≡ Less → bytes_cmp (own_key a) l ≡ Less
own_below t a key l low own is less' = sym (own_cmp t (own_key a) l low) ∙ (λ i. bytes_cmp (own i) (sym is i)) ∙ less'

told_below : (t : ℕ) (r : Rows) (from to l : List ℕ) (told : List KeyValue) → t < 2 ^ 32 → AllByRecursion (IsToldRow t r from to) told → AreUnder told (packed t l) → AreAllBelow (map (λ (row : KeyValue). own_key row.0) told) l
told_below t r from to l [] low h under = tt
told_below t r from to l (row ∷ told) low h under = (own_below t row.0 (packed t l) l low h.0.own refl (less_from (bytes_cmp row.0 (packed t l)) under.0), told_below t r from to l told low h.1 under.1)

told_above : (t : ℕ) (r : Rows) (from to a : List ℕ) (told : List KeyValue) → t < 2 ^ 32 → packed t (own_key a) ≡ a → AllByRecursion (IsToldRow t r from to) told → AllByRecursion (λ k. bytes_cmp a k ≡ Less) (map (λ (row : KeyValue). row.0) told)
    → AllByRecursion (λ k. bytes_cmp (own_key a) k ≡ Less) (map (λ (row : KeyValue). own_key row.0) told)
told_above t r from to a [] low own h up = tt
told_above t r from to a (row ∷ told) low own h up = (own_below t a row.0 (own_key row.0) low own (sym h.0.own) up.0, told_above t r from to a told low own h.1 up.1)

told_rising : (t : ℕ) (r : Rows) (from to : List ℕ) (told : List KeyValue) → t < 2 ^ 32 → AllByRecursion (IsToldRow t r from to) told → Rises (map (λ (row : KeyValue). row.0) told) → Rises (map (λ (row : KeyValue). own_key row.0) told)
unfolding IsStrictlySortedBy
told_rising t r from to [] low h up = tt
told_rising t r from to (row ∷ told) low h up = (told_above t r from to row.0 told low h.0.own h.1 up.0, told_rising t r from to told low h.1 up.1)

-- ---- the range

none_some : (o : Option Version) → o ≡ None → IsSome o → ⊥
none_some None e s = cc
none_some (Some v) e s = cc

value_told : (x : Option NumberedValue) (bytes : List ℕ) → value_in x ≡ Some bytes → IsSome (version_of x) × (bytes_of (version_of x) ≡ bytes)
unfolding bytes_of
value_told None bytes e = absurd (no_some bytes e)
value_told (Some v) bytes e = (refl, cc)

some_value : (x : Option NumberedValue) → IsSome (version_of x) → IsSome x
some_value None s = s
some_value (Some v) s = refl

module _ (m : Messages) (t at count : ℕ) (from to : List ℕ) where
  are_told : (told : List KeyValue) → t ≤ 65535 → AllByRecursion IsWholeKey (map (λ (row : KeyValue). row.0) told) → AllByRecursion (λ row. spans (packed t from) (upper_end t to) row.0 ≡ true) told
      → AllByRecursion (λ row. value_in (latest (ops_of m row.0) at) ≡ Some row.1) told → AllByRecursion (IsToldRow t (rows_at m t at) from to) told
  are_told [] l whole inside values = tt
  are_told (row ∷ told) l whole inside values = (
    record {
      own = own;
      within = sym (spans_own t from to (own_key row.0) l) ∙ ap (spans (packed t from) (upper_end t to)) own ∙ inside.0;
      there = subst IsSome (sym got) seen.0;
      bytes = ap bytes_of got ∙ seen.1;
    },
    are_told told l whole.1 inside.1 values.1,
  )
    where
      own : packed t (own_key row.0) ≡ row.0
      own = own_of_spans t from to row.0 l whole.0 inside.0

      got : rows.get (rows_at m t at) (own_key row.0) ≡ version_of (value m row.0 at)
      got = rows_by_value_law m t at (own_key row.0) ∙ ap (λ k. version_of (value m k at)) own

      seen : IsSome (version_of (value m row.0 at)) × (bytes_of (version_of (value m row.0 at)) ≡ row.1)
      seen = value_told (value m row.0 at) row.1 values.0

  pub range_items : (told : List KeyValue) → t ≤ 65535 → AllByRecursion IsWholeKey (map (λ (row : KeyValue). row.0) told) → IsRange (ops_of m) (packed t from) (upper_end t to) at count told
      → flat_map row_bulks told ≡ flat_map row_items (rows_within from to count (rows_at m t at))
  range_items told l whole range =
      told_bulks t own_rows from to told each
      ∙ ap (flat_map (bulks_at own_rows)) (front (map (λ (row : KeyValue). own_key row.0) told) (map (λ (e : Shown). e.0) shown) count
      (told_rising t own_rows from to told low each range.rise) (still_rising (is_within from to) (rows.entries own_rows) (rising (rows.entries own_rows) (rows.entries_sorted own_rows)))
      (subst (λ n. n ≤ count) (sym (length-map told (λ (row : KeyValue). own_key row.0))) range.few) into all)
      ∙ sym (shown_bulks own_rows shown count (all_got own_rows shown (all_filtered (λ e. find bytes_cmp e.0 (rows.entries own_rows) ≡ Some e.1) (is_within from to) (rows.entries own_rows) (all_found (rows.entries own_rows) (rising (rows.entries own_rows) (rows.entries_sorted own_rows))))))
    where
      own_rows : Rows
      own_rows = rows_at m t at

      shown : List Shown
      shown = filter (λ row. is_within from to row.0) (rows.entries own_rows)

      low : t < 2 ^ 32
      low = omega (arith, l)

      each : AllByRecursion (IsToldRow t own_rows from to) told
      each = are_told told l whole range.inside range.values

      found : (k : List ℕ) (o : Option Version) → rows.get own_rows k ≡ o → IsSome o → is_within from to k ≡ true → Among k (map (λ (e : Shown). e.0) shown)
      found k None e s w = absurd (none_some None refl s)
      found k (Some v) e s w = passing (is_within from to) k v (rows.entries own_rows) (sym (rows.get-entries own_rows k) ∙ e) w

      into : (k : List ℕ) → Among k (map (λ (row : KeyValue). own_key row.0) told) → Among k (map (λ (e : Shown). e.0) shown)
      into k h = let is = told_there t own_rows from to k told each h in found k (rows.get own_rows k) refl is.0 is.1

      all : (k : List ℕ) → Among k (map (λ (e : Shown). e.0) shown) → Among k (map (λ (row : KeyValue). own_key row.0) told) ⊎ ((length (map (λ (row : KeyValue). own_key row.0) told) ≡ count) × AreAllBelow (map (λ (row : KeyValue). own_key row.0) told) k)
      all k h =
          let is = passed (is_within from to) k (rows.entries own_rows) h in
          let there : IsSome (version_of (value m (packed t k) at)) = subst IsSome (sym (rows.get-entries own_rows k) ∙ rows_by_value_law m t at k) is.0 in
          ⊎_elim
          (λ (c : Contains (map (λ (row : KeyValue). row.0) told) (packed t k)). inl (subst (λ q. Among q (map (λ (row : KeyValue). own_key row.0) told)) (own_key-packed t k) (told_among (packed t k) told c)))
          (λ (c : (length told ≡ count) × AreUnder told (packed t k)). inr (length-map told (λ (row : KeyValue). own_key row.0) ∙ c.0, told_below t own_rows from to k told low each c.1))
          (range.all (packed t k) (spans_own t from to k l ∙ is.1) (some_value (value m (packed t k) at) there))

  -- what was told of the rows that the tree told
  pub told_range : (items : List Item) (first last : List ℕ) (told : List KeyValue) → t ≤ 65535 → first ≡ packed t from → last ≡ upper_end t to → IsRange (ops_of m) first last at count told
      → items ≡ flat_map row_bulks told → AllByRecursion IsWholeKey (map (λ (row : KeyValue). row.0) told)
      → items ≡ flat_map row_items (rows_within from to count (rows_at m t at))
  told_range items first last told l is_first is_last range is whole =
      is ∙ range_items told l whole (subst (λ k. IsRange (ops_of m) (packed t from) k at count told) is_last (subst (λ k. IsRange (ops_of m) k last at count told) is_first range))
