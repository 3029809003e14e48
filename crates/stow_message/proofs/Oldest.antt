-- The messages of a key from a number on, up to one of it.
use Rattle.std.proofs.Common.{◌≡◌, ◌≢◌, ℕ, zero, suc, ◌+◌, ◌-◌, ◌<◌, ◌≤◌, Bool, true, false, List, [], ◌∷◌, Some, None, length, drop, get_or, refl, sym, ap, subst, ◌∙◌, arith, ⊎_elim}
use Rattle.std.specs.Prelude.{if◌then◌else◌}
use Rattle.std.specs.declared.cmp.Ordering.{Ordering}
use Rattle.std.specs.declared.cmp.Ordering.TheVariants.{Less, Equal, Greater}
use Rattle.std.specs.Ordering.{is_lt, nat_cmp, ordering_then, ordering_reverse, eq_by_cmp}
use Rattle.std.specs.Cmp.{tied_itself}
use Rattle.std.specs.List.{Contains}
use Rattle.std.specs.List.Sorted.{IsStrictlySortedBy}
use Rattle.std.proofs.lemmas.Bool.{cases_lt}
use Rattle.std.proofs.lemmas.Bool.Decides.{nat_tests}
use Rattle.std.proofs.lemmas.Cmp.{nat_list_cmp_total}
use Rattle.std.proofs.lemmas.List.{drop_more, get_or_default}
use Rattle.std.proofs.lemmas.Map.Keys.{ge_from_not_lt}
use Rattle.std.proofs.lemmas.Map.Lookups.{exact_bytes}
use Rattle.stow_tree_model.specs.StowBytes.Bytes.{bytes_cmp}
use Rattle.stow_tree_model.specs.Messages.{ops_in}
use Rattle.stow_tree_model.specs.TreeMessage.{TreeMessage}
use Rattle.stow_tree_model.specs.Order.{VersionPlace, place_cmp, place_of, MessagesRise}
use Rattle.stow_tree_model.proofs.Histories.{falls_key, falls_number, ops_in-at, ops_in-skip}
use Rattle.stow_tree_model.proofs.Orders.{exact_places, less_within, place_cases}
use Rattle.stow_message.specs.Laws.{OldestAreHeld}
use Rattle.stow_message.specs.Rising.{is_below, below, is_same, is_first}
use Rattle.stow_message.proofs.RisingLists.{AllAbove, place_total, lt_is, no_path, above_all, below_tells, of_map, rises_at}
use Rattle.stow_message.proofs.Ranges.{below_key_by}
use Rattle.stow_message.proofs.Searched.{rises_from, start_not_below}
use Rattle.stow_message.proofs.Stored.{all_at}
use Rattle.stow_message.proofs.Taken.{same_is, same_self}

-- what stands below the place has none of its key's numbers from the place's on
passed : (p : VersionPlace) (m : TreeMessage) (n : ℕ) → is_below p m ≡ true → p.1 ≤ n → ◌≢◌ {A = VersionPlace} (p.0, n) (place_of m)
passed p m n low le e =
    let less : place_cmp (p.0, n) (p.0, p.1) ≡ Less = ap (λ (q : VersionPlace). place_cmp q p) e ∙ lt_is (place_cmp (place_of m) p) low in
    let lt : n < p.1 = falls_number p.0 n p.1 less in omega arith

ops_from : (p : VersionPlace) (ms : List TreeMessage) (n : ℕ) → p.1 ≤ n → ops_in ms p.0 n ≡ ops_in (drop (below p ms) ms) p.0 n
ops_from p [] n le = refl
ops_from p (m ∷ ms) n le = step (is_below p m) refl (ops_from p ms n le) where
  step : (b : Bool) → b ≡ is_below p m → ops_in ms p.0 n ≡ ops_in (drop (below p ms) ms) p.0 n
      → ops_in (m ∷ ms) p.0 n ≡ ops_in (drop (if b then suc (below p ms) else 0) (m ∷ ms)) p.0 n
  step true e on = ops_in-skip m ms p.0 n (passed p m n (sym e) le) ∙ on
  step false e on = refl

-- what stands above the place has none of its key's numbers up to the place's
none_above : (p : VersionPlace) (ms : List TreeMessage) (n : ℕ) → n ≤ p.1 → AllAbove p ms → ops_in ms p.0 n ≡ None
none_above p [] n le h = refl
none_above p (m ∷ ms) n le h =
    ops_in-skip m ms p.0 n (λ e. let lt : p.1 < n = falls_number p.0 p.1 n (ap (λ (q : VersionPlace). place_cmp p q) e ∙ h.0) in omega arith)
    ∙ none_above p ms n le h.1

-- where a message is the first of a list, the list has no other of its key up to its number
first_alone : (b : TreeMessage) (xs : List TreeMessage) → MessagesRise xs → is_first b xs ≡ true → (n : ℕ) → n ≤ b.number → ops_in xs b.key n ≡ ops_in (b ∷ []) b.key n
unfolding IsStrictlySortedBy
first_alone b [] up e n le = absurd (no_path e)
first_alone b (x ∷ xs) up e n le = let same : x ≡ b = same_is x b e in
    ap (λ y. ops_in (y ∷ xs) b.key n) same
    ∙ ap (λ o. if eq_by_cmp place_cmp (b.key, n) (place_of b) then Some b.op else o) (none_above (place_of b) xs n le (subst (λ y. AllAbove (place_of y) xs) same up.0))

-- a message between a key's number and a message of the key is of the key
between : (x b : List ℕ) (m n l : ℕ) → ordering_then (bytes_cmp x b) (nat_cmp m n) ≡ Less → is_lt (ordering_then (bytes_cmp x b) (nat_cmp m l)) ≡ false → (x ≡ b) × (l ≤ m)
between x b m n l less start = step (bytes_cmp x b) refl less start where
  step : (o : Ordering) → o ≡ bytes_cmp x b → ordering_then o (nat_cmp m n) ≡ Less → is_lt (ordering_then o (nat_cmp m l)) ≡ false → (x ≡ b) × (l ≤ m)
  step Less e p q = absurd (no_path (sym q))
  step Equal e p q = (exact_bytes x b (sym e), ge_from_not_lt m l q)
  step Greater e p q = cc

module _ (b : TreeMessage) (l : ℕ) (le : l ≤ b.number) where
  abbrev Alone : List TreeMessage → Type 0
  Alone xs = (n : ℕ) → l ≤ n → n ≤ b.number → ops_in xs b.key n ≡ ops_in (b ∷ []) b.key n

  -- a list that has no other of its key from a number on, and nothing below that, begins with it
  alone_first : (xs : List TreeMessage) → MessagesRise xs → ((x : TreeMessage) (ys : List TreeMessage) → xs ≡ x ∷ ys → is_below (b.key, l) x ≡ false) → Alone xs → is_first b xs ≡ true
  unfolding IsStrictlySortedBy
  alone_first [] up start h = let at = h b.number le (omega arith) ∙ ops_in-at b [] in cc
  alone_first (x ∷ xs) up start h = step (place_cmp (place_of x) (place_of b)) refl where
    there : ops_in (x ∷ xs) b.key b.number ≡ Some b.op
    there = h b.number le (omega arith) ∙ ops_in-at b []

    step : (o : Ordering) → o ≡ place_cmp (place_of x) (place_of b) → is_same x b ≡ true
    step Equal e = let place : place_of x ≡ place_of b = exact_places (place_of x) (place_of b) (sym e) in
        let ops : Some x.op ≡ Some b.op = sym (ops_in-at x xs) ∙ ap (λ (p : VersionPlace). ops_in (x ∷ xs) p.0 p.1) place ∙ there in
        let op : x.op ≡ b.op = cc in let key : x.key ≡ b.key = ap (λ (p : VersionPlace). p.0) place in let number : x.number ≡ b.number = ap (λ (p : VersionPlace). p.1) place in
        let same : x ≡ b = λ i. record { key = key i; number = number i; op = op i } in
        ap (λ y. is_same y b) same ∙ same_self b
    step Less e = let own = between x.key b.key x.number b.number l (sym e) (start x xs refl) in
        let lt : x.number < b.number = falls_number b.key x.number b.number (ap (λ k. place_cmp (k, x.number) (place_of b)) (sym own.0) ∙ sym e) in
        let found : ops_in (x ∷ xs) b.key x.number ≡ Some x.op = ap (λ k. ops_in (x ∷ xs) k x.number) (sym own.0) ∙ ops_in-at x xs in
        let none : ops_in (b ∷ []) b.key x.number ≡ None = ops_in-skip b [] b.key x.number (λ p. let q : x.number ≡ b.number = ap (λ (v : VersionPlace). v.1) p in omega arith) in
        let both = sym found ∙ h x.number own.1 (omega (arith, lt)) ∙ none in cc
    step Greater e = let above : place_cmp (place_of b) (place_of x) ≡ Less = place_total.antisymm (place_of b) (place_of x) ∙ ap ordering_reverse (sym e) in
        let none = none_above (place_of b) (x ∷ xs) b.number (omega arith) (above, above_all (place_of b) (place_of x) xs above up.0) in
        let both = sym there ∙ none in cc

  module _ (ms : List TreeMessage) (up : MessagesRise ms) (i : ℕ) (at : i ≡ below (b.key, l) ms) where
    -- the first message of a key from a number on has no other of it below
    pub first_is_alone : is_first b (drop i ms) ≡ true → Alone ms
    first_is_alone e n more less = ops_from (b.key, l) ms n more ∙ ap (λ j. ops_in (drop j ms) b.key n) (sym at) ∙ first_alone b (drop i ms) (rises_from ms i up) e n less

    -- .. and the other way round
    pub alone_is_first : Alone ms → is_first b (drop i ms) ≡ true
    alone_is_first h = alone_first (drop i ms) (rises_from ms i up)
        (λ x ys e. start_not_below (b.key, l) ms x ys (ap (λ j. drop j ms) (sym at) ∙ e))
        (λ n more less. ap (λ j. ops_in (drop j ms) b.key n) at ∙ sym (ops_from (b.key, l) ms n more) ∙ h n more less)

-- ---- the law

contains_later : (x m : TreeMessage) (ms : List TreeMessage) → Contains ms m → Contains (x ∷ ms) m
contains_later x m ms c = (suc c.0, omega (arith, c.1), c.2)

op_held : (m : TreeMessage) (ms : List TreeMessage) → ops_in ms m.key m.number ≡ Some m.op → Contains ms m
op_held m [] e = cc
op_held m (x ∷ ms) e = ⊎_elim
    (λ (h : (◌≡◌ {A = VersionPlace} (m.key, m.number) (place_of x)) × (eq_by_cmp place_cmp (m.key, m.number) (place_of x) ≡ true)).
    let ops : Some x.op ≡ Some m.op = sym (ops_in-at x ms) ∙ ap (λ (p : VersionPlace). ops_in (x ∷ ms) p.0 p.1) (sym h.0) ∙ e in
    let op : x.op ≡ m.op = cc in let key : x.key ≡ m.key = ap (λ (p : VersionPlace). p.0) (sym h.0) in let number : x.number ≡ m.number = ap (λ (p : VersionPlace). p.1) (sym h.0) in
    (0, omega arith, λ i. record { key = key i; number = number i; op = op i }))
    (λ (h : (◌≢◌ {A = VersionPlace} (m.key, m.number) (place_of x)) × (eq_by_cmp place_cmp (m.key, m.number) (place_of x) ≡ false)).
    contains_later x m ms (op_held m ms (sym (ops_in-skip x ms m.key m.number h.0) ∙ e)))
    (place_cases (m.key, m.number) (place_of x))

pub less_not_same : (p q : VersionPlace) → place_cmp p q ≡ Less → q ≡ p → ⊥
less_not_same p q less e = let same : place_cmp p p ≡ Less = ap (λ (r : VersionPlace). place_cmp p r) (sym e) ∙ less in let own = tied_itself place_total p in let both = sym own ∙ same in cc

held_op : (m : TreeMessage) (ms : List TreeMessage) → MessagesRise ms → Contains ms m → ops_in ms m.key m.number ≡ Some m.op
unfolding IsStrictlySortedBy
held_op m [] up c = absurd (omega (arith, c.1))
held_op m (x ∷ ms) up c = step (held_op m ms up.1) c.0 c.1 c.2 where
  step : (Contains ms m → ops_in ms m.key m.number ≡ Some m.op) → (k : ℕ) → k < length (x ∷ ms) → get_or (x ∷ ms) k m ≡ m → ops_in (x ∷ ms) m.key m.number ≡ Some m.op
  step on zero lt e = ap (λ y. ops_in (x ∷ ms) y.key y.number) (sym e) ∙ ops_in-at x ms ∙ ap (λ y. Some y.op) e
  step on (suc k) lt e = let less : place_cmp (place_of x) (place_of m) ≡ Less = subst (λ y. place_cmp (place_of x) (place_of y) ≡ Less) e (all_at (λ y. place_cmp (place_of x) (place_of y) ≡ Less) ms k m (of_map (λ q. place_cmp (place_of x) q ≡ Less) ms up.0) (omega (arith, lt))) in
      ops_in-skip x ms m.key m.number (less_not_same (place_of x) (place_of m) less) ∙ on (k, omega (arith, lt), e)

pub oldest_are_held : OldestAreHeld
oldest_are_held batch held up oldest k d lt = let m = get_or batch k d in let there : Contains batch m = (k, lt, get_or_default batch k m d lt) in
    op_held m held (oldest m there m.number (omega arith) ∙ held_op m batch up there)

-- ---- the first of its key from a number on

not_lower : (m n : ℕ) → n ≤ m → is_lt (nat_cmp m n) ≡ false
not_lower m n le = grind (arith, nat_tests)

module _ (ms : List TreeMessage) (up : MessagesRise ms) (i : ℕ) (lt : i < length ms) where
  -- where a place stands between a message and the one before it
  pub index_is : (p : VersionPlace) (d : TreeMessage) → (0 < i → is_below p (get_or ms (i - 1) d) ≡ true) → is_below p (get_or ms i d) ≡ false → below p ms ≡ i
  index_is p d before here = let most : below p ms ≤ i = (below_tells p ms i d up lt).1 here in ⊎_elim
      (λ (some : 0 < i). let less : i - 1 < below p ms = (below_tells p ms (i - 1) d up (omega arith)).0 (before some) in omega (arith, less, most))
      (λ (none : i ≤ 0). omega (arith, most, none))
      (cases_lt 0 i)

  module _ (d : TreeMessage) where
    abbrev here : TreeMessage
    here = get_or ms i d

    abbrev before : TreeMessage
    before = get_or ms (i - 1) d

    above : 0 < i → place_cmp (place_of before) (place_of here) ≡ Less
    above some = rises_at ms (i - 1) i d up (omega (arith, some)) lt

    -- where the message before it is of another key
    pub first_of_all : (0 < i → before.key ≢ here.key) → below (here.key, 0) ms ≡ i
    first_of_all other = index_is (here.key, 0) d
        (λ some. ap (λ o. is_lt (ordering_then o (nat_cmp before.number 0))) (falls_key (place_of before) (place_of here) (above some) (λ e. other some (sym e))))
        (below_key_by here.number (bytes_cmp here.key here.key) ∙ ap is_lt (tied_itself nat_list_cmp_total here.key))

    module _ (some : 0 < i) (own : before.key ≡ here.key) where
      -- .. and where it is of the key
      pub next_within : before.number + 1 ≤ here.number
      next_within = let lt : before.number < here.number = falls_number here.key before.number here.number (ap (λ k. place_cmp (k, before.number) (place_of here)) (sym own) ∙ above some) in omega (arith, lt)

      pub first_of_next : below (here.key, before.number + 1) ms ≡ i
      first_of_next = index_is (here.key, before.number + 1) d
          (λ _. ap is_lt (ap (λ k. place_cmp (place_of before) (k, before.number + 1)) (sym own) ∙ less_within before.key before.number (before.number + 1) (omega arith)))
          (ap (λ o. is_lt (ordering_then o (nat_cmp here.number (before.number + 1)))) (tied_itself nat_list_cmp_total here.key) ∙ not_lower here.number (before.number + 1) next_within)

-- of the message's key the held messages up to it are the batch's
abbrev pub IsOldest : List TreeMessage → List TreeMessage → TreeMessage → Type 0
IsOldest batch held m = (n : ℕ) → n ≤ m.number → ops_in held m.key n ≡ ops_in batch m.key n

-- the batch's message at an index, which is the first of its key from a number on
module _ (batch held : List TreeMessage) (rise : MessagesRise batch) (up : MessagesRise held) (i : ℕ) (lt : i < length batch) (b : TreeMessage) (is : b ≡ get_or batch i b) (l at : ℕ) (first : below (b.key, l) batch ≡ i) (le : l ≤ b.number) (there : at ≡ below (b.key, l) held) where
  in_batch : (n : ℕ) → l ≤ n → n ≤ b.number → ops_in batch b.key n ≡ ops_in (b ∷ []) b.key n
  in_batch = first_is_alone b l le batch rise i (sym first) (ap (is_first b) (drop_more batch i b lt) ∙ ap (λ x. is_same x b) (sym is) ∙ same_self b)

  pub one_more : ((d : TreeMessage) → 0 < l → ((get_or batch (i - 1) d).key ≡ b.key) × (l ≡ (get_or batch (i - 1) d).number + 1) × IsOldest batch held (get_or batch (i - 1) d)) → is_first b (drop at held) ≡ true → IsOldest batch held b
  one_more before e n less = ⊎_elim
      (λ (lower : n < l). let h = before b (omega (arith, lower)) in
      subst (λ k. ops_in held k n ≡ ops_in batch k n) h.0 (h.2 n (omega (arith, lower, h.1))))
      (λ (more : l ≤ n). first_is_alone b l le held up at there e n more less ∙ sym (in_batch n more less))
      (cases_lt n l)

  pub stands_first : IsOldest batch held b → is_first b (drop at held) ≡ true
  stands_first h = alone_is_first b l le held up at there (λ n more less. h n less ∙ in_batch n more less)

pub first_is : (m : TreeMessage) (ms : List TreeMessage) (at : ℕ) → is_first m (drop at ms) ≡ true → at < length ms → get_or ms at m ≡ m
first_is m ms at e lt = same_is (get_or ms at m) m (sym (ap (is_first m) (drop_more ms at m lt)) ∙ e)

-- a message is held where it is the first from its place on
pub first_is_held : (m : TreeMessage) (ms : List TreeMessage) (at : ℕ) → is_first m (drop at ms) ≡ true → at < length ms → Contains ms m
first_is_held m ms at e lt = (at, lt, first_is m ms at e lt)

pub held_is_first : (m : TreeMessage) (ms : List TreeMessage) → MessagesRise ms → (at : ℕ) → at ≡ below (place_of m) ms → Contains ms m → is_first m (drop at ms) ≡ true
held_is_first m ms up at e c = alone_is_first m m.number (omega arith) ms up at e
    (λ n more less. let same : m.number ≡ n = omega (arith, more, less) in subst (λ k. ops_in ms m.key k ≡ ops_in (m ∷ []) m.key k) same (held_op m ms up c ∙ sym (ops_in-at m [])))
