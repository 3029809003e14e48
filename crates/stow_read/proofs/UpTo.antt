-- The messages of a key up to a number, at the front of a buffer.
use Rattle.std.proofs.Common.{◌≡◌, ◌≢◌, ℕ, zero, suc, ◌+◌, ◌-◌, ◌<◌, ◌≤◌, Bool, true, false, cond, List, [], ◌∷◌, length, take, drop, reverse, get_or, map, Some, None, refl, ap, ◌∙◌, sym, subst, arith, ⊎_elim, take-append-drop, length-take, get_or-take}
use Rattle.std.specs.Prelude.{IsSome, if◌then◌else◌}
use Rattle.std.specs.List.{All, AllByRecursion}
use Rattle.std.specs.List.Sorted.{IsStrictlySortedBy}
use Rattle.std.specs.declared.cmp.Ordering.{Ordering}
use Rattle.std.specs.declared.cmp.Ordering.TheVariants.{Less, Equal, Greater}
use Rattle.std.specs.Ordering.{eq_by_cmp, is_eq, is_lt, nat_cmp, ordering_then}
use Rattle.std.specs.Cmp.{tied_itself}
use Rattle.std.specs.Cmp.Lexicographic.{nat_list_cmp_total}
use Rattle.std.proofs.lemmas.Bool.{cases_lt, cond-true, cond-false}
use Rattle.std.proofs.lemmas.List.{reverse-append}
use Rattle.stow_bytes.specs.Bytes.{bytes_cmp}
use Rattle.stow_tree_model.specs.Merged.{same_key}
use Rattle.stow_tree_model.specs.Messages.{ops_in}
use Rattle.stow_tree_model.specs.Op.{Op}
use Rattle.stow_tree_model.specs.Operations.{or_else, NoneUpTo}
use Rattle.stow_tree_model.specs.Order.{VersionPlace, place_cmp, place_of, MessagesRise}
use Rattle.stow_tree_model.specs.TreeMessage.{TreeMessage}
use Rattle.stow_tree_model.proofs.Falling.{IsHistory}
use Rattle.stow_tree_model.proofs.Folds.{one_more, rises_take}
use Rattle.stow_tree_model.proofs.Histories.{ops_in-at, ops_in-skip, ops_in-above}
use Rattle.stow_tree_model.proofs.Ordered.{history_of}
use Rattle.stow_tree_model.proofs.Orders.{place_cases, place_total}
use Rattle.stow_node.specs.StowMessage.Packed.{IsMessage}
use Rattle.stow_node.specs.StowMessage.Rising.{is_below, below, of_key}
use Rattle.stow_node.proofs.StowMessage.RisingLists.{below_first, below_tells, below_within}
use Rattle.stow_node.proofs.StowMessage.Stored.{all_at}
use Rattle.stow_node.proofs.StowLeaf.Found.{none_unless, none_or, or_none, some_left}
use Rattle.stow_node.proofs.StowLeaf.Ops.{ops-append, ops-filter}
use Rattle.stow_read.specs.UpTo.{IsUpTo}
use Rattle.stow_read.proofs.NextMessages.{valid_at, each_there}
use Rattle.stow_read.proofs.NextNumbers.{IsBound, found_numbered, own_below, own_not_below}

-- ---- what stands below a place

is_place : (m : TreeMessage) (key : List ℕ) (n : ℕ) → ◌≡◌ {A = VersionPlace} (key, n) (place_of m) → (m.key ≡ key) × (m.number ≡ n)
is_place m key n e = (sym (ap (λ (p : VersionPlace). p.0) e), sym (ap (λ (p : VersionPlace). p.1) e))

-- where the first message isn't below the place, the key has nothing at lower numbers
none_past : (key : List ℕ) (bound n : ℕ) (m : TreeMessage) (ms : List TreeMessage) → MessagesRise (m ∷ ms) → is_below (key, bound) m ≡ false → n < bound → ops_in (m ∷ ms) key n ≡ None
none_past key bound n m ms up past l = none_unless (ops_in (m ∷ ms) key n) (λ s. found_numbered (m ∷ ms) key n s (λ w c k num. step c.0 w c.1 c.2 (own_below w key bound k (omega (arith, num, l))))) where
  step : (i : ℕ) (w : TreeMessage) → i < length (m ∷ ms) → get_or (m ∷ ms) i w ≡ w → is_below (key, bound) w ≡ true → ⊥
  step zero w inside e b = let z : true ≡ false = sym b ∙ ap (is_below (key, bound)) (sym e) ∙ past in cc
  step (suc i) w inside e b = let z : true ≡ false = sym (below_first (key, bound) m ms i w up (omega arith) (ap (is_below (key, bound)) e ∙ b)) ∙ past in cc

whole_below : (key : List ℕ) (bound n : ℕ) (ms : List TreeMessage) → MessagesRise ms → n < bound → ops_in (take (below (key, bound) ms) ms) key n ≡ ops_in ms key n
unfolding IsStrictlySortedBy
whole_below key bound n [] up l = refl
whole_below key bound n (m ∷ ms) up l = step (is_below (key, bound) m) refl (whole_below key bound n ms up.1 l) where
  step : (b : Bool) → is_below (key, bound) m ≡ b → ops_in (take (below (key, bound) ms) ms) key n ≡ ops_in ms key n → ops_in (take (if b then suc (below (key, bound) ms) else 0) (m ∷ ms)) key n ≡ ops_in (m ∷ ms) key n
  step true e on = ap (cond (eq_by_cmp place_cmp (key, n) (place_of m)) (Some m.op)) on
  step false e on = sym (none_past key bound n m ms up e l)

none_from : (key : List ℕ) (bound n : ℕ) (ms : List TreeMessage) → bound ≤ n → ops_in (take (below (key, bound) ms) ms) key n ≡ None
none_from key bound n [] l = refl
none_from key bound n (m ∷ ms) l = step (is_below (key, bound) m) refl (none_from key bound n ms l) where
  step : (b : Bool) → is_below (key, bound) m ≡ b → ops_in (take (below (key, bound) ms) ms) key n ≡ None → ops_in (take (if b then suc (below (key, bound) ms) else 0) (m ∷ ms)) key n ≡ None
  step true e on = ops_in-skip m (take (below (key, bound) ms) ms) key n (λ p. let at = is_place m key n p in let z : true ≡ false = sym e ∙ own_not_below m key bound at.0 (omega (arith, at.1, l)) in cc) ∙ on
  step false e on = refl

not_above : (o : Ordering) (m n : ℕ) → is_lt (ordering_then o (nat_cmp m n)) ≡ true → o ≢ Greater
not_above Less m n e h = cc
not_above Equal m n e h = cc
not_above Greater m n e h = let z : false ≡ true = e in cc

low_below : (key : List ℕ) (bound : ℕ) (ms : List TreeMessage) → AllByRecursion (λ (m : TreeMessage). bytes_cmp m.key key ≢ Greater) (take (below (key, bound) ms) ms)
low_below key bound [] = tt
low_below key bound (m ∷ ms) = step (is_below (key, bound) m) refl (low_below key bound ms) where
  step : (b : Bool) → is_below (key, bound) m ≡ b → AllByRecursion (λ (n : TreeMessage). bytes_cmp n.key key ≢ Greater) (take (below (key, bound) ms) ms)
      → AllByRecursion (λ (n : TreeMessage). bytes_cmp n.key key ≢ Greater) (take (if b then suc (below (key, bound) ms) else 0) (m ∷ ms))
  step true e on = (not_above (bytes_cmp m.key key) m.number bound e, on)
  step false e on = tt

-- a number that no message has
none_so_high : (key : List ℕ) (n : ℕ) (ms : List TreeMessage) → All IsMessage ms → 18446744073709551615 ≤ n → ops_in ms key n ≡ None
none_so_high key n ms valid l = none_unless (ops_in ms key n) (λ s. found_numbered ms key n s (λ w c k num. let limit = (valid_at ms c.0 w valid c.1 c.2).is_numbered.1 in omega (arith, limit, num, l)))

-- those below the place behind the number are those up to it
pub up_to : (ms : List TreeMessage) (key : List ℕ) (at bound count : ℕ) → All IsMessage ms → MessagesRise ms → IsBound at bound → count ≡ below (key, bound) ms → IsUpTo ms key at count
up_to ms key at bound count valid up b is = subst (IsUpTo ms key at) (sym is) (record {
  within = below_within (key, bound) ms;
  whole = λ n l. ⊎_elim
      (λ (less : n < bound). whole_below key bound n ms up less)
      (λ (more : bound ≤ n). none_from key bound n ms more ∙ sym (none_so_high key n ms valid (high n l more)))
      (cases_lt n bound);
  none = λ n l. none_from key bound n ms (let low = b.low in omega (arith, low, l));
  low = low_below key bound ms;
})
  where
    high : (n : ℕ) → n ≤ at → bound ≤ n → 18446744073709551615 ≤ n
    high n l more = ⊎_elim
        (λ (less : n < 18446744073709551615). let above = b.high n more less in absurd (omega (arith, above, l)))
        (λ (all : 18446744073709551615 ≤ n). all)
        (cases_lt n 18446744073709551615)

-- where the key has no messages, none are
pub up_to_none : (ms : List TreeMessage) (key : List ℕ) (at : ℕ) → of_key key ms ≡ [] → IsUpTo ms key at 0
up_to_none ms key at none = record {
  within = omega arith;
  whole = λ n l.
      sym (sym (cond-true (is_eq (bytes_cmp key key)) (ops_in ms key n) None (ap is_eq (tied_itself nat_list_cmp_total key)))
      ∙ sym (ops-filter (λ k. is_eq (bytes_cmp k key)) ms key n)
      ∙ ap (λ xs. ops_in xs key n) none);
  none = λ n l. refl;
  low = tt;
}

-- ---- the other way round

none_above : (m : TreeMessage) (ms : List TreeMessage) → AllByRecursion (λ q. place_cmp (place_of m) q ≡ Less) (map place_of ms) → ops_in ms m.key m.number ≡ None
none_above m [] h = refl
none_above m (x ∷ xs) h =
    ops_in-skip x xs m.key m.number (λ e. absurd (less_itself (place_of m) (place_of x) h.0 e)) ∙ none_above m xs h.1
  where
    less_itself : (p q : VersionPlace) → place_cmp p q ≡ Less → p ≡ q → ⊥
    less_itself p q l e = cc (tied_itself place_total p)

-- a rising list has the same operations the other way round
pub ops_reversed : (ms : List TreeMessage) (key : List ℕ) (n : ℕ) → MessagesRise ms → ops_in (reverse ms) key n ≡ ops_in ms key n
unfolding IsStrictlySortedBy
ops_reversed [] key n up = refl
ops_reversed (m ∷ ms) key n up =
    ap (λ xs. ops_in xs key n) (reverse-append (m ∷ []) ms)
    ∙ ops-append (reverse ms) (m ∷ []) key n
    ∙ ap (λ o. or_else o (ops_in (m ∷ []) key n)) (ops_reversed ms key n up.1)
    ∙ ⊎_elim
    (λ (e : (◌≡◌ {A = VersionPlace} (key, n) (place_of m)) × (eq_by_cmp place_cmp (key, n) (place_of m) ≡ true)).
    none_or (ops_in ms key n) (ops_in (m ∷ []) key n) (ap (λ (p : VersionPlace). ops_in ms p.0 p.1) e.0 ∙ none_above m ms up.0)
    ∙ cond-true _ _ _ e.1 ∙ sym (cond-true _ _ _ e.1))
    (λ (e : (◌≡◌ {A = VersionPlace} (key, n) (place_of m) → ⊥) × (eq_by_cmp place_cmp (key, n) (place_of m) ≡ false)).
    or_none (ops_in ms key n) (ops_in (m ∷ []) key n) (cond-false _ _ _ e.1) ∙ sym (cond-false _ _ _ e.1))
    (place_cases (key, n) (place_of m))

-- ---- the messages at the front

-- an operation of messages at the front is one of all
pub front_there : (ms : List TreeMessage) (count : ℕ) (key : List ℕ) (n : ℕ) → IsSome (ops_in (take count ms) key n) → IsSome (ops_in ms key n)
front_there ms count key n s = subst (λ xs. IsSome (ops_in xs key n)) (take-append-drop count ms)
    (subst IsSome (sym (ops-append (take count ms) (drop count ms) key n)) (some_left (ops_in (take count ms) key n) (ops_in (drop count ms) key n) s))

module _ (ms : List TreeMessage) (key : List ℕ) (at count : ℕ) (front : IsUpTo ms key at count) (i : ℕ) (m : TreeMessage) (inside : i < count) (is : m ≡ get_or ms i m) where
  at_front : get_or (take count ms) i m ≡ m
  at_front = get_or-take count ms i m inside ∙ sym is

  long : i < length (take count ms)
  long = let w = front.within in let l = length-take count ms in omega (arith, inside, w, l)

  -- a message of the key there is up to the number
  pub own_up_to : m.key ≡ key → m.number ≤ at
  own_up_to own = ⊎_elim
      (λ (above : at < m.number). absurd (let none : ops_in (take count ms) key m.number ≡ None = front.none m.number above in
      let there : IsSome (ops_in (take count ms) key m.number) = subst (λ k. IsSome (ops_in (take count ms) k m.number)) own
      (subst (λ (x : TreeMessage). IsSome (ops_in (take count ms) x.key x.number)) at_front (all_at (λ (x : TreeMessage). IsSome (ops_in (take count ms) x.key x.number)) (take count ms) i m (each_there (take count ms)) long)) in
      let z : IsSome {T = Op} None = subst IsSome none there in cc))
      (λ (l : m.number ≤ at). l)
      (cases_lt at m.number)

  lower : same_key m.key key ≡ false → is_below (key, 0) m ≡ true
  lower other = step (bytes_cmp m.key key) refl (subst (λ (x : TreeMessage). bytes_cmp x.key key ≢ Greater) at_front (all_at (λ (x : TreeMessage). bytes_cmp x.key key ≢ Greater) (take count ms) i m front.low long)) where
    step : (o : Ordering) → bytes_cmp m.key key ≡ o → o ≢ Greater → is_below (key, 0) m ≡ true
    step Less e not = ap (λ x. is_lt (ordering_then x (nat_cmp m.number 0))) e
    step Equal e not = absurd (let z : true ≡ false = sym (ap is_eq e) ∙ other in cc)
    step Greater e not = absurd (not refl)

  -- behind a message of another key there are none of the key's
  pub none_behind : MessagesRise ms → same_key m.key key ≡ false → (n : ℕ) → ops_in (take (i + 1) ms) key n ≡ None
  none_behind up other n = none_unless (ops_in (take (i + 1) ms) key n) (λ s. found_numbered (take (i + 1) ms) key n s (λ w c k num.
      let w_long = length-take (i + 1) ms in
      let w_inside : c.0 < i + 1 = (let l = c.1 in omega (arith, l, w_long)) in
      let within : c.0 < length ms = (let l = c.1 in omega (arith, l, w_long)) in
      let w_at : get_or ms c.0 w ≡ w = sym (get_or-take (i + 1) ms c.0 w w_inside) ∙ c.2 in
      let m_within : i < length ms = (let x = front.within in omega (arith, inside, x)) in
      let fewer = (below_tells (key, 0) ms i m up m_within).0 (ap (is_below (key, 0)) (sym is) ∙ lower other) in
      let more = (below_tells (key, 0) ms c.0 w up within).1 (ap (is_below (key, 0)) w_at ∙ own_not_below w key 0 k (omega arith)) in
      omega (arith, fewer, more, w_inside)))

-- ---- the newest message

module _ (ms : List TreeMessage) (key : List ℕ) (at count : ℕ) (front : IsUpTo ms key at count) (m : TreeMessage) (some : 0 < count) (is : m ≡ get_or ms (count - 1) m) (up : MessagesRise ms) where
  last : (count - 1) + 1 ≡ count
  last = omega (arith, some)

  inside : count - 1 < count
  inside = omega (arith, some)

  -- what the key has up to the number, by the newest message first
  turned : (n : ℕ) → n ≤ at → ops_in ms key n ≡ ops_in (m ∷ reverse (take (count - 1) ms)) key n
  turned n l =
      sym (front.whole n l)
      ∙ sym (ops_reversed (take count ms) key n (rises_take ms count up))
      ∙ ap (λ k. ops_in (reverse (take k ms)) key n) (sym last)
      ∙ ap (λ xs. ops_in xs key n) (one_more ms (count - 1) m (let w = front.within in omega (arith, some, w)) is)

  falls : IsHistory (m ∷ reverse (take (count - 1) ms))
  falls = subst IsHistory (one_more ms (count - 1) m (let w = front.within in omega (arith, some, w)) is) (history_of (take ((count - 1) + 1) ms) (rises_take ms ((count - 1) + 1) up))

  module _ (own : m.key ≡ key) where
    pub top_within : m.number ≤ at
    top_within = own_up_to ms key at count front (count - 1) m inside is own

    pub top_there : ops_in ms key m.number ≡ Some m.op
    top_there = turned m.number top_within ∙ ap (λ k. ops_in (m ∷ reverse (take (count - 1) ms)) k m.number) (sym own) ∙ ops_in-at m (reverse (take (count - 1) ms))

    pub top_none : (n : ℕ) → m.number < n → n ≤ at → ops_in ms key n ≡ None
    top_none n more l =
        turned n l
        ∙ ap (λ k. ops_in (m ∷ reverse (take (count - 1) ms)) k n) (sym own)
        ∙ ops_in-skip m (reverse (take (count - 1) ms)) m.key n (λ e. let q : n ≡ m.number = ap (λ (p : VersionPlace). p.1) e in omega (arith, q, more))
        ∙ ops_in-above (place_of m) (reverse (take (count - 1) ms)) n (omega (arith, more)) falls.0

  -- it is another key's
  pub top_other : same_key m.key key ≡ false → NoneUpTo at (ops_in ms key)
  top_other other n l = sym (front.whole n l) ∙ ap (λ k. ops_in (take k ms) key n) (sym last) ∙ none_behind ms key at count front (count - 1) m inside is up other n

pub none_up_to : (ms : List TreeMessage) (key : List ℕ) (at count : ℕ) → IsUpTo ms key at count → count ≡ 0 → NoneUpTo at (ops_in ms key)
none_up_to ms key at count front none n l = sym (front.whole n l) ∙ ap (λ k. ops_in (take k ms) key n) none
