-- Where a place stands in a rising list.
use Rattle.std.proofs.Common.{◌≡◌, ℕ, zero, suc, ◌+◌, ◌<◌, ◌≤◌, Bool, true, false, List, [], ◌∷◌, map, length, get_or, refl, sym, ap, subst, ◌∙◌, arith}
use Rattle.std.specs.Prelude.{if◌then◌else◌, not}
use Rattle.std.specs.declared.cmp.Ordering.{Ordering}
use Rattle.std.specs.declared.cmp.Ordering.TheVariants.{Less, Equal, Greater}
use Rattle.std.specs.Ordering.{is_lt, is_eq, ordering_reverse}
use Rattle.std.specs.Cmp.{IsTotalOrder}
use Rattle.std.specs.List.{All, AllByRecursion, insert, sum_by}
use Rattle.std.specs.List.Sorted.{IsStrictlySortedBy}
use Rattle.std.proofs.lemmas.Cmp.{nat_cmp_total, nat_list_cmp_total, on_total, then_total}
use Rattle.std.proofs.lemmas.List.Sums.{sum_by-cons}
use Rattle.stow_tree_model.specs.TreeMessage.{TreeMessage}
use Rattle.stow_tree_model.specs.Order.{VersionPlace, place_cmp, place_of, MessagesRise}
use Rattle.stow_message.proofs.Stored.{all_at}
use Rattle.stow_message.specs.Packed.{message_size}
use Rattle.stow_message.specs.Rising.{is_below, below, placed, IsNew}

pub place_total : IsTotalOrder place_cmp
place_total = then_total (on_total (λ (p : VersionPlace). p.0) nat_list_cmp_total) (on_total (λ (p : VersionPlace). p.1) nat_cmp_total)

-- the message is put where those below it end
placed_step : (m n : TreeMessage) (ns : List TreeMessage) (b : Bool) → insert ns (below (place_of m) ns) m ≡ placed m ns
    → insert (n ∷ ns) (if b then suc (below (place_of m) ns) else 0) m ≡ (if b then n ∷ placed m ns else m ∷ n ∷ ns)
placed_step m n ns true on = ap (λ l. n ∷ l) on
placed_step m n ns false on = refl

pub placed_is : (m : TreeMessage) (ms : List TreeMessage) → insert ms (below (place_of m) ms) m ≡ placed m ms
placed_is m [] = refl
placed_is m (n ∷ ns) = placed_step m n ns (is_below (place_of m) n) (placed_is m ns)

pub below_within : (p : VersionPlace) (ms : List TreeMessage) → below p ms ≤ length ms
below_within p [] = omega arith
below_within p (m ∷ ms) = step (is_below p m) (below_within p ms) where
  step : (b : Bool) → below p ms ≤ length ms → (if b then suc (below p ms) else 0) ≤ suc (length ms)
  step true on = omega arith
  step false on = omega arith

pub no_path : false ≡ true → ⊥
no_path e = subst go e tt where
  go : Bool → Type 0
  go false = Unit {0}
  go true = ⊥

pub lt_is : (o : Ordering) → is_lt o ≡ true → o ≡ Less
lt_is Less e = refl
lt_is Equal e = absurd (no_path e)
lt_is Greater e = absurd (no_path e)

pub of_map : (P : VersionPlace → Type 0) (ms : List TreeMessage) → AllByRecursion P (map place_of ms) → AllByRecursion (λ m. P (place_of m)) ms
of_map P [] h = tt
of_map P (m ∷ ms) h = (h.0, of_map P ms h.1)

-- in a rising list what is below a later message is below an earlier one
pub below_first : (p : VersionPlace) (m : TreeMessage) (ms : List TreeMessage) (i : ℕ) (d : TreeMessage) → MessagesRise (m ∷ ms) → i < length ms → is_below p (get_or ms i d) ≡ true → is_below p m ≡ true
unfolding IsStrictlySortedBy
below_first p m ms i d up lt h =
    ap is_lt (place_total.trans (place_of m) (place_of (get_or ms i d)) p (all_at (λ n. place_cmp (place_of m) (place_of n) ≡ Less) ms i d (of_map (λ q. place_cmp (place_of m) q ≡ Less) ms up.0) lt) (lt_is (place_cmp (place_of (get_or ms i d)) p) h))

-- of two messages of a rising list the later one stands above
pub rises_at : (ms : List TreeMessage) (i j : ℕ) (d : TreeMessage) → MessagesRise ms → i < j → j < length ms → place_cmp (place_of (get_or ms i d)) (place_of (get_or ms j d)) ≡ Less
unfolding IsStrictlySortedBy
rises_at [] i j d up lt within = absurd (omega (arith, within))
rises_at (m ∷ ms) zero zero d up lt within = absurd (omega (arith, lt))
rises_at (m ∷ ms) zero (suc j) d up lt within = all_at (λ n. place_cmp (place_of m) (place_of n) ≡ Less) ms j d (of_map (λ q. place_cmp (place_of m) q ≡ Less) ms up.0) (omega (arith, within))
rises_at (m ∷ ms) (suc i) zero d up lt within = absurd (omega (arith, lt))
rises_at (m ∷ ms) (suc i) (suc j) d up lt within = rises_at ms i j d up.1 (omega (arith, lt)) (omega (arith, within))

abbrev Tells : Bool → ℕ → ℕ → Type 0
Tells b i n = (b ≡ true → i < n) × (b ≡ false → n ≤ i)

tells_first : (n : ℕ) (b : Bool) → Tells b 0 (if b then suc n else 0)
tells_first n true = (λ _. omega arith, λ e. absurd (no_path (sym e)))
tells_first n false = (λ e. absurd (no_path e), λ _. omega arith)

tells_next : (n i : ℕ) (b here : Bool) → Tells here i n → (here ≡ true → b ≡ true) → Tells here (suc i) (if b then suc n else 0)
tells_next n i true here on up = (λ h. omega (arith, on.0 h), λ h. omega (arith, on.1 h))
tells_next n i false here on up = (λ h. absurd (no_path (up h)), λ _. omega arith)

-- what a comparison with one message tells of where the place stands
pub below_tells : (p : VersionPlace) (ms : List TreeMessage) (i : ℕ) (d : TreeMessage) → MessagesRise ms → i < length ms → Tells (is_below p (get_or ms i d)) i (below p ms)
unfolding IsStrictlySortedBy
below_tells p [] i d up lt = absurd (omega arith)
below_tells p (m ∷ ms) zero d up lt = tells_first (below p ms) (is_below p m)
below_tells p (m ∷ ms) (suc i) d up lt =
    tells_next (below p ms) i (is_below p m) (is_below p (get_or ms i d)) (below_tells p ms i d up.1 (omega arith)) (below_first p m ms i d up (omega arith))

abbrev pub all_by : {X : Type 0} (P : X → Type 0) (xs : List X) → All P xs → AllByRecursion P xs
all_by P [] h = tt
all_by P (x ∷ xs) h = (h 0 x (omega arith), all_by P xs (λ i d lt. h (suc i) d (omega arith)))

abbrev pub AllAbove : VersionPlace → List TreeMessage → Type 0
AllAbove p ms = AllByRecursion (λ q. place_cmp p q ≡ Less) (map place_of ms)

above_placed : (p : VersionPlace) (m : TreeMessage) (ns : List TreeMessage) → place_cmp p (place_of m) ≡ Less → AllAbove p ns → AllAbove p (placed m ns)
above_placed p m [] less h = (less, tt)
above_placed p m (n ∷ ns) less h = step (is_below (place_of m) n) (above_placed p m ns less h.1) where
  step : (b : Bool) → AllAbove p (placed m ns) → AllAbove p (if b then n ∷ placed m ns else m ∷ n ∷ ns)
  step true on = (h.0, on)
  step false on = (less, h)

pub above_all : (p q : VersionPlace) (ns : List TreeMessage) → place_cmp p q ≡ Less → AllAbove q ns → AllAbove p ns
above_all p q [] less h = tt
above_all p q (n ∷ ns) less h = (place_total.trans p q (place_of n) less h.0, above_all p q ns less h.1)

greater_is : (o : Ordering) → is_lt o ≡ false → is_eq o ≡ false → ordering_reverse o ≡ Less
greater_is Less e f = absurd (no_path (sym e))
greater_is Equal e f = absurd (no_path (sym f))
greater_is Greater e f = refl

pub new_rises : (m : TreeMessage) (ms : List TreeMessage) → MessagesRise ms → AllByRecursion (λ n. is_eq (place_cmp (place_of n) (place_of m)) ≡ false) ms → MessagesRise (placed m ms)
unfolding IsStrictlySortedBy
new_rises m [] up new = (tt, tt)
new_rises m (n ∷ ns) up new = step (is_below (place_of m) n) refl (new_rises m ns up.1 new.1) where
  step : (b : Bool) → b ≡ is_below (place_of m) n → MessagesRise (placed m ns) → MessagesRise (if b then n ∷ placed m ns else m ∷ n ∷ ns)
  step true e on = (above_placed (place_of n) m ns (lt_is (place_cmp (place_of n) (place_of m)) (sym e)) up.0, on)
  step false e on = let less = place_total.antisymm (place_of m) (place_of n) ∙ greater_is (place_cmp (place_of n) (place_of m)) (sym e) new.0 in
      ((less, above_all (place_of m) (place_of n) ns less up.0), up)

-- a new message keeps the list rising
pub placed_rises : (m : TreeMessage) (ms : List TreeMessage) → MessagesRise ms → IsNew m ms → MessagesRise (placed m ms)
placed_rises m ms up new = new_rises m ms up (all_by (λ n. is_eq (place_cmp (place_of n) (place_of m)) ≡ false) ms new)

sum_step : (m n : TreeMessage) (ns : List TreeMessage) (b : Bool) → sum_by message_size (placed m ns) ≡ message_size m + sum_by message_size ns
    → sum_by message_size (if b then n ∷ placed m ns else m ∷ n ∷ ns) ≡ message_size m + sum_by message_size (n ∷ ns)
sum_step m n ns true on = omega (arith, on, sum_by-cons message_size n (placed m ns), sum_by-cons message_size n ns)
sum_step m n ns false on = sum_by-cons message_size m (n ∷ ns)

-- sizes add up
pub sum-placed : (m : TreeMessage) (ns : List TreeMessage) → sum_by message_size (placed m ns) ≡ message_size m + sum_by message_size ns
sum-placed m [] = sum_by-cons message_size m []
sum-placed m (n ∷ ns) = sum_step m n ns (is_below (place_of m) n) (sum-placed m ns)

-- after a message above the place all are above it
pub none_of : (p : VersionPlace) (ms : List TreeMessage) → AllAbove p ms → AllByRecursion (λ n. is_eq (place_cmp (place_of n) p) ≡ false) ms
none_of p [] h = tt
none_of p (m ∷ ms) h = (ap is_eq (place_total.antisymm (place_of m) p ∙ ap ordering_reverse h.0), none_of p ms h.1)

is_other : (o : Ordering) → is_lt o ≡ true → is_eq o ≡ false
is_other Less e = refl
is_other Equal e = absurd (no_path e)
is_other Greater e = refl

-- the message where the place stands tells whether it is held
new_by : (m : TreeMessage) (ms : List TreeMessage) → MessagesRise ms → (below (place_of m) ms < length ms → (d : TreeMessage) → is_eq (place_cmp (place_of (get_or ms (below (place_of m) ms) d)) (place_of m)) ≡ false)
    → AllByRecursion (λ n. is_eq (place_cmp (place_of n) (place_of m)) ≡ false) ms
unfolding IsStrictlySortedBy
new_by m [] up h = tt
new_by m (n ∷ ns) up h = step (is_below (place_of m) n) refl h (λ k. new_by m ns up.1 k) where
  step : (b : Bool) → b ≡ is_below (place_of m) n → ((if b then suc (below (place_of m) ns) else 0) < suc (length ns) → (d : TreeMessage) → is_eq (place_cmp (place_of (get_or (n ∷ ns) (if b then suc (below (place_of m) ns) else 0) d)) (place_of m)) ≡ false)
      → ((below (place_of m) ns < length ns → (d : TreeMessage) → is_eq (place_cmp (place_of (get_or ns (below (place_of m) ns) d)) (place_of m)) ≡ false) → AllByRecursion (λ x. is_eq (place_cmp (place_of x) (place_of m)) ≡ false) ns)
      → AllByRecursion (λ x. is_eq (place_cmp (place_of x) (place_of m)) ≡ false) (n ∷ ns)
  step true e k on = (is_other (place_cmp (place_of n) (place_of m)) (sym e), on (λ lt d. k (omega arith) d))
  step false e k on = let here = k (omega arith) n in let less = place_total.antisymm (place_of m) (place_of n) ∙ greater_is (place_cmp (place_of n) (place_of m)) (sym e) here in
      (here, none_of (place_of m) ns (above_all (place_of m) (place_of n) ns less up.0))

pub new_from : (m : TreeMessage) (ms : List TreeMessage) → MessagesRise ms → (below (place_of m) ms < length ms → (d : TreeMessage) → is_eq (place_cmp (place_of (get_or ms (below (place_of m) ms) d)) (place_of m)) ≡ false) → IsNew m ms
new_from m ms up h k d lt = all_at (λ n. is_eq (place_cmp (place_of n) (place_of m)) ≡ false) ms k d (new_by m ms up h) lt

pub was_false : (b : Bool) → not b ≡ true → b ≡ false
was_false true e = absurd (no_path e)
was_false false e = refl
