-- The messages between two places of a rising list.
use Rattle.std.proofs.Common.{◌≡◌, ℕ, suc, ◌-◌, ◌<◌, ◌≤◌, Bool, true, false, List, [], ◌∷◌, map, length, take, drop, refl, sym, ap, ◌∙◌, arith, take-append-drop, length-take, length-drop}
use Rattle.std.specs.Prelude.{max, if◌then◌else◌, not, ◌&&◌}
use Rattle.std.specs.declared.cmp.Ordering.{Ordering}
use Rattle.std.specs.declared.cmp.Ordering.TheVariants.{Less, Equal, Greater}
use Rattle.std.specs.Ordering.{is_lt, is_eq, nat_cmp, ordering_then}
use Rattle.std.specs.List.{All, AllByRecursion, filter, remove_range}
use Rattle.std.specs.List.Sorted.{IsStrictlySortedBy}
use Rattle.stow_tree_model.specs.StowBytes.Bytes.{bytes_cmp}
use Rattle.stow_tree_model.specs.StowBytes.Limits.{number_limit}
use Rattle.stow_tree_model.specs.TreeMessage.{TreeMessage}
use Rattle.stow_tree_model.specs.Order.{VersionPlace, place_cmp, place_of, MessagesRise}
use Rattle.stow_message.specs.Packed.{IsMessage}
use Rattle.stow_message.specs.Rising.{is_below, below, of_key, is_between, in_range, out_of_range}
use Rattle.stow_message.proofs.RisingLists.{below_within, no_path, lt_is, place_total, all_by}

and_false : (b : Bool) → (b && false) ≡ false
and_false true = refl
and_false false = refl

-- below a place no more, never again
abbrev Ended : VersionPlace → List TreeMessage → Type 0
Ended p ms = AllByRecursion (λ m. is_below p m ≡ false) ms

not_again : (p : VersionPlace) (n m : TreeMessage) → place_cmp (place_of n) (place_of m) ≡ Less → is_below p n ≡ false → is_below p m ≡ false
not_again p n m less e = step (is_below p m) refl where
  step : (b : Bool) → b ≡ is_below p m → b ≡ false
  step true h = absurd (no_path (sym e ∙ ap is_lt (place_total.trans (place_of n) (place_of m) p less (lt_is (place_cmp (place_of m) p) (sym h)))))
  step false h = refl

ended : (p : VersionPlace) (n : TreeMessage) (ns : List TreeMessage) → MessagesRise (n ∷ ns) → is_below p n ≡ false → Ended p ns
unfolding IsStrictlySortedBy
ended p n [] up e = tt
ended p n (m ∷ ms) up e = (not_again p n m up.0.0 e, ended p n ms (up.0.1, up.1.1) e)

none_below : (p : VersionPlace) (ms : List TreeMessage) → Ended p ms → below p ms ≡ 0
none_below p [] h = refl
none_below p (m ∷ ms) h = ap (λ b. if b then suc (below p ms) else 0) h.0

abbrev pub is_from_to : VersionPlace → VersionPlace → TreeMessage → Bool
is_from_to p q m = not (is_below p m) && is_below q m

none_kept : (p q : VersionPlace) (ms : List TreeMessage) → Ended q ms → filter (is_from_to p q) ms ≡ []
none_kept p q [] h = refl
none_kept p q (m ∷ ms) h = ap (λ b. if b then m ∷ filter (is_from_to p q) ms else filter (is_from_to p q) ms) (ap (λ b. not (is_below p m) && b) h.0 ∙ and_false (not (is_below p m))) ∙ none_kept p q ms h.1

-- one more message before the others
from_to_step : (p q : VersionPlace) (n : TreeMessage) (ns : List TreeMessage) (a b : Bool) → (a ≡ false → below p ns ≡ 0) → (b ≡ false → filter (is_from_to p q) ns ≡ []) → take (below q ns - below p ns) (drop (below p ns) ns) ≡ filter (is_from_to p q) ns
    → take ((if b then suc (below q ns) else 0) - (if a then suc (below p ns) else 0)) (drop (if a then suc (below p ns) else 0) (n ∷ ns)) ≡ (if (not a && b) then n ∷ filter (is_from_to p q) ns else filter (is_from_to p q) ns)
from_to_step p q n ns true true first last on = let i = below p ns in let j = below q ns in let less : suc j - suc i ≡ j - i = omega arith in ap (λ k. take k (drop i ns)) less ∙ on
from_to_step p q n ns true false first last on = let i = below p ns in let none : 0 - suc i ≡ 0 = omega arith in ap (λ k. take k (drop i ns)) none ∙ sym (last refl)
from_to_step p q n ns false true first last on = let j = below q ns in let all : j - 0 ≡ j = omega arith in let whole : suc j - 0 ≡ suc j = omega arith in
    ap (λ k. take k (n ∷ ns)) whole ∙ ap (λ l. n ∷ l) (ap (λ k. take k ns) (sym all) ∙ ap (λ i. take (j - i) (drop i ns)) (sym (first refl)) ∙ on)
from_to_step p q n ns false false first last on = sym (last refl)

pub from_to : (p q : VersionPlace) (ms : List TreeMessage) → MessagesRise ms → take (below q ms - below p ms) (drop (below p ms) ms) ≡ filter (is_from_to p q) ms
unfolding IsStrictlySortedBy
from_to p q [] up = refl
from_to p q (n ∷ ns) up = from_to_step p q n ns (is_below p n) (is_below q n) (λ e. none_below p ns (ended p n ns up e)) (λ e. none_kept p q ns (ended q n ns up e)) (from_to p q ns up.1)

from_to_clipped : (p q : VersionPlace) (ms : List TreeMessage) (lo hi : ℕ) → lo ≡ below p ms → hi ≡ max (below q ms) lo → MessagesRise ms → take (hi - lo) (drop lo ms) ≡ filter (is_from_to p q) ms
from_to_clipped p q ms lo hi e f up = let less : hi - lo ≡ below q ms - below p ms = omega arith in
    ap (λ k. take k (drop lo ms)) less ∙ ap (λ j. take (below q ms - below p ms) (drop j ms)) e ∙ from_to p q ms up

abbrev is_outside : VersionPlace → VersionPlace → TreeMessage → Bool
is_outside p q m = not (is_from_to p q m)

all_kept : (p q : VersionPlace) (ms : List TreeMessage) → Ended q ms → filter (is_outside p q) ms ≡ ms
all_kept p q [] h = refl
all_kept p q (m ∷ ms) h = ap (λ b. if not b then m ∷ filter (is_outside p q) ms else filter (is_outside p q) ms) (ap (λ b. not (is_below p m) && b) h.0 ∙ and_false (not (is_below p m))) ∙ ap (λ l. m ∷ l) (all_kept p q ms h.1)

outside_step : (p q : VersionPlace) (n : TreeMessage) (ns : List TreeMessage) (a b : Bool) → (a ≡ false → below p ns ≡ 0) → (b ≡ false → filter (is_outside p q) ns ≡ ns)
    → remove_range ns (below p ns) (max (below q ns) (below p ns)) ≡ filter (is_outside p q) ns
    → remove_range (n ∷ ns) (if a then suc (below p ns) else 0) (max (if b then suc (below q ns) else 0) (if a then suc (below p ns) else 0)) ≡ (if not (not a && b) then n ∷ filter (is_outside p q) ns else filter (is_outside p q) ns)
outside_step p q n ns true true first last on = let i = below p ns in let j = below q ns in let more : max (suc j) (suc i) ≡ suc (max j i) = omega arith in
    ap (λ k. remove_range (n ∷ ns) (suc i) k) more ∙ ap (λ l. n ∷ l) on
outside_step p q n ns true false first last on = let i = below p ns in let more : max 0 (suc i) ≡ suc i = omega arith in
    ap (λ k. remove_range (n ∷ ns) (suc i) k) more ∙ ap (λ l. n ∷ l) (take-append-drop i ns ∙ sym (last refl))
outside_step p q n ns false true first last on = let j = below q ns in let more : max (suc j) 0 ≡ suc j = omega arith in let same : max j 0 ≡ j = omega arith in
    ap (λ k. drop k (n ∷ ns)) more ∙ ap (λ k. drop k ns) (sym same) ∙ ap (λ i. remove_range ns i (max j i)) (sym (first refl)) ∙ on
outside_step p q n ns false false first last on = ap (λ l. n ∷ l) (sym (last refl))

outside : (p q : VersionPlace) (ms : List TreeMessage) → MessagesRise ms → remove_range ms (below p ms) (max (below q ms) (below p ms)) ≡ filter (is_outside p q) ms
unfolding IsStrictlySortedBy
outside p q [] up = refl
outside p q (n ∷ ns) up = outside_step p q n ns (is_below p n) (is_below q n) (λ e. none_below p ns (ended p n ns up e)) (λ e. all_kept p q ns (ended q n ns up e)) (outside p q ns up.1)

filter_same : (f g : TreeMessage → Bool) (ms : List TreeMessage) → AllByRecursion (λ m. f m ≡ g m) ms → filter f ms ≡ filter g ms
filter_same f g [] h = refl
filter_same f g (m ∷ ms) h = (λ i. if h.0 i then m ∷ filter f ms else filter f ms) ∙ ap (λ l. if g m then m ∷ l else l) (filter_same f g ms h.1)

not_below_zero : (n : ℕ) → is_lt (nat_cmp n 0) ≡ false
not_below_zero n = grind arith

pub below_key_by : (n : ℕ) (o : Ordering) → is_lt (ordering_then o (nat_cmp n 0)) ≡ is_lt o
below_key_by n Less = refl
below_key_by n Equal = not_below_zero n
below_key_by n Greater = refl

every : (P : TreeMessage → Type 0) (ms : List TreeMessage) → ((m : TreeMessage) → P m) → AllByRecursion P ms
every P [] h = tt
every P (m ∷ ms) h = (h m, every P ms h)

-- the messages of an interval of keys
pub range_is : (from to : List ℕ) (ms : List TreeMessage) (lo hi : ℕ) → lo ≡ below (from, 0) ms → hi ≡ max (below (to, 0) ms) lo → MessagesRise ms → take (hi - lo) (drop lo ms) ≡ in_range from to ms
range_is from to ms lo hi e f up = from_to_clipped (from, 0) (to, 0) ms lo hi e f up
    ∙ filter_same (is_from_to (from, 0) (to, 0)) (is_between from to) ms (every (λ m. is_from_to (from, 0) (to, 0) m ≡ is_between from to m) ms
    (λ m i. not (below_key_by m.number (bytes_cmp m.key from) i) && below_key_by m.number (bytes_cmp m.key to) i))

-- the messages of the other keys
pub rest_is : (from to : List ℕ) (ms : List TreeMessage) (lo hi : ℕ) → lo ≡ below (from, 0) ms → hi ≡ max (below (to, 0) ms) lo → MessagesRise ms → remove_range ms lo hi ≡ out_of_range from to ms
rest_is from to ms lo hi e f up = let p : VersionPlace = (from, 0) in let q : VersionPlace = (to, 0) in
    ap (remove_range ms lo) f ∙ ap (λ k. remove_range ms k (max (below q ms) k)) e ∙ outside p q ms up
    ∙ filter_same (is_outside p q) (λ m. not (is_between from to m)) ms (every (λ m. is_outside p q m ≡ not (is_between from to m)) ms
    (λ m i. not (not (below_key_by m.number (bytes_cmp m.key from) i) && below_key_by m.number (bytes_cmp m.key to) i)))

below_last : (n : ℕ) → n ≤ number_limit → is_lt (nat_cmp n 18446744073709551615) ≡ true
below_last n h = let lt : n < 18446744073709551615 = omega arith in grind arith

of_key_by : (n : ℕ) (o : Ordering) → n ≤ number_limit → (not (is_lt (ordering_then o (nat_cmp n 0))) && is_lt (ordering_then o (nat_cmp n 18446744073709551615))) ≡ is_eq o
of_key_by n Less h = refl
of_key_by n Equal h = (λ i. not (not_below_zero n i) && below_last n h i)
of_key_by n Greater h = refl

of_keys : (key : List ℕ) (ms : List TreeMessage) → AllByRecursion IsMessage ms → AllByRecursion (λ m. is_from_to (key, 0) (key, 18446744073709551615) m ≡ is_eq (bytes_cmp m.key key)) ms
of_keys key [] h = tt
of_keys key (m ∷ ms) h = (of_key_by m.number (bytes_cmp m.key key) h.0.is_numbered.1, of_keys key ms h.1)

-- the messages of one key
pub key_is : (key : List ℕ) (ms : List TreeMessage) (lo hi : ℕ) → lo ≡ below (key, 0) ms → hi ≡ max (below (key, 18446744073709551615) ms) lo → MessagesRise ms → All IsMessage ms → take (hi - lo) (drop lo ms) ≡ of_key key ms
key_is key ms lo hi e f up valid = from_to_clipped (key, 0) (key, 18446744073709551615) ms lo hi e f up
    ∙ filter_same (is_from_to (key, 0) (key, 18446744073709551615)) (λ m. is_eq (bytes_cmp m.key key)) ms (of_keys key ms (all_by IsMessage ms valid))

pub length-filter : (f : TreeMessage → Bool) (ms : List TreeMessage) → length (filter f ms) ≤ length ms
length-filter f [] = omega arith
length-filter f (m ∷ ms) = step (f m) (length-filter f ms) where
  step : (b : Bool) → length (filter f ms) ≤ length ms → length (if b then m ∷ filter f ms else filter f ms) ≤ suc (length ms)
  step true on = omega arith
  step false on = omega arith

pub above_filter : (p : VersionPlace) (f : TreeMessage → Bool) (ms : List TreeMessage) → AllByRecursion (λ q. place_cmp p q ≡ Less) (map place_of ms) → AllByRecursion (λ q. place_cmp p q ≡ Less) (map place_of (filter f ms))
above_filter p f [] h = tt
above_filter p f (m ∷ ms) h = step (f m) (above_filter p f ms h.1) where
  step : (b : Bool) → AllByRecursion (λ q. place_cmp p q ≡ Less) (map place_of (filter f ms)) → AllByRecursion (λ q. place_cmp p q ≡ Less) (map place_of (if b then m ∷ filter f ms else filter f ms))
  step true on = (h.0, on)
  step false on = on

-- what is kept of a rising list rises
pub filter_rises : (f : TreeMessage → Bool) (ms : List TreeMessage) → MessagesRise ms → MessagesRise (filter f ms)
unfolding IsStrictlySortedBy
filter_rises f [] up = tt
filter_rises f (m ∷ ms) up = step (f m) (filter_rises f ms up.1) where
  step : (b : Bool) → MessagesRise (filter f ms) → MessagesRise (if b then m ∷ filter f ms else filter f ms)
  step true on = (above_filter (place_of m) f ms up.0, on)
  step false on = on

-- an interval of keys between the places where it begins and ends
module _ (from to : List ℕ) (ms : List TreeMessage) (lo hi : ℕ) (e : lo ≡ below (from, 0) ms) (f : hi ≡ max (below (to, 0) ms) lo) (up : MessagesRise ms) where
  pub range_ends : (lo ≤ hi) × (hi ≤ length ms)
  range_ends = (omega (arith, f), omega (arith, e, f, below_within (from, 0) ms, below_within (to, 0) ms))

  pub range_length : length (in_range from to ms) ≡ hi - lo
  range_length = omega (arith, ap length (range_is from to ms lo hi e f up), length-take (hi - lo) (drop lo ms), length-drop lo ms, range_ends)
