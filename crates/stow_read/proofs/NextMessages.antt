-- The next key of an interval in a buffer's messages.
use Rattle.std.proofs.Common.{◌≡◌, ℕ, ◌<◌, ◌≤◌, Bool, true, false, List, [], ◌∷◌, length, get_or, refl, ap, ◌∙◌, sym, subst, arith}
use Rattle.std.specs.Prelude.{IsSome, is_some, not}
use Rattle.std.specs.List.{All, AllByRecursion}
use Rattle.std.specs.Ordering.{is_lt, nat_cmp, ordering_then, ordering_reverse}
use Rattle.std.specs.declared.cmp.Ordering.{Ordering}
use Rattle.std.specs.declared.cmp.Ordering.TheVariants.{Less, Equal, Greater}
use Rattle.std.specs.Cmp.Lexicographic.{nat_list_cmp_total}
use Rattle.stow_bytes.specs.Bytes.{bytes_cmp}
use Rattle.stow_tree_model.specs.Messages.{ops_in}
use Rattle.stow_tree_model.specs.Order.{MessagesRise}
use Rattle.stow_tree_model.specs.TreeMessage.{TreeMessage}
use Rattle.stow_tree_model.proofs.Histories.{ops_in-at}
use Rattle.stow_tree_model.proofs.Orders.{less_than, more_than}
use Rattle.stow_node.specs.StowMessage.Packed.{IsMessage}
use Rattle.stow_node.specs.StowMessage.Rising.{is_below, below}
use Rattle.stow_node.proofs.StowMessage.RisingLists.{below_tells}
use Rattle.stow_node.proofs.StowMessage.Stored.{all_at}
use Rattle.stow_node.proofs.StowLeaf.Found.{found, first_stays, none_unless}
use Rattle.stow_node.proofs.StowLeaf.Intervals.{lt, by_test, lt_self, lt_le}
use Rattle.stow_read.specs.NextKey.{is_from, passed_number, HaveNone, IsLowest}

below_most : (o : Ordering) (n m : ℕ) → n < m → is_lt (ordering_then o (nat_cmp n m)) ≡ not (is_lt (ordering_reverse o))
below_most Less n m l = refl
below_most Equal n m l = ap is_lt (less_than n m l)
below_most Greater n m l = refl

below_zero : (o : Ordering) (n : ℕ) → 1 ≤ n → is_lt (ordering_then o (nat_cmp n 0)) ≡ is_lt o
below_zero Less n l = refl
below_zero Equal n l = ap is_lt (more_than n 0 (omega arith))
below_zero Greater n l = refl

not_not : (b : Bool) → b ≡ not (not b)
not_not true = refl
not_not false = refl

-- a message is below the start exactly where its key is not from it on
below_is : (start : List ℕ) (after : Bool) (m : TreeMessage) → IsMessage m → is_below (start, passed_number after) m ≡ not (is_from start after m.key)
below_is start true m is =
    below_most (bytes_cmp m.key start) m.number 18446744073709551615 (let l = is.is_numbered.1 in omega arith)
    ∙ ap (λ o. not (is_lt o)) (sym (nat_list_cmp_total.antisymm start m.key))
below_is start false m is = below_zero (bytes_cmp m.key start) m.number is.is_numbered.0 ∙ not_not (lt m.key start)

pub valid_at : (ms : List TreeMessage) (i : ℕ) (w : TreeMessage) → All IsMessage ms → i < length ms → get_or ms i w ≡ w → IsMessage w
valid_at ms i w valid inside e = subst IsMessage e (valid i w inside)

-- a message of a key from the start on stands at the count or behind it
message_behind : {X : Type 0} (ms : List TreeMessage) (start : List ℕ) (after : Bool) (count : ℕ) (key : List ℕ) (n : ℕ) → All IsMessage ms → MessagesRise ms → count ≡ below (start, passed_number after) ms → is_from start after key ≡ true → IsSome (ops_in ms key n)
    → ((i : ℕ) (w : TreeMessage) → count ≤ i → i < length ms → get_or ms i w ≡ w → w.key ≡ key → X) → X
message_behind ms start after count key n valid up is f s g = found ms key n s (λ w c k.
    let here : is_below (start, passed_number after) (get_or ms c.0 w) ≡ false = ap (is_below (start, passed_number after)) c.2 ∙ below_is start after w (valid_at ms c.0 w valid c.1 c.2) ∙ ap (λ x. not (is_from start after x)) k ∙ ap not f in
    let tells = (below_tells (start, passed_number after) ms c.0 w up c.1).1 here in
    g c.0 w (omega (arith, tells, is)) c.1 c.2 k)

pub messages_none : (ms : List TreeMessage) (start : List ℕ) (after : Bool) (to : List ℕ) (count : ℕ) → All IsMessage ms → MessagesRise ms → count ≡ below (start, passed_number after) ms → length ms ≤ count → HaveNone (ops_in ms) start after to
messages_none ms start after to count valid up is past key f l n = none_unless (ops_in ms key n) (λ s. message_behind ms start after count key n valid up is f s (λ i w b inside e k. absurd (omega arith)))

-- keys below the message at the count have no messages
none_before : (ms : List TreeMessage) (start : List ℕ) (after : Bool) (count : ℕ) (m : TreeMessage) → All IsMessage ms → MessagesRise ms → count ≡ below (start, passed_number after) ms → count < length ms → get_or ms count m ≡ m → HaveNone (ops_in ms) start after m.key
none_before ms start after count m valid up is inside at key f l n = none_unless (ops_in ms key n) (λ s. message_behind ms start after count key n valid up is f s (λ i w b within e k.
    let first : is_below (m.key, 0) (get_or ms count m) ≡ false = ap (is_below (m.key, 0)) at ∙ below_is m.key false m (valid_at ms count m valid inside at) ∙ sym (not_not (lt m.key m.key)) ∙ lt_self m.key in
    let later : is_below (m.key, 0) (get_or ms i w) ≡ true = ap (is_below (m.key, 0)) e ∙ below_is m.key false w (valid_at ms i w valid within e) ∙ sym (not_not (lt w.key m.key)) ∙ ap (λ x. lt x m.key) k ∙ l in
    let fewer = (below_tells (m.key, 0) ms count m up inside).1 first in
    let more = (below_tells (m.key, 0) ms i w up within).0 later in
    absurd (omega (arith, fewer, more, b))))

pub each_there : (ms : List TreeMessage) → AllByRecursion (λ (m : TreeMessage). IsSome (ops_in ms m.key m.number)) ms
each_there [] = tt
each_there (m ∷ ms) = (ap is_some (ops_in-at m ms), more ms (each_there ms)) where
  more : (xs : List TreeMessage) → AllByRecursion (λ (x : TreeMessage). IsSome (ops_in ms x.key x.number)) xs → AllByRecursion (λ (x : TreeMessage). IsSome (ops_in (m ∷ ms) x.key x.number)) xs
  more [] a = tt
  more (x ∷ xs) a = (first_stays m ms x.key x.number a.0, more xs a.1)

pub messages_next : (ms : List TreeMessage) (start : List ℕ) (after : Bool) (to : List ℕ) (count : ℕ) (m : TreeMessage) → All IsMessage ms → MessagesRise ms → count ≡ below (start, passed_number after) ms → count < length ms → get_or ms count m ≡ m → lt m.key to ≡ true → IsLowest (ops_in ms) start after to m.key
messages_next ms start after to count m valid up is inside at l = record {
  from = by_test (is_from start after m.key) (λ e. e) (λ e.
      let here : is_below (start, passed_number after) (get_or ms count m) ≡ true = ap (is_below (start, passed_number after)) at ∙ below_is start after m (valid_at ms count m valid inside at) ∙ ap not e in
      let fewer = (below_tells (start, passed_number after) ms count m up inside).0 here in
      absurd (omega (arith, fewer, is)));
  below = l;
  number = m.number;
  there = subst (λ (x : TreeMessage). IsSome (ops_in ms x.key x.number)) at (all_at (λ (x : TreeMessage). IsSome (ops_in ms x.key x.number)) ms count m (each_there ms) inside);
  none = none_before ms start after count m valid up is inside at;
}

-- below an upper end there are no messages where the first one behind the start is not below it
pub messages_end : (ms : List TreeMessage) (start : List ℕ) (after : Bool) (to : List ℕ) (count : ℕ) (m : TreeMessage) → All IsMessage ms → MessagesRise ms → count ≡ below (start, passed_number after) ms → count < length ms → get_or ms count m ≡ m → lt m.key to ≡ false → HaveNone (ops_in ms) start after to
messages_end ms start after to count m valid up is inside at l key f below n = none_before ms start after count m valid up is inside at key f (lt_le key to m.key below l) n
