-- The bytes that messages take, added up one after another.
use Rattle.std.proofs.Common.{◌≡◌, ℕ, zero, suc, ◌+◌, ◌<◌, ◌≤◌, List, [], ◌∷◌, length, take, get_or, map, ap, ◌∙◌, sym, subst, arith}
use Rattle.std.proofs.lemmas.List.{length-map, get_or-map, take_all}
use Rattle.std.proofs.lemmas.List.Sums.{sum_by-cons}
use Rattle.stow_flush.specs.StowMessage.Packed.{message_size}
use Rattle.stow_tree_model.specs.TreeMessage.{TreeMessage, message_of}
use Rattle.stow_tree_model.specs.declared.message.Message as lent
use Rattle.stow_tree.specs.Putting.{bytes_of}

bytes_more : (ms : List TreeMessage) (i : ℕ) (d : TreeMessage) → i < length ms → bytes_of (take (suc i) ms) ≡ bytes_of (take i ms) + message_size (get_or ms i d)
bytes_more [] i d l = absurd (omega (arith, l))
bytes_more (m ∷ ms) zero d l = sum_by-cons message_size m [] ∙ grind arith
bytes_more (m ∷ ms) (suc i) d l =
    let a = sum_by-cons message_size m (take (suc i) ms) in
    let b = sum_by-cons message_size m (take i ms) in
    let c = bytes_more ms i d (omega (arith, l)) in
    omega (arith, a, b, c)

bytes_front : (ms : List TreeMessage) (i : ℕ) → bytes_of (take i ms) ≤ bytes_of ms
bytes_front ms zero = omega arith
bytes_front [] (suc i) = omega arith
bytes_front (m ∷ ms) (suc i) =
    let a = sum_by-cons message_size m (take i ms) in
    let b = sum_by-cons message_size m ms in
    let c = bytes_front ms i in
    omega (arith, a, b, c)

-- one more of the lent messages
pub total_more : (ms : List lent.Message) (i : ℕ) (m : lent.Message) → i < length ms → m ≡ get_or ms i m → bytes_of (take (i + 1) (map message_of ms)) ≡ bytes_of (take i (map message_of ms)) + message_size (message_of m)
total_more ms i m l is =
    ap (λ n. bytes_of (take n (map message_of ms))) next
    ∙ bytes_more (map message_of ms) i (message_of m) (subst (λ n. i < n) (sym (length-map ms message_of)) l)
    ∙ ap (λ x. bytes_of (take i (map message_of ms)) + message_size x) (get_or-map message_of ms i m (message_of m) l ∙ ap message_of (sym is))
  where
    next : i + 1 ≡ suc i
    next = omega arith

pub total_fits : (ms : List lent.Message) (i total size : ℕ) (m : lent.Message) → i < length ms → m ≡ get_or ms i m → total ≡ bytes_of (take i (map message_of ms)) → size ≡ message_size (message_of m) → total + size ≤ bytes_of (map message_of ms)
total_fits ms i total size m l is t s =
    let a = total_more ms i m l is in
    let b = bytes_front (map message_of ms) (i + 1) in
    omega (arith, a, b, t, s)

pub total_all : (ms : List lent.Message) (i : ℕ) → length ms ≤ i → bytes_of (take i (map message_of ms)) ≡ bytes_of (map message_of ms)
total_all ms i l = ap bytes_of (take_all i (map message_of ms) (subst (λ n. n ≤ i) (sym (length-map ms message_of)) l))
