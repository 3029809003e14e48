-- What is told of a value in place of its bytes.
use Rattle.std.proofs.Common.{◌≡◌, ℕ, ◌+◌, ◌-◌, ◌^◌, ◌<◌, ◌≤◌, List, [], ◌∷◌, ◌++◌, length, drop, get_or, min, Option, Some, None, refl, ap, ◌∙◌, sym, arith}
use Rattle.std.specs.Prelude.{sum_by}
use Rattle.std.specs.Option.{option_map}
use Rattle.std.proofs.Math.Nat.{min-eq_left}
use Rattle.std.proofs.lemmas.List.{length-append, at_drop_more}
use Rattle.std.proofs.lemmas.List.Sums.{sum_by-cons}
use Rattle.stow_bytes.specs.Limits.{value_limit}
use Rattle.stow_tree_model.specs.Operations.{NumberedValue, Operations, latest, value_in, bytes_or_none}
use Rattle.stow_tree_model.specs.Value.{IsValue}
use Rattle.stow_read.specs.Suffixes.{continued, extended}
use Rattle.stow_read.specs.Walk.{head_of, IsHead, IsNumberAfter}
use Rattle.stow_read.specs.declared.row_head.RowHead.{RowHead}
use Rattle.stow_read.specs.declared.value_head.ValueHead.{ValueHead}

-- a base and suffixes have the bytes of both
pub extended_size : (base : Option (List ℕ)) (ss : List (List ℕ)) → length (bytes_or_none (extended base ss)) ≡ length (bytes_or_none base) + sum_by length ss
extended_size base [] = omega arith
extended_size base (s ∷ ss) =
    length-append (bytes_or_none (extended base ss)) s
    ∙ added (length (bytes_or_none (extended base ss))) (length (bytes_or_none base)) (sum_by length ss) (length s) (extended_size base ss)
    ∙ ap (λ n. length (bytes_or_none base) + n) (sym (sum_by-cons length s ss))
  where
    added : (a b c d : ℕ) → a ≡ b + c → a + d ≡ b + (d + c)
    added a b c d e = omega (arith, e)

-- one more suffix is counted
pub size_next : (ss : List (List ℕ)) (i size after : ℕ) (s : List ℕ) → i < length ss → s ≡ get_or ss i s → after ≡ min (size + length s) (2 ^ 64 - 1) → (sum_by length ss < 2 ^ 64 → size + sum_by length (drop i ss) ≡ sum_by length ss)
    → (sum_by length ss < 2 ^ 64 → after + sum_by length (drop (i + 1) ss) ≡ sum_by length ss)
size_next ss i size after s h e is so_far fits = added (size + length s) (2 ^ 64 - 1) (sum_by length (drop (i + 1) ss)) (sum_by length ss) after is total (omega (arith, fits)) where
  cut : drop i ss ≡ s ∷ drop (i + 1) ss
  cut = at_drop_more (λ xs. xs) ss i s h ∙ ap (λ x. x ∷ drop (i + 1) ss) (sym e)

  total : (size + length s) + sum_by length (drop (i + 1) ss) ≡ sum_by length ss
  total = (let both : size + (length s + sum_by length (drop (i + 1) ss)) ≡ sum_by length ss = ap (λ n. size + n) (sym (sum_by-cons length s (drop (i + 1) ss))) ∙ ap (λ xs. size + sum_by length xs) (sym cut) ∙ so_far fits in omega (arith, both))

  added : (a most rest all b : ℕ) → b ≡ min a most → a + rest ≡ all → all ≤ most → b + rest ≡ all
  added a most rest all b e f l = omega (arith, e ∙ min-eq_left (omega arith), f)

-- suffixes and what is below them have the bytes of the value that they make
pub sized : (number : ℕ) (ss : List (List ℕ)) (base : Option NumberedValue) (lower size : ℕ) → 0 < length ss → lower ≡ length (bytes_or_none (value_in base)) → (sum_by length ss < 2 ^ 64 → size ≡ sum_by length ss) → IsValue (value_in (continued (number, ss) base))
    → (lower + size ≤ value_limit) × (◌≡◌ {A = Option ValueHead} (Some (record { number = number; length = lower + size })) (option_map head_of (continued (number, ss) base)))
sized number [] base lower size some e is short = absurd (omega arith)
sized number (s ∷ older) base lower size some e is short = (
  omega (arith, same, limit),
  ap (λ n. Some (record { number = number; length = n })) same,
)
  where
    limit : length (bytes_or_none (extended (value_in base) older) ++ s) ≤ value_limit
    limit = short.is_short (bytes_or_none (extended (value_in base) older) ++ s) refl

    total : length (bytes_or_none (extended (value_in base) older) ++ s) ≡ length (bytes_or_none (value_in base)) + sum_by length (s ∷ older)
    total = extended_size (value_in base) (s ∷ older)

    same : lower + size ≡ length (bytes_or_none (extended (value_in base) older) ++ s)
    same = (let whole : size ≡ sum_by length (s ∷ older) = is (omega (arith, limit, total)) in omega (arith, e, whole, total))

pub no_head : (o : Option NumberedValue) → option_map head_of o ≡ None → o ≡ None
no_head None e = refl
no_head (Some v) e = absurd cc

same_head : (a b : ValueHead) → ◌≡◌ {A = Option ValueHead} (Some a) (Some b) → a ≡ b
same_head a b e = cc

-- the row has the head of the value that the key has
pub is_head : {A : Type 0} (ops : Operations) (at : ℕ) (o : Option NumberedValue) (h : ValueHead) (row : RowHead A) → latest ops at ≡ o → option_map head_of o ≡ Some h → row.number ≡ h.number → row.length ≡ h.length → IsNumberAfter ops at row.next → IsHead ops at row
is_head ops at None h row has e number size next = absurd cc
is_head ops at (Some v) h row has e number size next = record {
  value = v;
  has = has;
  number = number ∙ sym (ap (λ (x : ValueHead). x.number) (same_head (head_of v) h e));
  size = size ∙ sym (ap (λ (x : ValueHead). x.length) (same_head (head_of v) h e));
  next = next;
}
