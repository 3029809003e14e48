-- The child for which most bytes are buffered.
use Rattle.std.proofs.Common.{◌≡◌, ◌+◌, ◌<◌, ◌≤◌, ℕ, length, List, sym, subst, arith}
use Rattle.std.specs.Prelude.{nat_lt, slice_index_or}
use Rattle.std.specs.List.{sum_by}
use Rattle.std.proofs.lemmas.Bool.Decides.{nat_tests}
use Rattle.stow_leaves.proofs.StowLeaf.Intervals.{by_test}
use Rattle.stow_leaves.specs.StowMessage.MessageBuf.{MessageList}
use Rattle.stow_leaves.specs.StowMessage.Packed.{message_size}
use Rattle.stow_leaves.specs.StowMessage.Rising.{in_range}
use Rattle.stow_node.specs.Parts.{Part, high_of}
use Rattle.stow_node.specs.Moves.{bytes_for, IsHeaviest}

-- the bytes of the messages between a child's ends
pub bytes_are : (parts : List Part) (b : MessageList) (index : ℕ) (d : Part) (low high : List ℕ) → low ≡ (slice_index_or parts index d).low → high ≡ high_of parts index
    → sum_by message_size (in_range low high b.messages) ≡ bytes_for parts b index d
bytes_are parts b index d low high e f = λ i. sum_by message_size (in_range (e i) (f i) b.messages)

-- it is so of the first parts
pub record IsHeaviestOf (parts : List Part) (b : MessageList) (count best bytes : ℕ) : Type 0 where
  pub inside : best < count
  pub is : (d : Part) → bytes ≡ bytes_for parts b best d
  pub most : (j : ℕ) (d : Part) → j < count → bytes_for parts b j d ≤ bytes_for parts b best d
  pub leftmost : (j : ℕ) (d : Part) → j < best → bytes_for parts b j d < bytes_for parts b best d

pub of_first : (parts : List Part) (b : MessageList) (bytes : ℕ) → ((d : Part) → bytes ≡ bytes_for parts b 0 d) → IsHeaviestOf parts b 1 0 bytes
of_first parts b bytes is = record {
  inside = omega arith;
  is = is;
  most = λ j d l. same j d (omega arith);
  leftmost = λ j d l. absurd (omega arith);
}
  where
    same : (j : ℕ) (d : Part) → j ≡ 0 → bytes_for parts b j d ≤ bytes_for parts b 0 d
    same j d e = subst (λ k. bytes_for parts b k d ≤ bytes_for parts b 0 d) (sym e) (omega arith)

-- the next part is no heavier
pub next_lighter : (parts : List Part) (b : MessageList) (count best bytes : ℕ) → IsHeaviestOf parts b count best bytes → ((d : Part) → bytes_for parts b count d ≤ bytes) → IsHeaviestOf parts b (count + 1) best bytes
next_lighter parts b count best bytes h l = record {
  inside = let i = h.inside in omega arith;
  is = h.is;
  most = λ j d m. by_test (nat_lt j count)
      (λ e. h.most j d (grind (arith, nat_tests, e)))
      (λ e. at_next j d (grind (arith, nat_tests, e, m)));
  leftmost = h.leftmost;
}
  where
    at_next : (j : ℕ) (d : Part) → j ≡ count → bytes_for parts b j d ≤ bytes_for parts b best d
    at_next j d e = subst (λ k. bytes_for parts b k d ≤ bytes_for parts b best d) (sym e) (omega (arith, l d, h.is d))

-- the next part is heavier
pub next_heavier : (parts : List Part) (b : MessageList) (count best bytes next : ℕ) → IsHeaviestOf parts b count best bytes → ((d : Part) → (bytes < next) × (next ≡ bytes_for parts b count d)) → IsHeaviestOf parts b (count + 1) count next
next_heavier parts b count best bytes next h is = record {
  inside = omega arith;
  is = λ d. (is d).1;
  most = λ j d m. by_test (nat_lt j count)
      (λ e. omega (arith, h.most j d (grind (arith, nat_tests, e)), is d, h.is d))
      (λ e. at_next j d (grind (arith, nat_tests, e, m)));
  leftmost = λ j d m. omega (arith, h.most j d m, is d, h.is d);
}
  where
    at_next : (j : ℕ) (d : Part) → j ≡ count → bytes_for parts b j d ≤ bytes_for parts b count d
    at_next j d e = subst (λ k. bytes_for parts b k d ≤ bytes_for parts b count d) (sym e) (omega arith)

pub heaviest_of_all : (parts : List Part) (b : MessageList) (count best bytes : ℕ) → IsHeaviestOf parts b count best bytes → count ≡ length parts → IsHeaviest parts b best
heaviest_of_all parts b count best bytes h e = record {
  inside = let i = h.inside in omega arith;
  most = λ j d l. h.most j d (omega arith);
  leftmost = h.leftmost;
}
