-- The keys of a batch, and rows that are the same.
use Rattle.std.proofs.Common.{zero, suc, ◌≡◌, ℕ, ◌+◌, cond, List, [], ◌∷◌, length, take, Some, None, refl, sym, ap, ◌∙◌, arith}
use Rattle.std.specs.Prelude.{not, slice_get}
use Rattle.std.proofs.lemmas.List.Filters.{length-filter_both}
use Rattle.stow_leaves.specs.StowMessage.Rising.{is_between, in_range, out_of_range}
use Rattle.stow_tree_model.specs.Messages.{ops_in}
use Rattle.stow_tree_model.specs.TreeMessage.{TreeMessage}
use Rattle.stow_leaves.specs.StowLeaf.Intervals.{spans, NoneOutside}
use Rattle.stow_leaves.proofs.StowLeaf.Found.{none_some}
use Rattle.stow_leaves.proofs.StowLeaf.Intervals.{by_test}
use Rattle.stow_leaves.proofs.StowLeaf.Ops.{ops-out_of_range}
use Rattle.stow_node.proofs.Cut.{none_cond}
use Rattle.stow_node.proofs.Planned.{contained_there}
use Rattle.stow_tree_model.proofs.Pruning.{contains_here}

-- ---- all of a batch is within an interval where as many are

none_left : (low high : List ℕ) (ms : List TreeMessage) → NoneOutside low high ms → out_of_range low high ms ≡ []
none_left low high ms w = by_list (out_of_range low high ms) refl where
  by_list : (k : List TreeMessage) → k ≡ out_of_range low high ms → out_of_range low high ms ≡ []
  by_list [] e = sym e
  by_list (x ∷ k) e = absurd (none_some (ops_in (x ∷ k) x.key x.number)
      (ap (λ l. ops_in l x.key x.number) e ∙ ops-out_of_range low high ms x.key x.number ∙ by_test (spans low high x.key)
      (λ s. ap (λ t. cond (not t) (ops_in ms x.key x.number) None) s)
      (λ s. none_cond (not (spans low high x.key)) (ops_in ms x.key x.number) (w.outside x.key x.number s)))
      (contained_there (x ∷ k) x (contains_here x k)))

none_is_left : (low high : List ℕ) (ms : List TreeMessage) → out_of_range low high ms ≡ [] → NoneOutside low high ms
none_is_left low high ms e = record {
  outside = λ key n o.
      sym (ap (λ t. cond (not t) (ops_in ms key n) None) o) ∙ sym (ops-out_of_range low high ms key n) ∙ ap (λ l. ops_in l key n) e;
}

no_length : (ms : List TreeMessage) → length ms ≡ 0 → ms ≡ []
no_length [] e = refl
no_length (m ∷ ms) e = absurd (omega (arith, e))

split : (low high : List ℕ) (ms : List TreeMessage) → length (in_range low high ms) + length (out_of_range low high ms) ≡ length ms
split low high ms = length-filter_both (is_between low high) (λ m. not (is_between low high m)) (λ m. refl) ms

pub all_within : (low high : List ℕ) (ms : List TreeMessage) (a b : ℕ) → a ≡ length (in_range low high ms) → b ≡ length ms → a ≡ b → NoneOutside low high ms
all_within low high ms a b e f same = none_is_left low high ms (no_length (out_of_range low high ms) (let s = split low high ms in omega (arith, e, f, same, s)))

pub as_many : (low high : List ℕ) (ms : List TreeMessage) (a b : ℕ) → a ≡ length (in_range low high ms) → b ≡ length ms → NoneOutside low high ms → a ≡ b
as_many low high ms a b e f w = let s = split low high ms in let n = ap length (none_left low high ms w) in omega (arith, e, f, s, n)

-- ---- rows

pub take_next : {X : Type 0} (xs ys : List X) (i : ℕ) (x y : X) → slice_get xs i ≡ Some x → slice_get ys i ≡ Some y → x ≡ y → take i xs ≡ take i ys → take (i + 1) xs ≡ take (i + 1) ys
take_next [] ys i x y e f g t = absurd cc
take_next (a ∷ xs) [] i x y e f g t = absurd cc
take_next {X} (a ∷ xs) (b ∷ ys) zero x y e f g t = ap (λ (z : X). z ∷ []) same where
  same : a ≡ b
  same = cc
take_next {X} (a ∷ xs) (b ∷ ys) (suc i) x y e f g t =
    let k : suc i + 1 ≡ suc (i + 1) = omega arith in
    ap (λ n. take n (a ∷ xs)) k ∙ (λ j. first j ∷ take_next xs ys i x y e f g rest j) ∙ ap (λ n. take n (b ∷ ys)) (sym k)
  where
    first : a ≡ b
    first = cc

    rest : take i xs ≡ take i ys
    rest = cc
