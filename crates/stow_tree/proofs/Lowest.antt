-- Tenants' keys are among those that the root may hold.
use Rattle.std.proofs.Common.{◌≡◌, ℕ, ◌+◌, ◌*◌, ◌<◌, ◌≤◌, ◌⊎◌, true, false, List, [], ◌∷◌, refl, ap, ◌∙◌, arith, ⊎_elim}
use Rattle.std.specs.declared.cmp.Ordering.{Ordering}
use Rattle.std.specs.Int.{from_be_bytes, w32}
use Rattle.std.specs.Ordering.{is_lt, nat_cmp, ordering_then}
use Rattle.std.proofs.lemmas.Bool.{cases_order}
use Rattle.stow_bytes.specs.Bytes.{bytes_cmp}
use Rattle.stow_flush.specs.StowLeaf.Intervals.{top_key, spans}
use Rattle.stow_flush.proofs.StowLeaf.Intervals.{spanned}
use Rattle.stow_tree_model.specs.Keys.{packed, tenant_of, IsTenantKey, IsOfTenant}
use Rattle.stow_tree_model.proofs.Orders.{less_than, same_number, more_than}

from_zero : (n : ℕ) (o : Ordering) → is_lt o ≡ false → is_lt (ordering_then (nat_cmp n 0) o) ≡ false
from_zero n o e = ⊎_elim
    (λ (z : n ≡ 0). ap (λ x. is_lt (ordering_then (nat_cmp x 0) o)) z ∙ ap (λ x. is_lt (ordering_then x o)) (same_number 0) ∙ e)
    (λ (h : (n < 0) ⊎ (0 < n)). ⊎_elim (λ (l : n < 0). absurd (omega (arith, l))) (λ (l : 0 < n). ap (λ x. is_lt (ordering_then x o)) (more_than n 0 l)) h)
    (cases_order n 0)

not_below_empty : (k : List ℕ) → is_lt (bytes_cmp k []) ≡ false
not_below_empty [] = refl
not_below_empty (x ∷ k) = refl

four_bytes : (a b c d : ℕ) → from_be_bytes w32 (a ∷ b ∷ c ∷ d ∷ []) ≡ 16777216 * a + 65536 * b + 256 * c + d
four_bytes a b c d = omega arith

from_lowest : (a b c d : ℕ) (rest : List ℕ) → is_lt (bytes_cmp (a ∷ b ∷ c ∷ d ∷ rest) (packed 0 [])) ≡ false
from_lowest a b c d rest = from_zero a _ (from_zero b _ (from_zero c _ (from_zero d _ (not_below_empty rest))))

below_top : (a b c d : ℕ) (rest : List ℕ) → a ≡ 0 → b < 1 → is_lt (bytes_cmp (a ∷ b ∷ c ∷ d ∷ rest) top_key) ≡ true
below_top a b c d rest z l =
    ap (λ x. is_lt (ordering_then (nat_cmp x 0) (ordering_then (nat_cmp b 1) (bytes_cmp (c ∷ d ∷ rest) (0 ∷ 0 ∷ []))))) z
    ∙ ap (λ x. is_lt (ordering_then x (ordering_then (nat_cmp b 1) (bytes_cmp (c ∷ d ∷ rest) (0 ∷ 0 ∷ []))))) (same_number 0)
    ∙ ap (λ x. is_lt (ordering_then x (bytes_cmp (c ∷ d ∷ rest) (0 ∷ 0 ∷ [])))) (less_than b 1 l)

pub in_tree : (low key : List ℕ) → low ≡ packed 0 [] → IsTenantKey key → IsOfTenant key → spans low top_key key ≡ true
unfolding tenant_of
in_tree low [] e is own = let h = is.has_index in absurd (omega (arith, h))
in_tree low (a ∷ []) e is own = let h = is.has_index in absurd (omega (arith, h))
in_tree low (a ∷ b ∷ []) e is own = let h = is.has_index in absurd (omega (arith, h))
in_tree low (a ∷ b ∷ c ∷ []) e is own = let h = is.has_index in absurd (omega (arith, h))
in_tree low (a ∷ b ∷ c ∷ d ∷ rest) e is own =
    let whole = four_bytes a b c d in
    let few : from_be_bytes w32 (a ∷ b ∷ c ∷ d ∷ []) ≤ 65535 = own.1 in
    spanned low top_key (a ∷ b ∷ c ∷ d ∷ rest)
    (ap (λ l. is_lt (bytes_cmp (a ∷ b ∷ c ∷ d ∷ rest) l)) e ∙ from_lowest a b c d rest)
    (below_top a b c d rest (omega (arith, whole, few)) (omega (arith, whole, few)))
