-- The order of keys and of places.
use Rattle.std.proofs.Common.{◌≡◌, ◌≢◌, ℕ, ◌<◌, true, false, List, refl, ap, ◌∙◌, subst, arith, ⊎_elim, inl, inr, ◌⊎◌}
use Rattle.std.specs.declared.cmp.Ordering.{Ordering}
use Rattle.std.specs.Ordering.{nat_cmp, ordering_then, is_eq, eq_by_cmp}
use Rattle.std.specs.declared.cmp.Ordering.TheVariants.{Less, Equal, Greater}
use Rattle.std.specs.Cmp.{IsTotalOrder, then_total, on_total, nat_cmp_total, tied_itself}
use Rattle.std.specs.Cmp.Lexicographic.{nat_list_cmp_total}
use Rattle.std.proofs.lemmas.Map.Lookups.{exact_pairs, exact_bytes, exact_unsigned}
use Rattle.std.proofs.lemmas.Bool.Decides.{nat_tests}
use Rattle.stow_bytes.specs.Bytes.{bytes_cmp}
use Rattle.stow_tree_model.specs.Order.{VersionPlace, place_cmp}
use Rattle.stow_tree_model.specs.Merged.{same_key}

pub place_total : IsTotalOrder place_cmp
place_total = then_total (on_total (λ (p : VersionPlace). p.0) nat_list_cmp_total) (on_total (λ (p : VersionPlace). p.1) nat_cmp_total)

pub exact_places : (a b : VersionPlace) → place_cmp a b ≡ Equal → a ≡ b
exact_places a b e = exact_pairs bytes_cmp nat_cmp exact_bytes exact_unsigned a b e

-- ---- tests

by_order : (r : Ordering) → ((r ≡ Equal) × (is_eq r ≡ true)) ⊎ ((r ≢ Equal) × (is_eq r ≡ false))
by_order Less = inr (λ e. cc, refl)
by_order Equal = inl (refl, refl)
by_order Greater = inr (λ e. cc, refl)

pub key_cases : (a b : List ℕ) → ((a ≡ b) × (same_key a b ≡ true)) ⊎ ((a ≢ b) × (same_key a b ≡ false))
key_cases a b = ⊎_elim
    (λ (h : (bytes_cmp a b ≡ Equal) × (is_eq (bytes_cmp a b) ≡ true)). inl (exact_bytes a b h.0, h.1))
    (λ (h : (bytes_cmp a b ≢ Equal) × (is_eq (bytes_cmp a b) ≡ false)). inr (λ e. h.0 (subst (λ c. bytes_cmp a c ≡ Equal) e (tied_itself nat_list_cmp_total a)), h.1))
    (by_order (bytes_cmp a b))

pub place_cases : (a b : VersionPlace) → ((a ≡ b) × (eq_by_cmp place_cmp a b ≡ true)) ⊎ ((a ≢ b) × (eq_by_cmp place_cmp a b ≡ false))
place_cases a b = ⊎_elim
    (λ (h : (place_cmp a b ≡ Equal) × (is_eq (place_cmp a b) ≡ true)). inl (exact_places a b h.0, h.1))
    (λ (h : (place_cmp a b ≢ Equal) × (is_eq (place_cmp a b) ≡ false)). inr (λ e. h.0 (subst (λ c. place_cmp a c ≡ Equal) e (tied_itself place_total a)), h.1))
    (by_order (place_cmp a b))

pub less_than : (m n : ℕ) → m < n → nat_cmp m n ≡ Less
less_than m n l = grind (arith, nat_tests)

pub same_number : (n : ℕ) → nat_cmp n n ≡ Equal
same_number n = tied_itself nat_cmp_total n

pub more_than : (m n : ℕ) → n < m → nat_cmp m n ≡ Greater
more_than m n l = grind (arith, nat_tests)

-- the same key, and a lower number
pub less_within : (k : List ℕ) (m n : ℕ) → m < n → place_cmp (k, m) (k, n) ≡ Less
less_within k m n l = ap (λ o. ordering_then o (nat_cmp m n)) (tied_itself nat_list_cmp_total k) ∙ less_than m n l
