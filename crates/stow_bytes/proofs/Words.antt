-- Bytes that are compared as numbers of so many of them, the highest first.
use Rattle.std.proofs.Common.{◌≡◌, ◌≢◌, ℕ, zero, suc, ◌+◌, ◌*◌, ◌<◌, ◌≤◌, List, [], ◌∷◌, length, take, drop, sym, ◌∙◌, ap, arith, ⊎_elim, ◌⊎◌}
use Rattle.std.proofs.lemmas.Bool.{cases_order}
use Rattle.std.proofs.lemmas.Bool.Decides.{nat_tests}
use Rattle.std.specs.declared.cmp.Ordering.TheVariants.{Less, Equal, Greater}
use Rattle.std.specs.Ordering.{nat_cmp, ordering_then}
use Rattle.std.specs.Cmp.{nat_cmp_total, tied_itself}
use Rattle.std.specs.Int.{from_be_bytes, w32, w64}
use Rattle.std.specs.Slice.Scan.{big_endian}
use Rattle.stow_bytes.specs.Bytes.{bytes_cmp}
use Rattle.stow_bytes.specs.Words.{AreBytes}

pub lower : (m n : ℕ) → m < n → nat_cmp m n ≡ Less
lower m n l = grind (arith, nat_tests)

pub higher : (m n : ℕ) → n < m → nat_cmp m n ≡ Greater
higher m n l = grind (arith, nat_tests)

pub same : (n : ℕ) → nat_cmp n n ≡ Equal
same n = tied_itself nat_cmp_total n

-- a lower number stays lower whatever bytes follow
stays_lower : (n a b : ℕ) (us vs : List ℕ) → n ≤ length us → n ≤ length vs → AreBytes us → a < b → big_endian a (take n us) < big_endian b (take n vs)
stays_lower zero a b us vs p q h l = l
stays_lower (suc n) a b [] vs p q h l = absurd (omega arith)
stays_lower (suc n) a b (u ∷ us) [] p q h l = absurd (omega arith)
stays_lower (suc n) a b (u ∷ us) (v ∷ vs) p q h l =
    let small : u < 256 = h 0 in
    stays_lower n (a * 256 + u) (b * 256 + v) us vs (omega arith) (omega arith) (λ i. h (suc i)) (omega arith)

-- behind a number that both have, the first so many bytes are compared as numbers, and then the rest
fronts : (n a : ℕ) (us vs : List ℕ) → n ≤ length us → n ≤ length vs → AreBytes us → AreBytes vs
    → bytes_cmp us vs ≡ ordering_then (nat_cmp (big_endian a (take n us)) (big_endian a (take n vs))) (bytes_cmp (drop n us) (drop n vs))
fronts zero a us vs p q g h = sym (ap (λ o. ordering_then o (bytes_cmp us vs)) (same a))
fronts (suc n) a [] vs p q g h = absurd (omega arith)
fronts (suc n) a (u ∷ us) [] p q g h = absurd (omega arith)
fronts (suc n) a (u ∷ us) (v ∷ vs) p q g h =
    ⊎_elim
    (λ (e : u ≡ v).
    ap (λ o. ordering_then o (bytes_cmp us vs)) (ap (nat_cmp u) (sym e) ∙ same u)
    ∙ fronts n (a * 256 + u) us vs (omega arith) (omega arith) (λ i. g (suc i)) (λ i. h (suc i))
    ∙ ap (λ w. ordering_then (nat_cmp (big_endian (a * 256 + u) (take n us)) (big_endian (a * 256 + w) (take n vs))) (bytes_cmp (drop n us) (drop n vs))) e)
    (λ (c : (u < v) ⊎ (v < u)). ⊎_elim
    (λ (l : u < v).
    let below = stays_lower n (a * 256 + u) (a * 256 + v) us vs (omega arith) (omega arith) (λ i. g (suc i)) (omega arith) in
    ap (λ o. ordering_then o (bytes_cmp us vs)) (lower u v l) ∙ sym (ap (λ o. ordering_then o (bytes_cmp (drop n us) (drop n vs))) (lower _ _ below)))
    (λ (l : v < u).
    let above = stays_lower n (a * 256 + v) (a * 256 + u) vs us (omega arith) (omega arith) (λ i. h (suc i)) (omega arith) in
    ap (λ o. ordering_then o (bytes_cmp us vs)) (higher u v l) ∙ sym (ap (λ o. ordering_then o (bytes_cmp (drop n us) (drop n vs))) (higher _ _ above)))
    c)
    (cases_order u v)

-- two numbers that were read from the first so many bytes, and what follows those
pub record AreRead (us vs rest others : List ℕ) (x y : ℕ) : Type 0 where
  pub compared : bytes_cmp us vs ≡ ordering_then (nat_cmp x y) (bytes_cmp rest others)

read : (n : ℕ) (us vs rest others : List ℕ) (x y : ℕ) → n ≤ length us → n ≤ length vs → AreBytes us → AreBytes vs
    → x ≡ big_endian 0 (take n us) → y ≡ big_endian 0 (take n vs) → rest ≡ drop n us → others ≡ drop n vs → AreRead us vs rest others x y
read n us vs rest others x y p q g h a b c d = record {
  compared = fronts n 0 us vs p q g h ∙ sym (λ i. ordering_then (nat_cmp (a i) (b i)) (bytes_cmp (c i) (d i)));
}

pub eight : (bytes : List ℕ) → 8 ≤ length bytes → from_be_bytes w64 bytes ≡ big_endian 0 (take 8 bytes)
eight [] long = absurd (omega arith)
eight (_ ∷ []) long = absurd (omega arith)
eight (_ ∷ _ ∷ []) long = absurd (omega arith)
eight (_ ∷ _ ∷ _ ∷ []) long = absurd (omega arith)
eight (_ ∷ _ ∷ _ ∷ _ ∷ []) long = absurd (omega arith)
eight (_ ∷ _ ∷ _ ∷ _ ∷ _ ∷ []) long = absurd (omega arith)
eight (_ ∷ _ ∷ _ ∷ _ ∷ _ ∷ _ ∷ []) long = absurd (omega arith)
eight (_ ∷ _ ∷ _ ∷ _ ∷ _ ∷ _ ∷ _ ∷ []) long = absurd (omega arith)
eight (a ∷ b ∷ c ∷ d ∷ e ∷ f ∷ g ∷ h ∷ rest) long = omega arith

four : (bytes : List ℕ) → 4 ≤ length bytes → from_be_bytes w32 bytes ≡ big_endian 0 (take 4 bytes)
four [] long = absurd (omega arith)
four (_ ∷ []) long = absurd (omega arith)
four (_ ∷ _ ∷ []) long = absurd (omega arith)
four (_ ∷ _ ∷ _ ∷ []) long = absurd (omega arith)
four (a ∷ b ∷ c ∷ d ∷ rest) long = omega arith

pub eight_are_read : (us vs rest others : List ℕ) (x y : ℕ) → 8 ≤ length us → 8 ≤ length vs → AreBytes us → AreBytes vs
    → x ≡ from_be_bytes w64 us → y ≡ from_be_bytes w64 vs → rest ≡ drop 8 us → others ≡ drop 8 vs → AreRead us vs rest others x y
eight_are_read us vs rest others x y p q g h a b c d = read 8 us vs rest others x y p q g h (a ∙ eight us p) (b ∙ eight vs q) c d

pub four_are_read : (us vs rest others : List ℕ) (x y : ℕ) → 4 ≤ length us → 4 ≤ length vs → AreBytes us → AreBytes vs
    → x ≡ from_be_bytes w32 us → y ≡ from_be_bytes w32 vs → rest ≡ drop 4 us → others ≡ drop 4 vs → AreRead us vs rest others x y
four_are_read us vs rest others x y p q g h a b c d = read 4 us vs rest others x y p q g h (a ∙ four us p) (b ∙ four vs q) c d

-- where the numbers differ they decide
pub decide : (us vs rest others : List ℕ) (x y : ℕ) → AreRead us vs rest others x y → x ≢ y → nat_cmp x y ≡ bytes_cmp us vs
decide us vs rest others x y h n = ⊎_elim
    (λ (e : x ≡ y). absurd (n e))
    (λ (c : (x < y) ⊎ (y < x)). ⊎_elim
    (λ (l : x < y). lower x y l ∙ sym (h.compared ∙ ap (λ o. ordering_then o (bytes_cmp rest others)) (lower x y l)))
    (λ (l : y < x). higher x y l ∙ sym (h.compared ∙ ap (λ o. ordering_then o (bytes_cmp rest others)) (higher x y l)))
    c)
    (cases_order x y)

-- and else what follows them
pub leave : (us vs rest others : List ℕ) (x y : ℕ) → AreRead us vs rest others x y → x ≡ y → bytes_cmp us vs ≡ bytes_cmp rest others
leave us vs rest others x y h e = h.compared ∙ ap (λ o. ordering_then o (bytes_cmp rest others)) (ap (nat_cmp x) (sym e) ∙ same x)
