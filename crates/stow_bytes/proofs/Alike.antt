-- Bytes that begin alike.
use Rattle.std.proofs.Common.{◌≡◌, ◌≢◌, ℕ, zero, suc, ◌+◌, ◌*◌, ◌<◌, ◌≤◌, List, [], ◌∷◌, length, take, drop, refl, sym, ◌∙◌, ap, arith, length-drop, get_or-drop, ⊎_elim, ◌⊎◌}
use Rattle.std.proofs.lemmas.Bool.{cases_order}
use Rattle.std.specs.declared.cmp.Ordering.TheVariants.{Greater}
use Rattle.std.specs.Prelude.{min}
use Rattle.std.specs.Ordering.{nat_cmp, ordering_then}
use Rattle.std.specs.Int.{from_be_bytes, w64}
use Rattle.std.specs.Slice.Scan.{big_endian}
use Rattle.stow_bytes.specs.Bytes.{bytes_cmp}
use Rattle.stow_bytes.specs.Words.{AreAlike, AreBytes}
use Rattle.stow_bytes.proofs.Words.{lower, higher, same, eight, eight_are_read, decide}

heads : (n u v : ℕ) (us vs : List ℕ) → AreAlike (suc n) (u ∷ us) (v ∷ vs) → (u ≡ v) × AreAlike n us vs
heads n u v us vs h = let e = h.same in let first : u ≡ v = cc in let rest : take n us ≡ take n vs = cc in
    (first, record { within = (omega (arith, h.within), omega (arith, h.within)); same = rest })

-- what is alike needn't be compared
pub alike_cmp : (n : ℕ) (us vs : List ℕ) → AreAlike n us vs → bytes_cmp us vs ≡ bytes_cmp (drop n us) (drop n vs)
alike_cmp zero us vs h = refl
alike_cmp (suc n) [] vs h = absurd (omega (arith, h.within))
alike_cmp (suc n) (u ∷ us) [] h = absurd (omega (arith, h.within))
alike_cmp (suc n) (u ∷ us) (v ∷ vs) h = let parts = heads n u v us vs h in
    ap (λ o. ordering_then o (bytes_cmp us vs)) (ap (nat_cmp u) (sym parts.0) ∙ same u) ∙ alike_cmp n us vs parts.1

pub alike_none : (us vs : List ℕ) → AreAlike 0 us vs
alike_none us vs = record { within = (omega arith, omega arith); same = refl }

pub alike_less : (m n : ℕ) (us vs : List ℕ) → m ≤ n → AreAlike n us vs → AreAlike m us vs
alike_less zero n us vs le h = alike_none us vs
alike_less (suc m) zero us vs le h = absurd (omega (arith, le))
alike_less (suc m) (suc n) [] vs le h = absurd (omega (arith, h.within))
alike_less (suc m) (suc n) (u ∷ us) [] le h = absurd (omega (arith, h.within))
alike_less (suc m) (suc n) (u ∷ us) (v ∷ vs) le h = let parts = heads n u v us vs h in let rest = alike_less m n us vs (omega (arith, le)) parts.1 in
    record { within = (omega (arith, rest.within), omega (arith, rest.within)); same = λ i. parts.0 i ∷ rest.same i }

-- where some are alike, and so many that follow them
pub alike_more : (n k m : ℕ) (us vs : List ℕ) → m ≡ n + k → AreAlike n us vs → AreAlike k (drop n us) (drop n vs) → AreAlike m us vs
alike_more zero k m us vs e h more = alike_less m k us vs (omega (arith, e)) more
alike_more (suc n) k zero us vs e h more = absurd (omega (arith, e))
alike_more (suc n) k (suc m) [] vs e h more = absurd (omega (arith, h.within))
alike_more (suc n) k (suc m) (u ∷ us) [] e h more = absurd (omega (arith, h.within))
alike_more (suc n) k (suc m) (u ∷ us) (v ∷ vs) e h more = let parts = heads n u v us vs h in let rest = alike_more n k m us vs (omega (arith, e)) parts.1 more in
    record { within = (omega (arith, rest.within), omega (arith, rest.within)); same = λ i. parts.0 i ∷ rest.same i }

-- bytes whose numbers are the same
same_bytes : (n a b : ℕ) (us vs : List ℕ) → n ≤ length us → n ≤ length vs → AreBytes us → AreBytes vs → big_endian a (take n us) ≡ big_endian b (take n vs) → (a ≡ b) × (take n us ≡ take n vs)
same_bytes zero a b us vs p q g h e = (e, refl)
same_bytes (suc n) a b [] vs p q g h e = absurd (omega (arith, p))
same_bytes (suc n) a b (u ∷ us) [] p q g h e = absurd (omega (arith, q))
same_bytes (suc n) a b (u ∷ us) (v ∷ vs) p q g h e =
    let rest = same_bytes n (a * 256 + u) (b * 256 + v) us vs (omega (arith, p)) (omega (arith, q)) (λ i. g (suc i)) (λ i. h (suc i)) e in
    let number : a * 256 + u ≡ b * 256 + v = rest.0 in let low : u < 256 = g 0 in let lower : v < 256 = h 0 in
    let byte : u ≡ v = omega arith in (omega arith, λ i. byte i ∷ rest.1 i)

pub eight_alike : (us vs : List ℕ) (x y : ℕ) → 8 ≤ length us → 8 ≤ length vs → AreBytes us → AreBytes vs → x ≡ from_be_bytes w64 us → y ≡ from_be_bytes w64 vs → x ≡ y → AreAlike 8 us vs
eight_alike us vs x y p q g h a b e = record {
  within = (p, q);
  same = (same_bytes 8 0 0 us vs p q g h (sym (a ∙ eight us p) ∙ e ∙ b ∙ eight vs q)).1;
}

-- where one of both has no more, the lengths decide
ends : (us vs : List ℕ) (n a b : ℕ) → a ≡ n + length us → b ≡ n + length vs → min a b ≤ n → bytes_cmp us vs ≡ nat_cmp a b
ends [] [] n a b e f le = let equal : a ≡ b = omega (arith, e, f) in sym (ap (nat_cmp a) (sym equal) ∙ same a)
ends [] (v ∷ vs) n a b e f le = sym (lower a b (omega (arith, e, f)))
ends (u ∷ us) [] n a b e f le = sym (higher a b (omega (arith, e, f)))
ends (u ∷ us) (v ∷ vs) n a b e f le = absurd (omega (arith, e, f, le))

module _ (us vs : List ℕ) (n : ℕ) (h : AreAlike n us vs) where
  pub alike_ends : min (length us) (length vs) ≤ n → bytes_cmp us vs ≡ nat_cmp (length us) (length vs)
  alike_ends le = alike_cmp n us vs h ∙ ends (drop n us) (drop n vs) n (length us) (length vs) (omega (arith, h.within, length-drop n us)) (omega (arith, h.within, length-drop n vs)) le

-- the words of eight bytes behind what is alike
module _ (us vs : List ℕ) (at : ℕ) (p : at + 8 ≤ length us) (q : at + 8 ≤ length vs) (g : AreBytes us) (k : AreBytes vs) (x y : ℕ) (a : x ≡ from_be_bytes w64 (drop at us)) (b : y ≡ from_be_bytes w64 (drop at vs)) where
  behind : (bytes : List ℕ) → AreBytes bytes → AreBytes (drop at bytes)
  behind bytes h i = let moved = get_or-drop at bytes i 0 in let low = h (at + i) in omega (arith, moved, low)

  pub word_decides : AreAlike at us vs → x ≢ y → nat_cmp x y ≡ bytes_cmp us vs
  word_decides h ne =
      decide (drop at us) (drop at vs) (drop 8 (drop at us)) (drop 8 (drop at vs)) x y
      (eight_are_read (drop at us) (drop at vs) (drop 8 (drop at us)) (drop 8 (drop at vs)) x y (omega (arith, p, length-drop at us)) (omega (arith, q, length-drop at vs)) (behind us g) (behind vs k) a b refl refl) ne
      ∙ sym (alike_cmp at us vs h)

  pub word_leaves : AreAlike at us vs → x ≡ y → AreAlike (at + 8) us vs
  word_leaves h e = alike_more at 8 (at + 8) us vs refl h
      (eight_alike (drop at us) (drop at vs) x y (omega (arith, p, length-drop at us)) (omega (arith, q, length-drop at vs)) (behind us g) (behind vs k) a b e)

-- what stands between bytes that begin as others do begins so too
pub alike_between : (n : ℕ) (us ws vs ks : List ℕ) → AreAlike n us ks → AreAlike n vs ks → (bytes_cmp us ws ≡ Greater → ⊥) → (bytes_cmp ws vs ≡ Greater → ⊥) → AreAlike n ws ks
alike_between zero us ws vs ks h k p q = alike_none ws ks
alike_between (suc n) [] ws vs ks h k p q = absurd (omega (arith, h.within))
alike_between (suc n) (u ∷ us) ws vs [] h k p q = absurd (omega (arith, h.within))
alike_between (suc n) (u ∷ us) ws [] (b ∷ ks) h k p q = absurd (omega (arith, k.within))
alike_between (suc n) (u ∷ us) [] (v ∷ vs) (b ∷ ks) h k p q = absurd (p refl)
alike_between (suc n) (u ∷ us) (w ∷ ws) (v ∷ vs) (b ∷ ks) h k p q = let low = heads n u b us ks h in let high = heads n v b vs ks k in
    ⊎_elim
    (λ (e : u ≡ w). let f : w ≡ v = sym e ∙ low.0 ∙ sym high.0 in
    let rest = alike_between n us ws vs ks low.1 high.1
    (λ g. p (ap (λ o. ordering_then o (bytes_cmp us ws)) (ap (nat_cmp u) (sym e) ∙ same u) ∙ g))
    (λ g. q (ap (λ o. ordering_then o (bytes_cmp ws vs)) (ap (nat_cmp w) (sym f) ∙ same w) ∙ g)) in
    let first : w ≡ b = sym e ∙ low.0 in
    record { within = (omega (arith, rest.within), omega (arith, rest.within)); same = λ i. first i ∷ rest.same i })
    (λ (c : (u < w) ⊎ (w < u)). ⊎_elim
    (λ (l : u < w). let over : v < w = omega (arith, l, low.0, high.0) in absurd (q (ap (λ o. ordering_then o (bytes_cmp ws vs)) (higher w v over))))
    (λ (l : w < u). absurd (p (ap (λ o. ordering_then o (bytes_cmp us ws)) (higher u w l))))
    c)
    (cases_order u w)
