-- How many groups hold so many things, and what the last one gets.
use Rattle.std.proofs.Common.{zero, suc, ◌≡◌, ℕ, ◌+◌, ◌*◌, ◌-◌, ◌/◌, ◌<◌, ◌≤◌, refl, sym, ap, ◌∙◌, arith, ⊎_elim}
use Rattle.std.proofs.lemmas.Bool.{cases_lt}
use Rattle.std.proofs.Math.Nat.{div-mul-le_self, lt-div-mul-add, div-lt_iff_lt-mul, le-div_iff_mul-le, div-le_self, div-le_of_le-mul}
use Rattle.stow_groups.specs.Groups.{groups, IsLast}

-- ---- groups

-- so many groups hold them all
pub groups_hold : (f n : ℕ) → 1 ≤ f → 1 ≤ n → n ≤ groups f n * f
groups_hold f n some l =
    let d : n - 1 < (n - 1) / f * f + f = lt-div-mul-add (omega arith) in
    let e : groups f n * f ≡ (n - 1) / f * f + f = grind arith in
    omega (arith, d, e, l)

-- none of them is empty
pub groups_few : (f n : ℕ) → 1 ≤ n → groups f n ≤ n
groups_few f n l = let d = div-le_self (n - 1) f in omega (arith, d, l)

pub one_group : (f n : ℕ) → n ≤ f → 1 ≤ f → groups f n ≡ 1
one_group f n few some =
    let d : (n - 1) / f < 1 = (div-lt_iff_lt-mul {k = f} {x = n - 1} {y = 1} (omega arith)).1 (omega (arith, few, some)) in
    omega (arith, d)

-- some more beside no more than one group holds take no more groups than they are
pub groups_fall : (f w c : ℕ) → 1 ≤ f → w ≤ f → 1 ≤ c → groups f (w + c) - 1 ≤ c
groups_fall f w c some few one =
    let d : (w + c - 1) / f < c + 1 = (div-lt_iff_lt-mul {k = f} {x = w + c - 1} {y = c + 1} (omega arith)).1 (bound f w c some few one) in
    omega (arith, d)
  where
    times : (f c : ℕ) → 1 ≤ f → c ≤ c * f
    times (suc f) c l = let e : c * suc f ≡ c + c * f = grind arith in omega (arith, e)
    times zero c l = absurd (omega arith)

    bound : (f w c : ℕ) → 1 ≤ f → w ≤ f → 1 ≤ c → w + c - 1 < (c + 1) * f
    bound f w c l g h =
        let e : (c + 1) * f ≡ c * f + f = grind arith in
        let t = times f c l in
        omega (arith, e, t, g, h, l)

-- one and some others take at most a fourth as many groups more
pub groups_halve : (f c : ℕ) → 4 ≤ f → 4 * (groups f (1 + c) - 1) ≤ c
groups_halve f c four =
    let d = div-mul-le_self (1 + c - 1) f in
    let e : 4 * ((1 + c - 1) / f) ≤ (1 + c - 1) / f * f = times ((1 + c - 1) / f) f four in
    omega (arith, d, e)
  where
    times : (g f : ℕ) → 4 ≤ f → 4 * g ≤ g * f
    times zero f l = omega arith
    times (suc g) f l =
        let on = times g f l in
        let e : suc g * f ≡ f + g * f = grind arith in
        let h : 4 * suc g ≡ 4 + 4 * g = grind arith in
        omega (arith, on, e, h, l)

-- ---- the last of several groups

pub last_group : (f w k : ℕ) → 2 ≤ k → k ≤ w → w ≤ k * f → IsLast f w k (w / k)
last_group f w k two many hold = record {
  some = some;
  few = few;
  less = less;
  rest_some = rest_some;
  rest_hold = rest_hold;
}
  where
    s : ℕ
    s = w / k

    down : s * k ≤ w
    down = div-mul-le_self w k

    up : w < s * k + k
    up = lt-div-mul-add (omega (arith, two))

    some : 1 ≤ s
    some = (le-div_iff_mul-le {k = k} {x = 1} {y = w} (omega (arith, two))).1 (omega (arith, many))

    few : s ≤ f
    few = div-le_of_le-mul k hold

    split : (j : ℕ) → j + 1 ≡ k → s * k ≡ s * j + s
    split j e = ap (λ n. s * n) (sym e) ∙ grind arith

    ones : (j s : ℕ) → 1 ≤ s → j ≤ s * j
    ones j (suc s) l = let e : suc s * j ≡ j + s * j = grind arith in omega (arith, e)
    ones j zero l = absurd (omega arith)

    less : s < w
    less =
        let e = split (k - 1) (omega (arith, two)) in
        let o = ones (k - 1) s some in
        omega (arith, e, o, down, two)

    rest_some : k - 1 ≤ w - s
    rest_some =
        let e = split (k - 1) (omega (arith, two)) in
        let o = ones (k - 1) s some in
        omega (arith, e, o, down, two)

    product : (a b j : ℕ) → a ≤ b → a * j ≤ b * j
    product zero b j l = omega arith
    product (suc a) zero j l = absurd (omega arith)
    product (suc a) (suc b) j l =
        let on = product a b j (omega arith) in
        let e : suc a * j ≡ j + a * j = grind arith in
        let g : suc b * j ≡ j + b * j = grind arith in
        omega (arith, on, e, g)

    rest_hold : w - s ≤ (k - 1) * f
    rest_hold = ⊎_elim
        (λ (t : s < f).
        let e = split (k - 1) (omega (arith, two)) in
        let p = product (s + 1) f (k - 1) (omega (arith, t)) in
        let g : (s + 1) * (k - 1) ≡ s * (k - 1) + (k - 1) = grind arith in
        let h : f * (k - 1) ≡ (k - 1) * f = grind arith in
        omega (arith, e, p, g, h, up, two))
        (λ (t : f ≤ s).
        let same : s ≡ f = omega (arith, t, few) in
        let e = split (k - 1) (omega (arith, two)) in
        let g : s * (k - 1) ≡ (k - 1) * f = ap (λ n. n * (k - 1)) same ∙ grind arith in
        let h : k * f ≡ s * k = ap (λ n. k * n) (sym same) ∙ grind arith in
        omega (arith, e, g, h, hold, two))
        (cases_lt s f)
