-- The distinct numbers of snapshots.
use Rattle.std.proofs.Common.{◌≡◌, ◌≢◌, ℕ, zero, suc, ◌+◌, ◌-◌, ◌<◌, ◌≤◌, Bool, true, false, List, [], ◌∷◌, ◌++◌, length, get_or, refl, ap, ◌∙◌, sym, subst, arith, length-append, cond, ⊎_elim}
use Rattle.std.specs.Prelude.{T, All, Contains, filter, not, ◌&&◌, ◌||◌, ◌==◌}
use Rattle.std.specs.List.{list_any, remove}
use Rattle.std.specs.List.Sorted.{IsStrictlyIncreasing}
use Rattle.std.proofs.lemmas.Bool.{cases_eq, cases_lt, eq-eqb, ne_eqb}
use Rattle.std.proofs.lemmas.List.{get_or_append_left, get_or-append_right}
use Rattle.std.proofs.lemmas.List.Folds.{list_any-append}
use Rattle.std.proofs.lemmas.List.Kept.{IsStrictlyIncreasing-filter}
use Rattle.stow_versions.specs.VersionLists.{ArePins}

or_false : (b : Bool) → (b || false) ≡ b
or_false true = refl
or_false false = refl

or_true : (b : Bool) → (b || true) ≡ true
or_true true = refl
or_true false = refl

and_false : (b : Bool) → (b && false) ≡ false
and_false true = refl
and_false false = refl

and_true : (b : Bool) → (b && true) ≡ b
and_true true = refl
and_true false = refl

drops : (a b c : Bool) → a ≡ c → (b && not c) ≡ ((a || b) && not c)
drops true b true e = and_false b
drops true b false e = absurd (subst T e tt)
drops false b c e = refl

keeps_other : (a b c : Bool) → c ≡ false → (a || (b && not c)) ≡ ((a || b) && not c)
keeps_other true b true e = absurd (subst T e tt)
keeps_other true b false e = refl
keeps_other false b c e = refl

keeps_none : (a b c : Bool) → a ≡ false → (a || (b && not c)) ≡ ((a || b) && not c)
keeps_none true b c e = absurd (subst T e tt)
keeps_none false b c e = refl

-- a number more
pub any_push : (xs : List ℕ) (x n : ℕ) → list_any (λ m. m == n) (xs ++ x ∷ []) ≡ (list_any (λ m. m == n) xs || (x == n))
any_push xs x n = list_any-append (λ m. m == n) xs (x ∷ []) ∙ ap (λ b. list_any (λ m. m == n) xs || b) (or_false (x == n))

-- a number that was there already adds none
pub any_again : (xs : List ℕ) (x : ℕ) → list_any (λ m. m == x) xs ≡ true → (n : ℕ) → list_any (λ m. m == n) xs ≡ (list_any (λ m. m == n) xs || (x == n))
any_again xs x h n = ⊎_elim
    (λ (e : x ≡ n). subst (λ k. list_any (λ m. m == k) xs ≡ true) e h ∙ sym (ap (λ b. list_any (λ m. m == n) xs || b) (eq-eqb x n e) ∙ or_true (list_any (λ m. m == n) xs)))
    (λ (ne : x ≢ n). sym (ap (λ b. list_any (λ m. m == n) xs || b) (ne_eqb x n ne) ∙ or_false (list_any (λ m. m == n) xs)))
    (cases_eq x n)

-- a place taken out leaves every other number
any_remove_other : (xs : List ℕ) (i n : ℕ) → i < length xs → get_or xs i 0 ≢ n → list_any (λ m. m == n) (remove xs i) ≡ list_any (λ m. m == n) xs
any_remove_other [] i n l ne = absurd (omega arith)
any_remove_other (x ∷ xs) zero n l ne = sym (ap (λ b. b || list_any (λ m. m == n) xs) (ne_eqb x n ne))
any_remove_other (x ∷ xs) (suc i) n l ne = ap (λ b. (x == n) || b) (any_remove_other xs i n (omega arith) ne)

-- the number at a place is there
any_here : (xs : List ℕ) (i n d : ℕ) → i < length xs → get_or xs i d ≡ n → list_any (λ m. m == n) xs ≡ true
any_here [] i n d l e = absurd (omega arith)
any_here (x ∷ xs) zero n d l e = ap (λ b. b || list_any (λ m. m == n) xs) (eq-eqb x n e)
any_here (x ∷ xs) (suc i) n d l e = ap (λ b. (x == n) || b) (any_here xs i n d (omega arith) e) ∙ or_true (x == n)

pub contains_from : (n : ℕ) (xs : List ℕ) → list_any (λ m. m == n) xs ≡ true → Contains xs n
contains_from n [] h = absurd (subst T (sym h) tt)
contains_from n (x ∷ xs) h = ⊎_elim
    (λ (e : x ≡ n). (0, omega arith, e))
    (λ (ne : x ≢ n). let later : Contains xs n = contains_from n xs (ap (λ b. b || list_any (λ m. m == n) xs) (sym (ne_eqb x n ne)) ∙ h) in (suc later.0, omega (arith, later.1), later.2))
    (cases_eq x n)

-- lists with the same numbers contain the same
pub same_contains : (xs ys : List ℕ) (n : ℕ) → list_any (λ m. m == n) xs ≡ list_any (λ m. m == n) ys → Contains xs n → Contains ys n
same_contains xs ys n e (k, l, at) = contains_from n ys (sym e ∙ any_here xs k n n l at)

-- without a number: it isn't there, and every other stays
pub any_without : (xs : List ℕ) (x n : ℕ) → list_any (λ m. m == n) (filter (λ p. not (p == x)) xs) ≡ (list_any (λ m. m == n) xs && not (x == n))
any_without [] x n = refl
any_without (y ∷ xs) x n = ⊎_elim
    (λ (e : y ≡ x).
    ap (λ b. list_any (λ m. m == n) (cond (not b) (y ∷ filter (λ p. not (p == x)) xs) (filter (λ p. not (p == x)) xs))) (eq-eqb y x e)
    ∙ any_without xs x n
    ∙ drops (y == n) (list_any (λ m. m == n) xs) (x == n) (ap (λ k. k == n) e))
    (λ (ne : y ≢ x).
    ap (λ b. list_any (λ m. m == n) (cond (not b) (y ∷ filter (λ p. not (p == x)) xs) (filter (λ p. not (p == x)) xs))) (ne_eqb y x ne)
    ∙ ap (λ b. (y == n) || b) (any_without xs x n)
    ∙ ⊎_elim
    (λ (same : y ≡ n). let other : x ≢ n = λ e. ne (same ∙ sym e) in keeps_other (y == n) (list_any (λ m. m == n) xs) (x == n) (ne_eqb x n other))
    (λ (other : y ≢ n). keeps_none (y == n) (list_any (λ m. m == n) xs) (x == n) (ne_eqb y n other))
    (cases_eq y n))
    (cases_eq y x)

-- after one of two snapshots at one number was dropped, the pins are the same
pub pins_stay : (pins numbers : List ℕ) (i n : ℕ) → i < length numbers → get_or numbers i 0 ≡ n → ArePins pins numbers → list_any (λ m. m == n) (remove numbers i) ≡ true → ArePins pins (remove numbers i)
pins_stay pins numbers i n l e are still = record {
  rise = are.rise;
  same_members = λ k. ⊎_elim
      (λ (s : n ≡ k). are.same_members k ∙ any_here numbers i k 0 l (e ∙ s) ∙ sym (subst (λ j. list_any (λ m. m == j) (remove numbers i) ≡ true) s still))
      (λ (ne : n ≢ k). are.same_members k ∙ sym (any_remove_other numbers i k l (λ same. ne (sym e ∙ same))))
      (cases_eq n k);
}

-- after the last snapshot at a number was dropped, the pins are the others
pub pins_go : (pins numbers : List ℕ) (i n : ℕ) → i < length numbers → get_or numbers i 0 ≡ n → ArePins pins numbers → list_any (λ m. m == n) (remove numbers i) ≡ false → ArePins (filter (λ p. not (p == n)) pins) (remove numbers i)
pins_go pins numbers i n l e are none = record {
  rise = IsStrictlyIncreasing-filter (λ p. not (p == n)) pins are.rise;
  same_members = λ k. any_without pins n k ∙ ⊎_elim
      (λ (s : n ≡ k). ap (λ b. list_any (λ m. m == k) pins && not b) (eq-eqb n k s) ∙ and_false (list_any (λ m. m == k) pins) ∙ sym (subst (λ j. list_any (λ m. m == j) (remove numbers i) ≡ false) s none))
      (λ (ne : n ≢ k). ap (λ b. list_any (λ m. m == k) pins && not b) (ne_eqb n k ne) ∙ and_true (list_any (λ m. m == k) pins) ∙ are.same_members k ∙ sym (any_remove_other numbers i k l (λ same. ne (sym e ∙ same))))
      (cases_eq n k);
}

zero_of : (n : ℕ) → n - n ≡ 0
zero_of n = omega arith

-- a number above the others rises
pub rise_push : (pins : List ℕ) (n : ℕ) → IsStrictlyIncreasing pins → ((p : ℕ) → list_any (λ q. q == p) pins ≡ true → p ≤ n) → list_any (λ q. q == n) pins ≡ false → IsStrictlyIncreasing (pins ++ n ∷ [])
rise_push pins n rise above none k l =
    let size : length (pins ++ n ∷ []) ≡ length pins + 1 = length-append pins (n ∷ []) in
    let here : k < length pins = omega arith in
    let first : get_or (pins ++ n ∷ []) k 0 ≡ get_or pins k 0 = get_or_append_left pins (n ∷ []) 0 k here in
    ⊎_elim
    (λ (inner : k + 1 < length pins).
    let second : get_or (pins ++ n ∷ []) (k + 1) 0 ≡ get_or pins (k + 1) 0 = get_or_append_left pins (n ∷ []) 0 (k + 1) inner in
    let old = rise k inner in
    omega arith)
    (λ (end : length pins ≤ k + 1).
    let second : get_or (pins ++ n ∷ []) (k + 1) 0 ≡ n = get_or-append_right pins (n ∷ []) (k + 1) (k + 1) 0 (omega arith) (omega arith) ∙ ap (λ j. get_or (n ∷ []) j 0) (zero_of (k + 1)) in
    let there : list_any (λ q. q == get_or pins k 0) pins ≡ true = any_here pins k (get_or pins k 0) 0 here refl in
    let low : get_or pins k 0 ≤ n = above (get_or pins k 0) there in
    let other : get_or pins k 0 ≢ n = λ e. absurd (subst T (sym (sym none ∙ any_here pins k n 0 here e)) tt) in
    omega arith)
    (cases_lt (k + 1) (length pins))

-- the numbers of the pins are those of the snapshots, so none is above what all those are within
pub pins_within : (pins numbers : List ℕ) (last : ℕ) → ArePins pins numbers → All (λ n. n ≤ last) numbers → (p : ℕ) → list_any (λ q. q == p) pins ≡ true → p ≤ last
pins_within pins numbers last are all p h =
    let there : Contains numbers p = contains_from p numbers (sym (are.same_members p) ∙ h) in
    let low = all there.0 p there.1 in
    subst (λ n. n ≤ last) there.2 low

-- a snapshot more, at a number that is none below the others
pub pins_push : (pins new numbers : List ℕ) (n : ℕ) → ArePins pins numbers → IsStrictlyIncreasing new → ((k : ℕ) → list_any (λ p. p == k) new ≡ (list_any (λ p. p == k) pins || (n == k))) → ArePins new (numbers ++ n ∷ [])
pins_push pins new numbers n are rise members = record {
  rise = rise;
  same_members = λ k. members k ∙ ap (λ b. b || (n == k)) (are.same_members k) ∙ sym (any_push numbers n k);
}

-- without the number at a place, that number is among the others or not, and each other as before
pub any_removed : (xs : List ℕ) (i x : ℕ) → i < length xs → get_or xs i 0 ≡ x → (n : ℕ) → list_any (λ m. m == n) xs ≡ (list_any (λ m. m == n) (remove xs i) || (x == n))
any_removed xs i x l e n = ⊎_elim
    (λ (s : x ≡ n). any_here xs i n 0 l (e ∙ s) ∙ sym (ap (λ b. list_any (λ m. m == n) (remove xs i) || b) (eq-eqb x n s) ∙ or_true (list_any (λ m. m == n) (remove xs i))))
    (λ (ne : x ≢ n). sym (any_remove_other xs i n l (λ same. ne (sym e ∙ same))) ∙ sym (ap (λ b. list_any (λ m. m == n) (remove xs i) || b) (ne_eqb x n ne) ∙ or_false (list_any (λ m. m == n) (remove xs i))))
    (cases_eq x n)
