-- Pins, and the numbers of snapshots.
use Rattle.std.proofs.Common.{◌≡◌, ◌≢◌, ℕ, zero, suc, ◌<◌, ◌≤◌, Bool, true, false, cond, List, [], ◌∷◌, length, get_or, Option, None, is_some, refl, ap, sym, ◌∙◌, subst, arith, ⊎_elim}
use Rattle.std.specs.Prelude.{Contains, IsSome, filter, not, ◌||◌, ◌&&◌, ◌==◌}
use Rattle.std.specs.List.{list_any}
use Rattle.std.proofs.Math.Bool.{false≢true}
use Rattle.std.proofs.lemmas.Bool.{cases_eq, eq-eqb, ne_eqb}
use Rattle.stow_core.specs.Tenancies.{is_among, without, unless}
use Rattle.stow_dropping.specs.StowMerge.PinLists.{AreRising}
use Rattle.stow_ledger.proofs.StowState.Snapshots.{contains_first}
use Rattle.stow_versions.proofs.PinLemmas.{any_again, any_without, contains_from}

pub not_none : {X : Type 0} (o : Option X) → o ≡ None → IsSome o → ⊥
not_none o e some = false≢true (sym (ap is_some e) ∙ some)

first_false : (a b : Bool) → (a || b) ≡ false → a ≡ false
first_false true b e = e
first_false false b e = refl

second_false : (a b : Bool) → (a || b) ≡ false → b ≡ false
second_false true b e = absurd (apart e) where
  apart : true ≡ false → ⊥
  apart f = cc
second_false false b e = e

other : (p n : ℕ) → (p == n) ≡ false → p ≢ n
other p n e is = absurd (apart (sym (eq-eqb p n is) ∙ e)) where
  apart : true ≡ false → ⊥
  apart f = cc

later : (x n : ℕ) (xs : List ℕ) → Contains xs n → Contains (x ∷ xs) n
later x n xs (k, l, e) = (suc k, omega (arith, l), e)

-- numbers that aren't above this one, and of which it is none, are below it
pub all_below : (ps : List ℕ) (n : ℕ) → list_any (λ m. m == n) ps ≡ false → ((p : ℕ) → Contains ps p → p ≤ n) → (k d : ℕ) → k < length ps → get_or ps k d < n
all_below [] n none low k d l = absurd (omega (arith, l))
all_below (p ∷ ps) n none low zero d l = let differs = other p n (first_false (p == n) _ none) in let le = low p (contains_first p ps) in omega (arith, differs, le)
all_below (p ∷ ps) n none low (suc k) d l = all_below ps n (second_false (p == n) _ none) (λ q c. low q (later p q ps c)) k d (omega (arith, l))

-- ---- pins that stay where a snapshot goes

or_same : (a b : Bool) → b ≡ false → (a || b) ≡ a
or_same true b e = refl
or_same false b e = e

and_other : (a b : Bool) → b ≡ false → (a && not b) ≡ a
and_other true b e = ap not e
and_other false b e = refl

and_same : (a b : Bool) → b ≡ true → (a && not b) ≡ false
and_same true b e = ap not e
and_same false b e = refl

-- without the number that goes, unless another snapshot has it, numbers are those that stay
pub left_without : (x : ℕ) (still : Bool) (ps olds news : List ℕ) → is_among x news ≡ still → ((n : ℕ) → is_among n ps ≡ is_among n olds) → ((n : ℕ) → is_among n olds ≡ (is_among n news || (x == n))) → (n : ℕ) → is_among n (without (unless still x) ps) ≡ is_among n news
left_without x true ps olds news there same more n = same n ∙ more n ∙ sym (any_again news x there n)
left_without x false ps olds news gone same more n = any_without ps x n ∙ ap (λ b. b && not (x == n)) (same n ∙ more n) ∙ ⊎_elim
    (λ (e : x ≡ n). and_same _ (x == n) (eq-eqb x n e) ∙ sym (ap (λ k. is_among k news) (sym e) ∙ gone))
    (λ (ne : x ≢ n). ap (λ b. (is_among n news || b) && not b) (ne_eqb x n ne) ∙ and_other (is_among n news || false) false refl ∙ or_same (is_among n news) false refl)
    (cases_eq x n)

-- ---- how many pins there are

rest_rising : (x : ℕ) (xs : List ℕ) → AreRising (x ∷ xs) → AreRising xs
rest_rising x xs rise i j less low = rise (suc i) (suc j) (omega (arith, less)) (omega (arith, low))

above_first : (x : ℕ) (xs : List ℕ) → AreRising (x ∷ xs) → (n : ℕ) → Contains xs n → x < n
above_first x xs rise n (k, l, e) = let less = rise 0 (suc k) (omega arith) (omega (arith, l)) in subst (λ m. x < m) (at xs k n l e) less where
  at : (ys : List ℕ) (i m : ℕ) → i < length ys → get_or ys i m ≡ m → get_or ys i 0 ≡ m
  at [] i m low same = absurd (omega (arith, low))
  at (y ∷ ys) zero m low same = same
  at (y ∷ ys) (suc i) m low same = at ys i m (omega (arith, low)) same

one_kept : (b : Bool) (y n : ℕ) (ys : List ℕ) → length ys ≤ n → length (cond b (y ∷ ys) ys) ≤ suc n
one_kept true y n ys le = omega (arith, le)
one_kept false y n ys le = omega (arith, le)

length-filter-le : (p : ℕ → Bool) (ys : List ℕ) → length (filter p ys) ≤ length ys
length-filter-le p [] = omega arith
length-filter-le p (y ∷ ys) = one_kept (p y) y (length ys) (filter p ys) (length-filter-le p ys)

fewer : (x : ℕ) (ys : List ℕ) → is_among x ys ≡ true → length (filter (λ p. not (p == x)) ys) < length ys
fewer x [] h = absurd (false≢true h)
fewer x (y ∷ ys) h = ⊎_elim
    (λ (e : y ≡ x).
    let less = length-filter-le (λ p. not (p == x)) ys in
    subst (λ b. length (cond (not b) (y ∷ filter (λ p. not (p == x)) ys) (filter (λ p. not (p == x)) ys)) < suc (length ys)) (sym (eq-eqb y x e)) (omega (arith, less)))
    (λ (ne : y ≢ x).
    let rest = fewer x ys (ap (λ b. b || is_among x ys) (sym (ne_eqb y x ne)) ∙ h) in
    subst (λ b. length (cond (not b) (y ∷ filter (λ p. not (p == x)) ys) (filter (λ p. not (p == x)) ys)) < suc (length ys)) (sym (ne_eqb y x ne)) (omega (arith, rest)))
    (cases_eq y x)

-- rising numbers that are among others are no more than those
pub no_more : (xs ys : List ℕ) → AreRising xs → ((n : ℕ) → is_among n xs ≡ true → is_among n ys ≡ true) → length xs ≤ length ys
no_more [] ys rise among = omega arith
no_more (x ∷ xs) ys rise among =
    let rest = no_more xs (filter (λ p. not (p == x)) ys) (rest_rising x xs rise) (λ n h.
    any_without ys x n
    ∙ ap (λ b. b && not (x == n)) (among n (or_right (x == n) (is_among n xs) h))
    ∙ ap not (ne_eqb x n (λ e. let less = above_first x xs rise n (contains_from n xs h) in absurd (omega (arith, less, e))))) in
    let less = fewer x ys (among x (ap (λ b. b || is_among x xs) (eq-eqb x x refl))) in
    omega (arith, rest, less)
  where
    or_right : (a b : Bool) → b ≡ true → (a || b) ≡ true
    or_right true b e = refl
    or_right false b e = e

pub no_more_pins : (xs ys : List ℕ) → AreRising xs → ((n : ℕ) → is_among n xs ≡ is_among n ys) → length xs ≤ length ys
no_more_pins xs ys rise same = no_more xs ys rise (λ n h. sym (same n) ∙ h)
