-- A number by its text.
use Rattle.std.proofs.Common.{◌≡◌, ◌≢◌, ◌<◌, ◌≤◌, ◌+◌, ◌-◌, ◌*◌, ◌^◌, ℕ, ℤ, suc, pos, negsuc, Bool, true, false, cond, List, [], ◌∷◌, length, take, get_or, inl, inr, Option, Some, None, refl, ap, ◌∙◌, sym, subst, arith, w64, to_z, of_z, ◌-ℤ◌}
use Rattle.std.specs.Prelude.{◌&&◌, neg_ℤ}
use borrow.Author.Tests.{ne_eqb}
use Rattle.std.specs.Fmt.{decimal, signed_decimal}
use Rattle.std.specs.Int.{IsInRange}
use Rattle.std.specs.Str.{bytes_eq}
use Rattle.std.specs.Str.Parse.{digits_value, signed_digits_value}
use Rattle.std.proofs.lemmas.Bool.{leb-true, le-leb, cases_lt}
use Rattle.std.proofs.lemmas.Fmt.{decimal_injective, decimal_nonempty, first_decimal, decimal_digit, digits_decimal, digits_value-decimal, decimal-digits_value, length-decimal-le}
use Rattle.std.proofs.lemmas.Int.Digits.{digits_value_more}
use Rattle.std.proofs.lemmas.Int.{ints}
use Rattle.std.proofs.lemmas.List.{get_or-take, take_all, length-take-le}
use Rattle.std.proofs.lemmas.Slice.Eq.{bytes_eq-Decides}
use Rattle.std.proofs.lemmas.Str.{digit_value_digit}
use Rattle.std.proofs.lemmas.Str.Parse.{IsNumeralModel, numerals_by_value, tells_by_index, digits_value_short}
use Rattle.stow_model.specs.StowBytes.Limits.{number_limit}
use Rattle.stow_model.specs.NumberText.{is_integer, number_of}
use Rattle.stow_commands.specs.Numbers.{IsMagnitude}

-- ---- digits

abbrev pub AreDigits : List ℕ → Type 0
AreDigits ds = (i : ℕ) → i < length ds → IsInRange 48 57 (get_or ds i 0)

own : IsNumeralModel AreDigits (digits_value 10)
own = numerals_by_value AreDigits tells_by_index

pub one_more : (ds : List ℕ) (i : ℕ) → i < length ds → AreDigits (take i ds) → IsInRange 48 57 (get_or ds i 0) → AreDigits (take (i + 1) ds)
one_more ds i lt h here = λ k below.
    let all : length (take i ds) ≡ i = length-take-le i ds (omega arith) in
    let more : length (take (i + 1) ds) ≡ i + 1 = length-take-le (i + 1) ds (omega arith) in
    subst (IsInRange 48 57) (sym (get_or-take (i + 1) ds k 0 (omega arith))) (at k (omega arith) all)
  where
    at : (k : ℕ) → k < i + 1 → length (take i ds) ≡ i → IsInRange 48 57 (get_or ds k 0)
    at k below all = elim (cases_lt k i) [
      | inl before ↦ subst (IsInRange 48 57) (get_or-take i ds k 0 before) (h k (omega arith))
      | inr last ↦ let same : i ≡ k = omega arith in subst (λ j. IsInRange 48 57 (get_or ds j 0)) same here
    ]

-- a front of fewer than 19 digits leaves room for one more
pub fits : (ds : List ℕ) (i : ℕ) → i < length ds → length ds ≤ 19 → AreDigits (take i ds) → digits_value 10 (take i ds) < 10 ^ 18
fits ds i lt few h = digits_value_short own (take i ds) 18 h (let e = length-take-le i ds (omega arith) in omega arith)

pub next_value : (ds : List ℕ) (i : ℕ) → i < length ds → IsInRange 48 57 (get_or ds i 0) → digits_value 10 (take i ds) * 10 + (get_or ds i 0 - 48) ≡ digits_value 10 (take (i + 1) ds)
next_value ds i lt here = let d = digit_value_digit (get_or ds i 0) here in let e = digits_value_more 10 ds i lt in omega arith

-- ---- which texts are those of numbers

small : (n : ℕ) → n < 10 ^ 19 → n < 2 ^ 64
small n h = omega arith

pub too_short : (ds : List ℕ) → length ds ≡ 0 → IsMagnitude ds None
too_short ds none = λ n few e. let some = decimal_nonempty n (small n few) in let same : length (decimal n) ≡ length ds = ap length e in omega arith

pub too_long : (ds : List ℕ) → 19 < length ds → IsMagnitude ds None
too_long ds long = λ n few e. let short = length-decimal-le 19 n (omega arith) few (small n few) in let same : length (decimal n) ≡ length ds = ap length e in omega arith

pub zero_first : (ds : List ℕ) → get_or ds 0 0 ≡ 48 → 1 < length ds → IsMagnitude ds None
zero_first ds first long = λ n few e. elim (cases_lt 0 n) [
  | inl some ↦ let high = first_decimal n some (small n few) in let same : get_or (decimal n) 0 0 ≡ get_or ds 0 0 = ap (λ t. get_or t 0 0) e in omega arith
  | inr none ↦ let zero : n ≡ 0 = omega arith in let one : length (decimal n) ≡ 1 = ap (λ m. length (decimal m)) zero ∙ ap length (decimal_digit 0 (omega arith)) in let same : length (decimal n) ≡ length ds = ap length e in omega arith
]

pub no_digit : (ds : List ℕ) (i : ℕ) → i < length ds → (IsInRange 48 57 (get_or ds i 0) → ⊥) → IsMagnitude ds None
no_digit ds i lt other = λ n few e. other (subst (λ t. IsInRange 48 57 (get_or t i 0)) e (digits_decimal own n (small n few) i (let same : length (decimal n) ≡ length ds = ap length e in omega arith)))

pub is_magnitude : (ds : List ℕ) (i n : ℕ) → length ds ≤ i → 0 < length ds → length ds ≤ 19 → (get_or ds 0 0 ≡ 48 → length ds ≤ 1) → AreDigits (take i ds) → n ≡ digits_value 10 (take i ds) → IsMagnitude ds (Some n)
is_magnitude ds i n all some few first digits e =
    let whole : take i ds ≡ ds = take_all i ds all in
    let own_digits : AreDigits ds = subst AreDigits whole digits in
    let value : digits_value 10 ds ≡ n = ap (digits_value 10) (sym whole) ∙ sym e in
    let below : digits_value 10 ds < 10 ^ 19 = digits_value_short own ds 19 own_digits few in
    (omega arith, ap decimal (sym value) ∙ decimal-digits_value own ds own_digits some (λ zero. let one = first zero in omega arith) (small _ below))

value_of : (text : List ℕ) (n : ℕ) → IsMagnitude text (Some n) → digits_value 10 text ≡ n
value_of text n is = ap (digits_value 10) (sym is.1) ∙ digits_value-decimal own n (small n is.0)

-- ---- by cases of the test

none_if : {A : Type 0} (b : Bool) (x : A) → (b ≡ true → ⊥) → ◌≡◌ {A = Option A} None (cond b (Some x) None)
none_if true x h = absurd (h refl)
none_if false x h = refl

some_if : {A : Type 0} (b : Bool) (x : A) → b ≡ true → ◌≡◌ {A = Option A} (Some x) (cond b (Some x) None)
some_if true x h = refl
some_if false x h = cc

both : (a b : Bool) → (a && b) ≡ true → (a ≡ true) × (b ≡ true)
both true b e = (refl, e)
both false b e = cc

of_both : (a b : Bool) → a ≡ true → b ≡ true → (a && b) ≡ true
of_both true b e f = f
of_both false b e f = cc

-- ---- with a sign

-- the text of a number of 64 bits
abbrev IsTextOf : List ℕ → ℤ → Type 0
IsTextOf text z = (is_integer z ≡ true) × (signed_decimal z ≡ text)

none_number : (text : List ℕ) → ((z : ℤ) → IsTextOf text z → ⊥) → None ≡ number_of text
unfolding number_of
none_number text h = none_if _ (signed_digits_value 10 text) (λ e.
    let is = both (is_integer (signed_digits_value 10 text)) _ e in
    h (signed_digits_value 10 text) (is.0, (bytes_eq-Decides (signed_decimal (signed_digits_value 10 text)) text).0 is.1))

some_number : (text : List ℕ) (z : ℤ) → IsTextOf text z → signed_digits_value 10 text ≡ z → Some z ≡ number_of text
unfolding number_of
some_number text z is e =
    ap Some (sym e)
    ∙ some_if _ (signed_digits_value 10 text) (of_both _ _
    (ap is_integer e ∙ is.0)
    (ap (λ n. bytes_eq (signed_decimal n) text) e ∙ (bytes_eq-Decides (signed_decimal z) text).1 is.1))

no_text_of : (z : ℤ) → IsTextOf [] z → ⊥
no_text_of (pos n) is = let few : n ≤ number_limit = leb-true n number_limit is.0 in let some = decimal_nonempty n (omega arith) in let none : length (decimal n) ≡ 0 = ap length is.1 in omega arith
no_text_of (negsuc n) is = let e : 45 ∷ decimal (suc n) ≡ [] = is.1 in cc

pub no_text : (text : List ℕ) → length text ≡ 0 → None ≡ number_of text
no_text [] none = none_number [] no_text_of
no_text (b ∷ text) none = absurd (omega arith)

pub below_zero : (text : List ℕ) (n : ℕ) → n ≤ number_limit → IsMagnitude text (Some (suc n)) → Some (negsuc n) ≡ number_of (45 ∷ text)
below_zero text n few is = some_number (45 ∷ text) (negsuc n) (le-leb n number_limit few, ap (λ t. 45 ∷ t) is.1) (ap (λ m. neg_ℤ (pos m)) (value_of text (suc n) is))

plain_value : (text : List ℕ) → get_or text 0 0 ≢ 45 → get_or text 0 0 ≢ 43 → signed_digits_value 10 text ≡ pos (digits_value 10 text)
plain_value text minus plus = rw (ne_eqb (get_or text 0 0) 45 minus, ne_eqb (get_or text 0 0) 43 plus) refl

first_digit : (text : List ℕ) (n : ℕ) → n ≤ number_limit → decimal n ≡ text → IsInRange 48 57 (get_or text 0 0)
first_digit text n few e = subst (λ t. IsInRange 48 57 (get_or t 0 0)) e (digits_decimal own n (omega arith) 0 (decimal_nonempty n (omega arith)))

pub not_below_zero : (text : List ℕ) (n : ℕ) → n ≤ number_limit → IsMagnitude text (Some n) → Some (pos n) ≡ number_of text
not_below_zero text n few is =
    let first = first_digit text n few is.1 in
    some_number text (pos n) (le-leb n number_limit few, is.1) (plain_value text (λ e. omega (arith, first.0)) (λ e. omega (arith, first.0)) ∙ ap pos (value_of text n is))

pub no_number_below_zero : (text : List ℕ) → ((n : ℕ) → n ≤ number_limit → decimal (suc n) ≡ text → ⊥) → None ≡ number_of (45 ∷ text)
no_number_below_zero text h = none_number (45 ∷ text) other
  where
    other : (z : ℤ) → IsTextOf (45 ∷ text) z → ⊥
    other (pos n) is = let few : n ≤ number_limit = leb-true n number_limit is.0 in let first = first_digit (45 ∷ text) n few is.1 in omega (arith, first.0)
    other (negsuc n) is = let e : 45 ∷ decimal (suc n) ≡ 45 ∷ text = is.1 in h n (leb-true n number_limit is.0) cc

pub no_number : (text : List ℕ) → get_or text 0 0 ≢ 45 → ((n : ℕ) → n ≤ number_limit → decimal n ≡ text → ⊥) → None ≡ number_of text
no_number text plain h = none_number text other
  where
    other : (z : ℤ) → IsTextOf text z → ⊥
    other (pos n) is = h n (leb-true n number_limit is.0) is.1
    other (negsuc n) is = plain (ap (λ t. get_or t 0 0) (sym is.1))

-- ---- by the number that the digits make

same_magnitude : (text : List ℕ) (m k : ℕ) → IsMagnitude text (Some m) → k < 2 ^ 64 → decimal k ≡ text → m ≡ k
same_magnitude text m k is few e = decimal_injective m k (small m is.0) few (is.1 ∙ sym e)

pub no_digits_below_zero : (text : List ℕ) → IsMagnitude text None → None ≡ number_of (45 ∷ text)
no_digits_below_zero text none = no_number_below_zero text (λ n few e. none (suc n) (omega arith) e)

pub out_of_range_below_zero : (text : List ℕ) (m : ℕ) → IsMagnitude text (Some m) → (0 < m → number_limit < m - 1) → None ≡ number_of (45 ∷ text)
out_of_range_below_zero text m is far = no_number_below_zero text (λ n few e. let same : m ≡ suc n = same_magnitude text m (suc n) is (omega arith) e in let above : number_limit < m - 1 = far (omega arith) in omega arith)

pub no_digits : (text : List ℕ) → get_or text 0 0 ≢ 45 → IsMagnitude text None → None ≡ number_of text
no_digits text plain none = no_number text plain (λ n few e. none n (omega arith) e)

pub out_of_range : (text : List ℕ) (m : ℕ) → get_or text 0 0 ≢ 45 → IsMagnitude text (Some m) → number_limit < m → None ≡ number_of text
out_of_range text m plain is far = no_number text plain (λ n few e. let same = same_magnitude text m n is (omega arith) e in omega arith)

-- ---- as the code computes it

pub minus_one_less : (n : ℕ) → n ≤ number_limit → to_z w64 (of_z w64 (negsuc 0 -ℤ to_z w64 n)) ≡ negsuc n
minus_one_less n few = omega (arith, ints)

pub as_signed : (n : ℕ) → n ≤ number_limit → to_z w64 n ≡ pos n
as_signed n few = omega (arith, ints)
