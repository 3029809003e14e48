-- Numbers in a line, digit by digit.
use Rattle.std.proofs.Common.{◌≡◌, ◌≢◌, ℕ, ◌+◌, ◌-◌, ◌*◌, ◌/◌, ◌%◌, ◌<◌, ◌≤◌, ◌^◌, List, [], ◌∷◌, ◌++◌, length, take, get_or, refl, ap, ◌∙◌, sym, subst, arith, append_assoc, append-nil, lit<, ◌⊎◌, inl, inr}
use Rattle.std.specs.List.{AllByRecursion}
use Rattle.std.specs.Fmt.{decimal}
use Rattle.std.specs.List.{IsFirstAndRest}
use Rattle.std.proofs.lemmas.Fmt.{decimal_injective, digits_decimal, decimal_digit, decimal_step, decimal_nonempty, first_decimal, digits_value-decimal}
use Rattle.std.proofs.lemmas.Str.Parse.{digits_value-take-le}
use Rattle.std.specs.Str.Parse.{digits_value}
use Rattle.std.proofs.lemmas.List.{append_cancel_left, take-append-drop, length-take-le, take_more}
use Rattle.std.proofs.Common.{drop, add-one, drop-cons, length-append}
use Rattle.std.proofs.Math.Seq.{take-append_seam}
use Rattle.std.proofs.Common.{zero, suc, Bool, true, false}
use Rattle.stow_model.proofs.Spelling.{IsDigit, digits_own, one_begins}
use Rattle.stow_model.specs.Parts.{ends, IsBegunNumber, IsNoNumber, IsStuckNumber, IsSoFar}

pub so_far_none : (limit : ℕ) → IsSoFar limit [] 0
unfolding IsSoFar
so_far_none limit = inl (refl, refl)

pub so_far_begun : (limit : ℕ) (front : List ℕ) (value : ℕ) → IsSoFar limit front value → IsBegunNumber limit front
unfolding IsSoFar
so_far_begun limit front value h = elim h [
  | inl none ↦ (0, 48, 13 ∷ 10 ∷ [], omega arith, ap (λ t. t ++ 48 ∷ 13 ∷ 10 ∷ []) none.0 ∙ ap (λ t. t ++ 13 ∷ 10 ∷ []) (sym (decimal_digit 0 (lit< tt))))
  | inr some ↦ (value, 13, 10 ∷ [], some.1, ap (λ t. t ++ 13 ∷ 10 ∷ []) some.0)
]

no_lf : (ds : List ℕ) → AllByRecursion IsDigit ds → AllByRecursion (λ d. d ≢ 10) ds
no_lf [] h = tt
no_lf (d ∷ ds) h = (λ e. omega arith, no_lf ds h.1)

pub digits_of_decimal : (n : ℕ) → n < 2 ^ 64 → AllByRecursion IsDigit (decimal n)
digits_of_decimal n small = digits_decimal digits_own n small

pub so_far_in_line : (limit : ℕ) (front : List ℕ) (value : ℕ) → limit < 10000000 → IsSoFar limit front value → AllByRecursion (λ b. b ≢ 10) front
unfolding IsSoFar
so_far_in_line limit front value small h = elim h [
  | inl none ↦ subst (AllByRecursion (λ b. b ≢ 10)) (sym none.0) tt
  | inr some ↦ subst (AllByRecursion (λ b. b ≢ 10)) (sym some.0) (no_lf _ (digits_of_decimal value (omega (arith, some.1))))
]

-- one more digit
pub one_more_digit : (limit : ℕ) (front : List ℕ) (value byte : ℕ) → limit < 1000000000 → IsSoFar limit front value → 48 ≤ byte → byte ≤ 57 → (0 < length front → value ≢ 0) → value * 10 + (byte - 48) ≤ limit → IsSoFar limit (front ++ byte ∷ []) (value * 10 + (byte - 48))
unfolding IsSoFar
one_more_digit limit front value byte small h low high some fits =
    let d : ℕ = byte - 48 in
    elim h [
      | inl none ↦
          let v : value ≡ 0 = none.1 in
          let n : value * 10 + (byte - 48) ≡ byte - 48 = omega arith in
          let b : 48 + (byte - 48) ≡ byte = omega arith in
          let below : byte - 48 < 10 = omega arith in
          inr (ap (λ t. t ++ byte ∷ []) none.0 ∙ ap (λ c. c ∷ []) (sym b) ∙ sym (decimal_digit (byte - 48) below) ∙ ap decimal (sym n), fits)
      | inr one ↦
          let v : value < 2 ^ 64 = omega (arith, one.1) in
          let long : 0 < length front = subst (λ t. 0 < length t) (sym one.0) (decimal_nonempty value v) in
          let nonzero : value ≢ 0 = some long in
          let n : ℕ = value * 10 + (byte - 48) in
          let ten : 10 ≤ value * 10 + (byte - 48) = omega arith in
          let fit : value * 10 + (byte - 48) < 2 ^ 64 = omega arith in
          let div : (value * 10 + (byte - 48)) / 10 ≡ value = omega arith in
          let rem : 48 + (value * 10 + (byte - 48)) % 10 ≡ byte = omega arith in
          let to : decimal (value * 10 + (byte - 48)) ≡ decimal value ++ byte ∷ [] = decimal_step (value * 10 + (byte - 48)) ten fit ∙ (λ i. decimal (div i) ++ rem i ∷ []) in
          inr (ap (λ t. t ++ byte ∷ []) one.0 ∙ sym to, fits)
    ]

-- ---- what no number begins with

all_split : (a b : List ℕ) → AllByRecursion IsDigit (a ++ b) → AllByRecursion IsDigit b
all_split [] b h = h
all_split (x ∷ a) b h = all_split a b h.1

record GoesOn (n : ℕ) (ds x : List ℕ) : Type 0 where
  pub next : ℕ
  pub later : List ℕ
  pub more : List ℕ
  pub digit : IsDigit next
  pub number : decimal n ≡ ds ++ next ∷ later
  pub rest : x ≡ next ∷ more

-- digits at the front of a number's line are all of the number, or it goes on with a digit
lined_up : (ds x tail : List ℕ) (n : ℕ) → AllByRecursion IsDigit ds → n < 2 ^ 64 → ds ++ x ≡ decimal n ++ 13 ∷ tail → ((ds ≡ decimal n) × (x ≡ 13 ∷ tail)) ⊎ GoesOn n ds x
lined_up ds x tail n digits small e =
    elim (one_begins ds (decimal n) x (13 ∷ tail) e) [
      | inl whole ↦ inl (all_of ds (decimal n) whole.0 x tail digits whole.1 e)
      | inr part ↦ inr (record {
        next = part.0;
        later = part.1;
        more = part.1 ++ 13 ∷ tail;
        digit = (all_split ds (part.0 ∷ part.1) (subst (AllByRecursion IsDigit) part.2 (digits_of_decimal n small))).0;
        number = part.2;
        rest = append_cancel_left ds x (part.0 ∷ (part.1 ++ 13 ∷ tail)) (e ∙ ap (λ t. t ++ 13 ∷ tail) part.2 ∙ append_assoc ds (part.0 ∷ part.1) (13 ∷ tail));
      })
    ]
  where
    all_of : (ds num z x tail : List ℕ) → AllByRecursion IsDigit ds → ds ≡ num ++ z → ds ++ x ≡ num ++ 13 ∷ tail → (ds ≡ num) × (x ≡ 13 ∷ tail)
    all_of ds num [] x tail digits w e = let same : ds ≡ num = w ∙ append-nil num in (same, append_cancel_left num x (13 ∷ tail) (ap (λ t. t ++ x) (sym same) ∙ e))
    all_of ds num (c ∷ z) x tail digits w e =
        let digit : IsDigit c = (all_split num (c ∷ z) (subst (AllByRecursion IsDigit) w digits)).0 in
        let meet : c ∷ (z ++ x) ≡ 13 ∷ tail = append_cancel_left num (c ∷ (z ++ x)) (13 ∷ tail) (sym (append_assoc num (c ∷ z) x) ∙ ap (λ t. t ++ x) (sym w) ∙ e) in
        let is : c ≡ 13 = cc in
        absurd (omega (arith, digit.0))

ended : (n : ℕ) (y : List ℕ) → ends n ++ y ≡ decimal n ++ 13 ∷ 10 ∷ y
ended n y = append_assoc (decimal n) (13 ∷ 10 ∷ []) y

-- a number has no zero in front
no_zero : (n b : ℕ) (z : List ℕ) → n < 2 ^ 64 → decimal n ≡ 48 ∷ b ∷ z → ⊥
no_zero zero b z small e = let one : 48 ∷ [] ≡ 48 ∷ b ∷ z = sym (decimal_digit 0 (lit< tt)) ∙ e in let bad : [] ≡ b ∷ z = cc in cc
no_zero (suc n) b z small e = let first : 48 < get_or (decimal (suc n)) 0 0 = first_decimal (suc n) (omega arith) small in let same : get_or (decimal (suc n)) 0 0 ≡ 48 = ap (λ t. get_or t 0 0) e in omega arith

value_of_decimal : (n : ℕ) → n < 2 ^ 64 → digits_value 10 (decimal n) ≡ n
value_of_decimal n small = digits_value-decimal digits_own n small

-- a number is at least what its first digits are
front_le : (a n : ℕ) (more y : List ℕ) → a < 2 ^ 64 → n < 2 ^ 64 → decimal a ++ more ≡ ends n ++ y → a ≤ n
front_le a n more y small small' e =
    elim (lined_up (decimal a) more (10 ∷ y) n (digits_of_decimal a small) small' (e ∙ ended n y)) [
      | inl all ↦ let same : a ≡ n = decimal_injective a n small small' all.0 in omega arith
      | inr on ↦
          let front : take (length (decimal a)) (decimal n) ≡ decimal a = ap (take (length (decimal a))) on.number ∙ take-append_seam (decimal a) (on.next ∷ on.later) in
          let le : digits_value 10 (take (length (decimal a)) (decimal n)) ≤ digits_value 10 (decimal n) = digits_value-take-le 10 (decimal n) (length (decimal a)) (omega arith) in
          let P : ℕ → ℕ → Type 0 = λ x z. x ≤ z in
          subst (λ x. P x n) (ap (digits_value 10) front ∙ value_of_decimal a small) (subst (λ z. P (digits_value 10 (take (length (decimal a)) (decimal n))) z) (value_of_decimal n small') le)
    ]

pub too_large : (limit next : ℕ) (front : List ℕ) → next < 2 ^ 64 → limit < 10000000 → limit < next → front ≡ decimal next → IsNoNumber limit front
too_large limit next front small few large e = λ n more y le h. let b : next ≤ n = front_le next n more y small (omega arith) (ap (λ t. t ++ more) (sym e) ∙ h) in omega arith

-- no digit after a zero
pub after_zero : (limit byte : ℕ) → limit < 10000000 → 48 ≤ byte → byte ≤ 57 → IsNoNumber limit (48 ∷ byte ∷ [])
after_zero limit byte few low high = λ n more y le h.
    let digits : AllByRecursion IsDigit (48 ∷ byte ∷ []) = ((omega arith, omega arith), ((low, high), tt)) in
    elim (lined_up (48 ∷ byte ∷ []) more (10 ∷ y) n digits (omega arith) (h ∙ ended n y)) [
      | inl all ↦ no_zero n byte [] (omega arith) (sym all.0)
      | inr on ↦ no_zero n byte (on.next ∷ on.later) (omega arith) on.number
    ]

-- neither a digit nor CR
pub no_digit : (limit value byte : ℕ) → limit < 10000000 → value ≤ limit → (48 ≤ byte → byte ≤ 57 → ⊥) → byte ≢ 13 → IsNoNumber limit (decimal value ++ byte ∷ [])
no_digit limit value byte few fits other no_cr = λ n more y le h.
    elim (lined_up (decimal value) (byte ∷ more) (10 ∷ y) n (digits_of_decimal value (omega arith)) (omega arith) (sym (append_assoc (decimal value) (byte ∷ []) more) ∙ h ∙ ended n y)) [
      | inl all ↦ let x : byte ∷ more ≡ 13 ∷ 10 ∷ y = all.1 in no_cr cc
      | inr on ↦ let x : byte ∷ more ≡ on.next ∷ on.more = on.rest in let same : byte ≡ on.next = cc in other (omega (arith, on.digit.0)) (omega (arith, on.digit.1))
    ]

pub no_first_digit : (limit byte : ℕ) → limit < 10000000 → (48 ≤ byte → byte ≤ 57 → ⊥) → IsNoNumber limit (byte ∷ [])
no_first_digit limit byte few other = λ n more y le h.
    elim (lined_up [] (byte ∷ more) (10 ∷ y) n tt (omega arith) (h ∙ ended n y)) [
      | inl all ↦ let some : 0 < length (decimal n) = decimal_nonempty n (omega arith) in let none : 0 ≡ length (decimal n) = ap length all.0 in omega arith
      | inr on ↦ let x : byte ∷ more ≡ on.next ∷ on.more = on.rest in let same : byte ≡ on.next = cc in other (omega (arith, on.digit.0)) (omega (arith, on.digit.1))
    ]

-- CR without LF
pub no_line_feed : (limit value byte : ℕ) → limit < 10000000 → value ≤ limit → byte ≢ 10 → IsNoNumber limit ((decimal value ++ 13 ∷ []) ++ byte ∷ [])
no_line_feed limit value byte few fits no_lf = λ n more y le h.
    elim (lined_up (decimal value) (13 ∷ byte ∷ more) (10 ∷ y) n (digits_of_decimal value (omega arith)) (omega arith)
    (sym (append_assoc (decimal value) (13 ∷ []) (byte ∷ more)) ∙ sym (append_assoc (decimal value ++ 13 ∷ []) (byte ∷ []) more) ∙ h ∙ ended n y)) [
      | inl all ↦ let x : 13 ∷ byte ∷ more ≡ 13 ∷ 10 ∷ y = all.1 in no_lf cc
      | inr on ↦ let x : 13 ∷ byte ∷ more ≡ on.next ∷ on.more = on.rest in let same : 13 ≡ on.next = cc in absurd (omega (arith, on.digit.0))
    ]

-- ---- the end of the digits

some_so_far : (limit : ℕ) (front : List ℕ) (value : ℕ) → IsSoFar limit front value → 0 < length front → (front ≡ decimal value) × (value ≤ limit)
unfolding IsSoFar
some_so_far limit front value h long = elim h [
  | inl none ↦ absurd (let e : length front ≡ 0 = ap length none.0 in omega arith)
  | inr some ↦ some
]

stuck_none : (limit : ℕ) (front after : List ℕ) (value byte : ℕ) → limit < 10000000 → IsSoFar limit front value → front ≡ [] → (48 ≤ byte → byte ≤ 57 → ⊥) → IsStuckNumber limit (front ++ byte ∷ after)
stuck_none limit front after value byte few h none other = record {
  front = front;
  byte = byte;
  more = after;
  at = refl;
  in_line = so_far_in_line limit front value few h;
  begun = so_far_begun limit front value h;
  stuck = subst (λ t. IsNoNumber limit (t ++ byte ∷ [])) (sym none) (no_first_digit limit byte few other);
}

stuck_some : (limit : ℕ) (front after : List ℕ) (value byte : ℕ) → limit < 10000000 → IsSoFar limit front value → 0 < length front → (48 ≤ byte → byte ≤ 57 → ⊥) → byte ≢ 13 → IsStuckNumber limit (front ++ byte ∷ after)
stuck_some limit front after value byte few h long other no_cr =
    let some = some_so_far limit front value h long in
    record {
      front = front;
      byte = byte;
      more = after;
      at = refl;
      in_line = so_far_in_line limit front value few h;
      begun = so_far_begun limit front value h;
      stuck = subst (λ t. IsNoNumber limit (t ++ byte ∷ [])) (sym some.0) (no_digit limit value byte few some.1 other no_cr);
    }

pub all_append : {X : Type 0} (P : X → Type 0) (a b : List X) → AllByRecursion P a → AllByRecursion P b → AllByRecursion P (a ++ b)
all_append P [] b p q = q
all_append P (x ∷ a) b p q = (p.0, all_append P a b p.1 q)

cr_begun : (limit : ℕ) (front : List ℕ) (value : ℕ) → IsSoFar limit front value → 0 < length front → IsBegunNumber limit (front ++ 13 ∷ [])
cr_begun limit front value h long = let some = some_so_far limit front value h long in (value, 10, [], some.1, append_assoc front (13 ∷ []) (10 ∷ []) ∙ ap (λ t. t ++ 13 ∷ 10 ∷ []) some.0)

stuck_cr : (limit : ℕ) (front after : List ℕ) (value byte : ℕ) → limit < 10000000 → IsSoFar limit front value → 0 < length front → byte ≢ 10 → IsStuckNumber limit (front ++ 13 ∷ byte ∷ after)
stuck_cr limit front after value byte few h long no_lf =
    let some = some_so_far limit front value h long in
    record {
      front = front ++ 13 ∷ [];
      byte = byte;
      more = after;
      at = sym (append_assoc front (13 ∷ []) (byte ∷ after));
      in_line = all_append (λ x. x ≢ 10) front (13 ∷ []) (so_far_in_line limit front value few h) ((λ e. omega arith), tt);
      begun = cr_begun limit front value h long;
      stuck = subst (λ t. IsNoNumber limit ((t ++ 13 ∷ []) ++ byte ∷ [])) (sym some.0) (no_line_feed limit value byte few some.1 no_lf);
    }

-- what is told at the byte after the digits
pub at_end_stuck : (some : Bool) (limit : ℕ) (front after : List ℕ) (value byte : ℕ) → limit < 10000000 → IsSoFar limit front value → (some ≡ true → 0 < length front) → (some ≡ false → front ≡ []) → (48 ≤ byte → byte ≤ 57 → ⊥) → (some ≡ true → byte ≢ 13) → IsStuckNumber limit (front ++ byte ∷ after)
at_end_stuck true limit front after value byte few h long none other no_cr = stuck_some limit front after value byte few h (long refl) other (no_cr refl)
at_end_stuck false limit front after value byte few h long none other no_cr = stuck_none limit front after value byte few h (none refl) other

pub at_end_more : (limit : ℕ) (front after : List ℕ) (value byte : ℕ) → IsSoFar limit front value → 0 < length front → byte ≡ 13 → after ≡ [] → IsBegunNumber limit (front ++ byte ∷ after)
at_end_more limit front after value byte h long cr none = subst (λ t. IsBegunNumber limit (front ++ t)) (λ i. sym cr i ∷ sym none i) (cr_begun limit front value h long)

pub at_end_stuck_line : (limit : ℕ) (front after later : List ℕ) (value byte lf : ℕ) → limit < 10000000 → IsSoFar limit front value → 0 < length front → byte ≡ 13 → after ≡ lf ∷ later → lf ≢ 10 → IsStuckNumber limit (front ++ byte ∷ after)
at_end_stuck_line limit front after later value byte lf few h long cr more no_lf = subst (λ t. IsStuckNumber limit (front ++ t)) (λ i. sym cr i ∷ sym more i) (stuck_cr limit front later value lf few h long no_lf)

pub at_end_number : (limit : ℕ) (front after later : List ℕ) (value byte lf : ℕ) → IsSoFar limit front value → 0 < length front → byte ≡ 13 → after ≡ lf ∷ later → lf ≡ 10 → (value ≤ limit) × (front ++ byte ∷ after ≡ ends value ++ later)
at_end_number limit front after later value byte lf h long cr more is =
    let some = some_so_far limit front value h long in
    (some.1, (λ i. some.0 i ++ cr i ∷ more i) ∙ ap (λ x. decimal value ++ 13 ∷ x ∷ later) is ∙ sym (append_assoc (decimal value) (13 ∷ 10 ∷ []) later))

-- ---- the loop over the digits

pub so_far_small : (limit : ℕ) (front : List ℕ) (value : ℕ) → IsSoFar limit front value → value ≤ limit
unfolding IsSoFar
so_far_small limit front value h = elim h [ inl none ↦ let e : value ≡ 0 = none.1 in omega arith | inr some ↦ some.1 ]

pub cut_at : (bytes : List ℕ) (i : ℕ) → i < length bytes → take i bytes ++ get_or bytes i 0 ∷ drop (i + 1) bytes ≡ bytes
cut_at bytes i lt = ap (λ t. take i bytes ++ t) (sym (rw (add-one, drop-cons bytes i 0) refl)) ∙ take-append-drop i bytes

length_take : (bytes : List ℕ) (i : ℕ) → i < length bytes → length (take i bytes) ≡ i
length_take bytes i lt = length-take-le i bytes (omega arith)

pub not_first : (bytes : List ℕ) (i : ℕ) → i < length bytes → 0 < i → 0 < length (take i bytes)
not_first bytes i lt some = let e = length_take bytes i lt in omega arith

pub zero_stuck : (limit : ℕ) (bytes : List ℕ) (i value : ℕ) → limit < 10000000 → i < length bytes → IsSoFar limit (take i bytes) value → 0 < i → value ≡ 0 → 48 ≤ get_or bytes i 0 → get_or bytes i 0 ≤ 57 → IsStuckNumber limit bytes
zero_stuck limit bytes i value few lt h some none low high =
    let byte : ℕ = get_or bytes i 0 in
    let is = some_so_far limit (take i bytes) value h (not_first bytes i lt some) in
    let front : take i bytes ≡ 48 ∷ [] = is.0 ∙ ap decimal none ∙ decimal_digit 0 (lit< tt) in
    record {
      front = take i bytes;
      byte = byte;
      more = drop (i + 1) bytes;
      at = sym (cut_at bytes i lt);
      in_line = so_far_in_line limit (take i bytes) value few h;
      begun = so_far_begun limit (take i bytes) value h;
      stuck = subst (λ t. IsNoNumber limit (t ++ byte ∷ [])) (sym front) (after_zero limit byte few low high);
    }

wider : (limit wide : ℕ) (front : List ℕ) (value : ℕ) → value ≤ wide → IsSoFar limit front value → IsSoFar wide front value
unfolding IsSoFar
wider limit wide front value le h = elim h [ inl none ↦ inl none | inr one ↦ inr (one.0, le) ]

pub large_stuck : (limit : ℕ) (bytes : List ℕ) (i value : ℕ) → limit < 10000000 → i < length bytes → IsSoFar limit (take i bytes) value → (0 < i → value ≢ 0) → 48 ≤ get_or bytes i 0 → get_or bytes i 0 ≤ 57 → limit < value * 10 + (get_or bytes i 0 - 48) → IsStuckNumber limit bytes
large_stuck limit bytes i value few lt h some low high large =
    let byte : ℕ = get_or bytes i 0 in
    let small : value ≤ limit = so_far_small limit (take i bytes) value h in
    let next : ℕ = value * 10 + (byte - 48) in
    let wide : IsSoFar (value * 10 + (get_or bytes i 0 - 48)) (take i bytes) value = wider limit (value * 10 + (get_or bytes i 0 - 48)) (take i bytes) value (omega arith) h in
    let more : (take i bytes ++ byte ∷ [] ≡ decimal (value * 10 + (get_or bytes i 0 - 48))) × (value * 10 + (get_or bytes i 0 - 48) ≤ value * 10 + (get_or bytes i 0 - 48)) =
    some_so_far (value * 10 + (get_or bytes i 0 - 48)) (take i bytes ++ byte ∷ []) (value * 10 + (get_or bytes i 0 - 48))
    (one_more_digit (value * 10 + (get_or bytes i 0 - 48)) (take i bytes) value byte (omega arith) wide low high (λ long. some (at_some bytes i lt long)) (omega arith))
    (long_end (take i bytes) byte) in
    record {
      front = take i bytes;
      byte = byte;
      more = drop (i + 1) bytes;
      at = sym (cut_at bytes i lt);
      in_line = so_far_in_line limit (take i bytes) value few h;
      begun = so_far_begun limit (take i bytes) value h;
      stuck = too_large limit (value * 10 + (get_or bytes i 0 - 48)) (take i bytes ++ byte ∷ []) (omega arith) few large more.0;
    }
  where
    long_end : (front : List ℕ) (byte : ℕ) → 0 < length (front ++ byte ∷ [])
    long_end front byte = rw length-append (omega arith)

    at_some : (bytes : List ℕ) (i : ℕ) → i < length bytes → 0 < length (take i bytes) → 0 < i
    at_some bytes i lt long = let e = length_take bytes i lt in omega arith

pub digit_more : (limit : ℕ) (bytes : List ℕ) (i value : ℕ) → limit < 10000000 → i < length bytes → IsSoFar limit (take i bytes) value → (0 < i → value ≢ 0) → 48 ≤ get_or bytes i 0 → get_or bytes i 0 ≤ 57 → value * 10 + (get_or bytes i 0 - 48) ≤ limit → IsSoFar limit (take (i + 1) bytes) (value * 10 + (get_or bytes i 0 - 48))
digit_more limit bytes i value few lt h some low high fits =
    subst (λ t. IsSoFar limit t (value * 10 + (get_or bytes i 0 - 48))) (sym (take_more bytes i 0 lt))
    (one_more_digit limit (take i bytes) value (get_or bytes i 0) (omega arith) h low high (λ long. some (let e = length_take bytes i lt in omega arith)) fits)

-- ---- slices

pub empty : (bytes : List ℕ) → length bytes ≡ 0 → bytes ≡ []
empty [] e = refl
empty (b ∷ bytes) e = absurd (omega arith)

pub first_and_rest : (bytes : List ℕ) (first : ℕ) (rest : List ℕ) → IsFirstAndRest bytes first rest → bytes ≡ first ∷ rest
first_and_rest bytes first rest h = h.0
