-- Messages, element by element.
use Rattle.std.proofs.Common.{◌≡◌, ◌≢◌, ℕ, zero, suc, ◌-◌, ◌<◌, ◌≤◌, List, [], ◌∷◌, ◌++◌, length, replicate, refl, ap, ◌∙◌, sym, subst, arith, append_assoc, append-nil, length-append, lit<, lit≤, ◌⊎◌, inl, inr}
use Rattle.std.specs.List.{AllByRecursion}
use Rattle.std.specs.Fmt.{decimal}
use Rattle.std.proofs.lemmas.List.{append_cancel_left, length-replicate}
use Rattle.stow_model.specs.Message.{Message}
use Rattle.stow_model.specs.Message as message
use Rattle.stow_model.specs.declared.stream_fault.StreamFault.{StreamFault}
use Rattle.stow_model.specs.declared.stream_fault.StreamFault.TheVariants.{InvalidArrayLength, ExpectedBulk, InvalidBulkLength, BulkNotEnded, InlineTooLong}
use Rattle.stow_model.specs.Wire.{array_line, null_line, bulk, bulks, FitsBulk, IsArray, Spells, IsBegun, IsFaulty, IsPlace}
use Rattle.std.proofs.lemmas.Fmt.{decimal_nonempty}
use Rattle.stow_model.proofs.Spelling.{line_once, bulk_once, IsDigit, array_of}
use Rattle.stow_model.proofs.Numbers.{all_append, digits_of_decimal}
use Rattle.stow_model.specs.Parts.{ends, IsBegunNumber, IsStuckNumber, IsBegunBulk, IsNoBulk, IsStuckBulk, IsBulkPlace}

-- ---- lists of words

bulks-append : (a b : List (List ℕ)) → bulks (a ++ b) ≡ bulks a ++ bulks b
bulks-append [] b = refl
bulks-append (w ∷ a) b = ap (λ t. bulk w ++ t) (bulks-append a b) ∙ sym (append_assoc (bulk w) (bulks a) (bulks b))

blanks : ℕ → List (List ℕ)
blanks n = replicate n []

length-blanks : (n : ℕ) → length (blanks n) ≡ n
unfolding blanks
length-blanks n = length-replicate n []

all-blanks : (n : ℕ) → AllByRecursion FitsBulk (blanks n)
unfolding blanks
all-blanks zero = tt
all-blanks (suc n) = (lit≤ tt, all-blanks n)

-- after fewer words than there are comes a word
next_bulk : (words ws : List (List ℕ)) (x y : List ℕ) → AllByRecursion FitsBulk words → AllByRecursion FitsBulk ws → length words < length ws → bulks words ++ x ≡ bulks ws ++ y → (word : List ℕ) × (later : List ℕ) × FitsBulk word × (x ≡ bulk word ++ later)
next_bulk words [] x y fits fits' fewer e = absurd (omega arith)
next_bulk [] (w ∷ ws) x y fits fits' fewer e = (w, bulks ws ++ y, fits'.0, e ∙ append_assoc (bulk w) (bulks ws) y)
next_bulk (v ∷ words) (w ∷ ws) x y fits fits' fewer e =
    let first = bulk_once v w (bulks words ++ x) (bulks ws ++ y) fits.0 fits'.0 (sym (append_assoc (bulk v) (bulks words) x) ∙ e ∙ append_assoc (bulk w) (bulks ws) y) in
    next_bulk words ws x y fits.1 fits'.1 (omega arith) first.1

-- ---- messages

unfoldable pub IsNoMessage : List ℕ → Type 0
IsNoMessage bytes = (m : Message) (spelling more y : List ℕ) → Spells m spelling → bytes ++ more ≡ spelling ++ y → ⊥

pub faulty : (front more : List ℕ) (byte : ℕ) (fault : StreamFault) → IsBegun front → IsNoMessage (front ++ byte ∷ []) → IsPlace front fault → IsFaulty (front ++ byte ∷ more) fault
unfolding IsNoMessage
faulty front more byte fault begun stuck place = record {
  none = λ m spelling later s e. stuck m spelling more later s (append_assoc front (byte ∷ []) more ∙ e);
  front = front;
  byte = byte;
  more = more;
  at = refl;
  begun = begun;
  stuck = λ (m, next, later, s). stuck m ((front ++ byte ∷ []) ++ next ∷ later) (next ∷ later) [] s (sym (append-nil _));
  place = place;
}

-- every spelling in array form has a line with a count, or is the null line
FirstLine : List ℕ → Type 0
FirstLine spelling = ((n : ℕ) × (n ≤ 1024) × (tail : List ℕ) × (spelling ≡ array_line n ++ tail)) ⊎ (spelling ≡ null_line)

array_first : (m : Message) (spelling : List ℕ) → IsArray m spelling → FirstLine spelling
unfolding FirstLine
array_first (message.Words words) spelling s = inl (length words, s.1, bulks words, s.3)
array_first message.Quoted spelling s = absurd s
array_first message.Blank spelling s = elim s [
  | inl none ↦ inl (0, omega arith, [], none ∙ sym (append-nil (array_line 0)))
  | inr null ↦ inr null
]

spelled_line : (m : Message) (spelling x y : List ℕ) → Spells m spelling → 42 ∷ x ≡ spelling ++ y → FirstLine spelling
spelled_line m spelling x y s e = array_first m spelling (array_of m spelling x y s e)

pub array_spells : (m : Message) (spelling : List ℕ) → IsArray m spelling → Spells m spelling
unfolding Spells
array_spells m spelling s = inl s

-- every count has a message
of_count : (n : ℕ) → n ≤ 1024 → (m : Message) × (tail : List ℕ) × Spells m (array_line n ++ tail)
of_count zero le = (message.Blank, [], array_spells message.Blank _ (inl (append-nil (array_line 0))))
of_count (suc n) le =
    let len : length (blanks (suc n)) ≡ suc n = length-blanks (suc n) in
    let words : List (List ℕ) = blanks (suc n) in
    (message.Words words, bulks words, array_spells (message.Words words) _ (omega arith, omega arith, all-blanks (suc n), ap (λ k. array_line k ++ bulks (blanks (suc n))) (sym len)))

pub none_begun : IsBegun []
none_begun = (message.Blank, 42, ends 0, array_spells message.Blank _ (inl refl))

first_is_digit : (ds x y : List ℕ) (b : ℕ) → AllByRecursion IsDigit ds → 0 < length ds → ds ++ x ≡ b ∷ y → IsDigit b
first_is_digit [] x y b all some e = absurd (omega arith)
first_is_digit (d ∷ ds) x y b all some e = let same : d ≡ b = cc in subst IsDigit same all.0

-- no line with a count has a minus sign
no_minus : (n : ℕ) (x y : List ℕ) → n ≤ 1024 → 42 ∷ 45 ∷ x ≡ array_line n ++ y → ⊥
no_minus n x y le e =
    let line : decimal n ++ 13 ∷ 10 ∷ y ≡ 45 ∷ x = sym (append_assoc (decimal n) (13 ∷ 10 ∷ []) y) ∙ cc (e) in
    let digit : IsDigit 45 = first_is_digit (decimal n) (13 ∷ 10 ∷ y) x 45 (digits_of_decimal n (omega arith)) (decimal_nonempty n (omega arith)) line in
    omega (arith, digit.0)

pub number_begun : (after : List ℕ) → IsBegunNumber 1024 after → IsBegun (42 ∷ after)
number_begun after (n, next, more, le, e) =
    let c = of_count n le in
    (c.0, next, more ++ c.1, subst (Spells c.0) (ap (λ t. 42 ∷ t) (ap (λ t. t ++ c.1) (sym e) ∙ append_assoc after (next ∷ more) c.1)) c.2)

-- what does not begin with a minus sign is no null line
not_null : (front more later y : List ℕ) (byte : ℕ) (after : List ℕ) → after ≡ front ++ byte ∷ later → ((z : List ℕ) → after ≡ 45 ∷ z → ⊥) → 42 ∷ ((front ++ byte ∷ []) ++ more) ≡ null_line ++ y → ⊥
not_null [] more later y byte after at plus e = let minus : byte ≡ 45 = cc in plus later (at ∙ ap (λ b. b ∷ later) minus)
not_null (b ∷ front) more later y byte after at plus e = let minus : b ≡ 45 = cc in plus (front ++ byte ∷ later) (at ∙ ap (λ b. b ∷ (front ++ byte ∷ later)) minus)

pub number_faulty : (after : List ℕ) → ((z : List ℕ) → after ≡ 45 ∷ z → ⊥) → IsStuckNumber 1024 after → IsFaulty (42 ∷ after) InvalidArrayLength
unfolding IsNoMessage IsPlace FirstLine
number_faulty after plus s = subst (λ t. IsFaulty t InvalidArrayLength) (ap (λ t. 42 ∷ t) (sym s.at))
    (faulty (42 ∷ s.front) s.more s.byte InvalidArrayLength (number_begun s.front s.begun)
    (λ m spelling more y sp e. elim (spelled_line m spelling _ y sp e) [
      | inl l ↦
          let h : 42 ∷ ((s.front ++ s.byte ∷ []) ++ more) ≡ 42 ∷ ((ends l.0 ++ l.2) ++ y) = e ∙ ap (λ t. t ++ y) l.3 in
          let tail : (s.front ++ s.byte ∷ []) ++ more ≡ (ends l.0 ++ l.2) ++ y = cc in
          s.stuck l.0 more (l.2 ++ y) l.1 (tail ∙ append_assoc (ends l.0) l.2 y)
      | inr null ↦ not_null s.front more s.more y s.byte after s.at plus (e ∙ ap (λ t. t ++ y) null)
    ])
    (s.front, s.in_line, refl))

-- ---- the null line

pub null_begun : (part tail : List ℕ) (next : ℕ) → null_line ≡ part ++ next ∷ tail → IsBegun part
null_begun part tail next e = (message.Blank, next, tail, array_spells message.Blank _ (inr (sym e)))

-- a byte that the null line doesn't have there
pub null_faulty : (part tail more : List ℕ) (next byte : ℕ) → null_line ≡ (42 ∷ 45 ∷ part) ++ next ∷ tail → AllByRecursion (λ b. b ≢ 10) part → byte ≢ next → IsFaulty ((42 ∷ 45 ∷ part) ++ byte ∷ more) InvalidArrayLength
unfolding IsNoMessage IsPlace FirstLine
null_faulty part tail more next byte is line differ =
    faulty (42 ∷ 45 ∷ part) more byte InvalidArrayLength (null_begun (42 ∷ 45 ∷ part) tail next is)
    (λ m spelling later y s e. elim (spelled_line m spelling _ y s e) [
      | inl l ↦ no_minus l.0 ((part ++ byte ∷ []) ++ later) (l.2 ++ y) l.1 (e ∙ ap (λ t. t ++ y) l.3 ∙ append_assoc (array_line l.0) l.2 y)
      | inr null ↦
          let meet : (42 ∷ 45 ∷ part) ++ byte ∷ later ≡ (42 ∷ 45 ∷ part) ++ next ∷ (tail ++ y) = sym (append_assoc (42 ∷ 45 ∷ part) (byte ∷ []) later) ∙ e ∙ ap (λ t. t ++ y) (null ∙ is) ∙ append_assoc (42 ∷ 45 ∷ part) (next ∷ tail) y in
          let heads : byte ∷ later ≡ next ∷ (tail ++ y) = append_cancel_left (42 ∷ 45 ∷ part) (byte ∷ later) (next ∷ (tail ++ y)) meet in
          differ cc
    ])
    (45 ∷ part, ((λ bad. omega arith), line), refl)

pub null_whole : Spells message.Blank null_line
null_whole = array_spells message.Blank _ (inr refl)

-- ---- in an array

pub array_begun : (n : ℕ) (words : List (List ℕ)) (part : List ℕ) → n ≤ 1024 → length words < n → AllByRecursion FitsBulk words → IsBegunBulk part → IsBegun (array_line n ++ (bulks words ++ part))
array_begun n words part few fewer fits (word, next, more, fit, e) =
    let rest : List (List ℕ) = blanks (n - length words - 1) in
    let ws : List (List ℕ) = words ++ word ∷ rest in
    let len : length (words ++ word ∷ blanks (n - length words - 1)) ≡ n = let l = length-blanks (n - length words - 1) in rw (length-append words (word ∷ blanks (n - length words - 1))) (omega arith) in
    let all : bulks (words ++ word ∷ blanks (n - length words - 1)) ≡ (bulks words ++ part) ++ next ∷ (more ++ bulks rest) =
    bulks-append words (word ∷ rest) ∙ ap (λ t. bulks words ++ (t ++ bulks rest)) (sym e) ∙ ap (λ t. bulks words ++ t) (append_assoc part (next ∷ more) (bulks rest)) ∙ sym (append_assoc (bulks words) part (next ∷ (more ++ bulks rest))) in (
      message.Words ws,
      next,
      more ++ bulks rest,
      array_spells (message.Words ws) _ (
        omega arith,
        omega arith,
        all_append FitsBulk words (word ∷ rest) fits (fit, all-blanks (n - length words - 1)),
        append_assoc (array_line n) (bulks words ++ part) (next ∷ (more ++ bulks rest)) ∙ (λ i. array_line (sym len i) ++ sym all i),
      ),
    )

at_place : (n : ℕ) (words : List (List ℕ)) (front : List ℕ) (fault : StreamFault) → n ≤ 1024 → length words < n → AllByRecursion FitsBulk words → IsBulkPlace front fault → IsPlace (array_line n ++ (bulks words ++ front)) fault
unfolding IsPlace
at_place n words front InvalidArrayLength few fewer fits p = absurd p
at_place n words front InlineTooLong few fewer fits p = absurd p
at_place n words front ExpectedBulk few fewer fits p = (n, few, words, fewer, fits, ap (λ t. array_line n ++ (bulks words ++ t)) p)
at_place n words front InvalidBulkLength few fewer fits p = (front, p, (n, few, words, fewer, fits, refl))
at_place n words front BulkNotEnded few fewer fits p = (
  p.0,
  p.1,
  elim p.2 [
    | inl word ↦ inl (n, few, words, fewer, fits, ap (λ t. array_line n ++ (bulks words ++ t)) word)
    | inr cr ↦ inr (n, few, words, fewer, fits, ap (λ t. array_line n ++ (bulks words ++ t)) cr)
  ],
)

no_array : (n : ℕ) (words : List (List ℕ)) (part : List ℕ) → n ≤ 1024 → length words < n → AllByRecursion FitsBulk words → IsNoBulk part → (m : Message) (spelling more y : List ℕ) → IsArray m spelling → (array_line n ++ (bulks words ++ part)) ++ more ≡ spelling ++ y → ⊥
no_array n words part few fewer fits stuck (message.Words ws) spelling more y s e =
    let lines = line_once 42 n (length ws) ((bulks words ++ part) ++ more) (bulks ws ++ y) (omega arith) (omega (arith, s.1))
    (sym (append_assoc (array_line n) (bulks words ++ part) more) ∙ e ∙ ap (λ t. t ++ y) s.3 ∙ append_assoc (array_line (length ws)) (bulks ws) y) in
    let next = next_bulk words ws (part ++ more) y fits s.2 (let same : n ≡ length ws = lines.0 in omega arith) (sym (append_assoc (bulks words) part more) ∙ lines.1) in
    stuck next.0 more next.1 next.2 next.3
no_array n words part few fewer fits stuck message.Quoted spelling more y s e = absurd s
no_array n words part few fewer fits stuck message.Blank spelling more y s e = elim s [
  | inl blank ↦
      let lines = line_once 42 n 0 ((bulks words ++ part) ++ more) y (omega arith) (lit< tt) (sym (append_assoc (array_line n) (bulks words ++ part) more) ∙ e ∙ ap (λ t. t ++ y) blank) in
      let none : n ≡ 0 = lines.0 in omega arith
  | inr null ↦ no_minus n (49 ∷ 13 ∷ 10 ∷ y) ((bulks words ++ part) ++ more) few (sym (ap (λ t. t ++ y) null) ∙ sym e ∙ append_assoc (array_line n) (bulks words ++ part) more)
]

no_message : (n : ℕ) (words : List (List ℕ)) (part : List ℕ) → n ≤ 1024 → length words < n → AllByRecursion FitsBulk words → IsNoBulk part → IsNoMessage (array_line n ++ (bulks words ++ part))
unfolding IsNoMessage
no_message n words part few fewer fits stuck m spelling more y s e = no_array n words part few fewer fits stuck m spelling more y (array_of m spelling _ y s e) e

pub array_faulty : (n : ℕ) (words : List (List ℕ)) (rest : List ℕ) (fault : StreamFault) → n ≤ 1024 → length words < n → AllByRecursion FitsBulk words → IsStuckBulk rest fault → IsFaulty (array_line n ++ (bulks words ++ rest)) fault
array_faulty n words rest fault few fewer fits s =
    let front : List ℕ = array_line n ++ (bulks words ++ s.front) in
    let at : front ++ s.byte ∷ s.more ≡ array_line n ++ (bulks words ++ rest) = append_assoc (array_line n) (bulks words ++ s.front) (s.byte ∷ s.more) ∙ ap (λ t. array_line n ++ t) (append_assoc (bulks words) s.front (s.byte ∷ s.more) ∙ ap (λ t. bulks words ++ t) (sym s.at)) in
    let part : array_line n ++ (bulks words ++ (s.front ++ s.byte ∷ [])) ≡ front ++ s.byte ∷ [] = ap (λ t. array_line n ++ t) (sym (append_assoc (bulks words) s.front (s.byte ∷ []))) ∙ sym (append_assoc (array_line n) (bulks words ++ s.front) (s.byte ∷ [])) in
    subst (λ t. IsFaulty t fault) at
    (faulty front s.more s.byte fault (array_begun n words s.front few fewer fits s.begun)
    (subst IsNoMessage part (no_message n words (s.front ++ s.byte ∷ []) few fewer fits s.stuck))
    (at_place n words s.front fault few fewer fits s.place))

pub array_whole : (n : ℕ) (words : List (List ℕ)) → 0 < n → n ≤ 1024 → length words ≡ n → AllByRecursion FitsBulk words → Spells (message.Words words) (array_line n ++ bulks words)
array_whole n words some few len fits = array_spells (message.Words words) _ (omega arith, omega arith, fits, ap (λ k. array_line k ++ bulks words) (sym len))

pub blank_whole : Spells message.Blank (array_line 0)
blank_whole = array_spells message.Blank _ (inl refl)

pub one_more_word : (words : List (List ℕ)) (word rest left after : List ℕ) → rest ≡ bulks words ++ left → left ≡ bulk word ++ after → rest ≡ bulks (words ++ word ∷ []) ++ after
one_more_word words word rest left after e f = e ∙ ap (λ t. bulks words ++ t) f ∙ sym (append_assoc (bulks words) (bulk word) after) ∙ ap (λ t. t ++ after) (ap (λ t. bulks words ++ t) (sym (append-nil (bulk word))) ∙ sym (bulks-append words (word ∷ [])))

pub one_more_fits : (words : List (List ℕ)) (word : List ℕ) → AllByRecursion FitsBulk words → FitsBulk word → AllByRecursion FitsBulk (words ++ word ∷ [])
one_more_fits words word fits fit = all_append FitsBulk words (word ∷ []) fits (fit, tt)
