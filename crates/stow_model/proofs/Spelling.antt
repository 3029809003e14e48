-- No spelling of a message begins another.
use Rattle.std.proofs.Common.{◌≡◌, ◌≢◌, ℕ, ◌<◌, ◌≤◌, ◌^◌, List, [], ◌∷◌, ◌++◌, length, reverse, refl, ap, ◌∙◌, sym, subst, arith, append_assoc, lit<, ◌⊎◌, inl, inr, true, false}
use Rattle.std.specs.List.{AllByRecursion}
use Rattle.std.proofs.lemmas.List.{append_cancel_right, reverse-append}
use Rattle.std.specs.Fmt.{decimal}
use Rattle.std.proofs.lemmas.Fmt.{decimal_injective, digits_decimal}
use Rattle.std.proofs.lemmas.Str.Parse.{IsDigitsTest, IsNumeralModel, numerals_by_value}
use Rattle.std.specs.Str.Parse.{digits_value}
use Rattle.stow_model.specs.Message.{Message}
use Rattle.stow_model.specs.Message as message
use Rattle.stow_model.specs.Wire.{number_line, array_line, null_line, bulk_line, bulk, bulks, FitsBulk, IsArray, message_of_text, text_of_line, begins_array, IsInline, Spells, Splits, SpelledOnce, SplitsOnce, TakenAreFirst, FaultStays}

-- ---- lists

pub until_once : (c : ℕ) (a b x y : List ℕ) → AllByRecursion (λ d. d ≢ c) a → AllByRecursion (λ d. d ≢ c) b → a ++ c ∷ x ≡ b ++ c ∷ y → (a ≡ b) × (x ≡ y)
until_once c [] [] x y p q e = (refl, cc)
until_once c [] (d ∷ b) x y p q e = absurd (q.0 (cc))
until_once c (d ∷ a) [] x y p q e = absurd (p.0 (cc))
until_once c (d ∷ a) (d' ∷ b) x y p q e = let rest = until_once c a b x y p.1 q.1 (cc) in (cc (rest.0), rest.1)

pub split_once : (a b x y : List ℕ) → length a ≡ length b → a ++ x ≡ b ++ y → (a ≡ b) × (x ≡ y)
split_once [] [] x y same e = (refl, e)
split_once [] (d ∷ b) x y same e = absurd (omega arith)
split_once (d ∷ a) [] x y same e = absurd (omega arith)
split_once (d ∷ a) (d' ∷ b) x y same e = let rest = split_once a b x y (omega arith) (cc) in (cc (rest.0), rest.1)

-- ---- lines

abbrev pub IsDigit : ℕ → Type 0
IsDigit c = (48 ≤ c) × (c ≤ 57)

tells : IsDigitsTest (AllByRecursion IsDigit)
tells = record { empty = tt; parts = λ c cs h. h; more = λ c cs d h. (d, h) }

pub digits_own : IsNumeralModel (AllByRecursion IsDigit) (digits_value 10)
digits_own = numerals_by_value (AllByRecursion IsDigit) tells

no_cr : (ds : List ℕ) → AllByRecursion IsDigit ds → AllByRecursion (λ d. d ≢ 13) ds
no_cr [] h = tt
no_cr (d ∷ ds) h = (λ e. omega arith, no_cr ds h.1)

pub decimal-no_cr : (n : ℕ) → n < 2 ^ 64 → AllByRecursion (λ d. d ≢ 13) (decimal n)
decimal-no_cr n small = no_cr (decimal n) (digits_decimal digits_own n small)

pub line_once : (sign n m : ℕ) (x y : List ℕ) → n < 2 ^ 64 → m < 2 ^ 64 → number_line sign n ++ x ≡ number_line sign m ++ y → (n ≡ m) × (x ≡ y)
line_once sign n m x y small small' e =
    let here : decimal n ++ 13 ∷ 10 ∷ x ≡ decimal m ++ 13 ∷ 10 ∷ y = sym (append_assoc (decimal n) (13 ∷ 10 ∷ []) x) ∙ cc (e) ∙ append_assoc (decimal m) (13 ∷ 10 ∷ []) y in
    let parts = until_once 13 (decimal n) (decimal m) (10 ∷ x) (10 ∷ y) (decimal-no_cr n small) (decimal-no_cr m small') here in
    (decimal_injective n m small small' parts.0, cc (parts.1))

-- ---- words

pub bulk_once : (v w x y : List ℕ) → FitsBulk v → FitsBulk w → bulk v ++ x ≡ bulk w ++ y → (v ≡ w) × (x ≡ y)
bulk_once v w x y fits fits' e =
    let here : bulk_line (length v) ++ ((v ++ 13 ∷ 10 ∷ []) ++ x) ≡ bulk_line (length w) ++ ((w ++ 13 ∷ 10 ∷ []) ++ y) = sym (append_assoc (bulk_line (length v)) (v ++ 13 ∷ 10 ∷ []) x) ∙ e ∙ append_assoc (bulk_line (length w)) (w ++ 13 ∷ 10 ∷ []) y in
    let lines = line_once 36 (length v) (length w) ((v ++ 13 ∷ 10 ∷ []) ++ x) ((w ++ 13 ∷ 10 ∷ []) ++ y) (omega arith) (omega arith) here in
    let parts = split_once v w (13 ∷ 10 ∷ x) (13 ∷ 10 ∷ y) lines.0 (sym (append_assoc v (13 ∷ 10 ∷ []) x) ∙ lines.1 ∙ append_assoc w (13 ∷ 10 ∷ []) y) in
    (parts.0, cc (parts.1))

pub bulks_once : (vs ws : List (List ℕ)) (x y : List ℕ) → length vs ≡ length ws → AllByRecursion FitsBulk vs → AllByRecursion FitsBulk ws → bulks vs ++ x ≡ bulks ws ++ y → (vs ≡ ws) × (x ≡ y)
bulks_once [] [] x y same fits fits' e = (refl, e)
bulks_once [] (w ∷ ws) x y same fits fits' e = absurd (omega arith)
bulks_once (v ∷ vs) [] x y same fits fits' e = absurd (omega arith)
bulks_once (v ∷ vs) (w ∷ ws) x y same fits fits' e =
    let first = bulk_once v w (bulks vs ++ x) (bulks ws ++ y) fits.0 fits'.0 (sym (append_assoc (bulk v) (bulks vs) x) ∙ e ∙ append_assoc (bulk w) (bulks ws) y) in
    let rest = bulks_once vs ws x y (omega arith) fits.1 fits'.1 first.1 in
    (cc (first.0, rest.0), rest.1)

-- ---- messages

-- a spelling in array form is a line, told by what stands before its CR, and what comes after the line
record Lined (bytes head after : List ℕ) : Type 0 where
  one : AllByRecursion (λ d. d ≢ 13) head
  is : bytes ≡ 42 ∷ (head ++ 13 ∷ 10 ∷ after)

lined_once : (a b head head' after after' x y : List ℕ) → Lined a head after → Lined b head' after' → a ++ x ≡ b ++ y → (head ≡ head') × (after ++ x ≡ after' ++ y)
lined_once a b head head' after after' x y l l' e =
    let here : (head ++ 13 ∷ 10 ∷ after) ++ x ≡ (head' ++ 13 ∷ 10 ∷ after') ++ y = cc (ap (λ c. c ++ x) l.is, ap (λ c. c ++ y) l'.is, e) in
    let parts = until_once 13 head head' (10 ∷ (after ++ x)) (10 ∷ (after' ++ y)) l.one l'.one (sym (append_assoc head (13 ∷ 10 ∷ after) x) ∙ here ∙ append_assoc head' (13 ∷ 10 ∷ after') y) in
    (parts.0, cc (parts.1))

words_lined : (words : List (List ℕ)) (bytes : List ℕ) → length words < 2 ^ 64 → bytes ≡ array_line (length words) ++ bulks words → Lined bytes (decimal (length words)) (bulks words)
words_lined words bytes small e = record { one = decimal-no_cr (length words) small; is = e ∙ ap (λ t. 42 ∷ t) (append_assoc (decimal (length words)) (13 ∷ 10 ∷ []) (bulks words)) }

-- a blank is one of two lines
record BlankLined (bytes : List ℕ) : Type 0 where
  head : List ℕ
  lined : Lined bytes head []
  is : (head ≡ decimal 0) ⊎ (head ≡ 45 ∷ 49 ∷ [])

blank_lined : (bytes : List ℕ) → (bytes ≡ array_line 0) ⊎ (bytes ≡ null_line) → BlankLined bytes
blank_lined bytes e = elim e [
  | inl zero ↦ record { head = decimal 0; lined = record { one = decimal-no_cr 0 (lit< tt); is = zero }; is = inl refl }
  | inr minus ↦ record { head = 45 ∷ 49 ∷ []; lined = record { one = (λ bad. omega arith, (λ bad. omega arith, tt)); is = minus }; is = inr refl }
]

-- words are counted by no blank's line
not_blank : (n : ℕ) (head : List ℕ) → n < 2 ^ 64 → 0 < n → (head ≡ decimal 0) ⊎ (head ≡ 45 ∷ 49 ∷ []) → decimal n ≡ head → ⊥
not_blank n head small some is e = elim is [
  | inl zero ↦ let none : n ≡ 0 = decimal_injective n 0 small (lit< tt) (e ∙ zero) in omega arith
  | inr minus ↦ let digits : AllByRecursion IsDigit (45 ∷ 49 ∷ []) = subst (AllByRecursion IsDigit) (e ∙ minus) (digits_decimal digits_own n small) in omega (arith, digits.0.0)
]

array_once : (m m' : Message) (a b x y : List ℕ) → IsArray m a → IsArray m' b → a ++ x ≡ b ++ y → (m ≡ m') × (x ≡ y)
array_once (message.Words vs) (message.Words ws) a b x y s s' e =
    let parts = lined_once a b _ _ _ _ x y (words_lined vs a (omega (arith, s.1)) s.3) (words_lined ws b (omega (arith, s'.1)) s'.3) e in
    let same : length vs ≡ length ws = decimal_injective (length vs) (length ws) (omega (arith, s.1)) (omega (arith, s'.1)) parts.0 in
    let words = bulks_once vs ws x y same s.2 s'.2 parts.1 in
    (ap message.Words words.0, words.1)
array_once (message.Words vs) message.Blank a b x y s s' e =
    let l = blank_lined b s' in
    absurd (not_blank (length vs) l.head (omega (arith, s.1)) s.0 l.is (lined_once a b _ _ _ _ x y (words_lined vs a (omega (arith, s.1)) s.3) l.lined e).0)
array_once (message.Words vs) message.Quoted a b x y s s' e = absurd s'
array_once message.Quoted m' a b x y s s' e = absurd s
array_once message.Blank (message.Words ws) a b x y s s' e =
    let l = blank_lined a s in
    absurd (not_blank (length ws) l.head (omega (arith, s'.1)) s'.0 l.is (sym (lined_once a b _ _ _ _ x y l.lined (words_lined ws b (omega (arith, s'.1)) s'.3) e).0))
array_once message.Blank message.Quoted a b x y s s' e = absurd s'
array_once message.Blank message.Blank a b x y s s' e = (refl, (lined_once a b _ _ _ _ x y (blank_lined a s).lined (blank_lined b s').lined e).1)

inline_once : (m m' : Message) (a b x y : List ℕ) → IsInline m a → IsInline m' b → a ++ x ≡ b ++ y → (m ≡ m') × (x ≡ y)
inline_once m m' a b x y (line, (all, short, plain), at, is) (line', (all', short', plain'), at', is') e =
    let meet : line ++ 10 ∷ x ≡ line' ++ 10 ∷ y = sym (append_assoc line (10 ∷ []) x) ∙ ap (λ t. t ++ x) (sym at) ∙ e ∙ ap (λ t. t ++ y) at' ∙ append_assoc line' (10 ∷ []) y in
    let parts = until_once 10 line line' x y all all' meet in
    (is ∙ ap (λ t. message_of_text (text_of_line t)) parts.0 ∙ sym is', parts.1)

-- ---- the two forms

-- a spelling in array form begins with `*`
pub array_sign : (m : Message) (bytes : List ℕ) → IsArray m bytes → (after : List ℕ) × (bytes ≡ 42 ∷ after)
array_sign (message.Words words) bytes s = (_, s.3)
array_sign message.Quoted bytes s = absurd s
array_sign message.Blank bytes s = elim s [ inl none ↦ (_, none) | inr null ↦ (_, null) ]

-- and one in inline form doesn't
line_sign : (line x y : List ℕ) → begins_array line ≡ false → line ++ 10 ∷ x ≡ 42 ∷ y → ⊥
line_sign [] x y plain e = let bad : ◌≡◌ {A = ℕ} 10 42 = cc in omega arith
line_sign (b ∷ line) x y plain e =
    let star : b ≡ 42 = cc in
    let bad : begins_array (42 ∷ line) ≡ false = subst (λ c. begins_array (c ∷ line) ≡ false) star plain in
    true_is_not_false bad
  where
    true_is_not_false : true ≡ false → ⊥
    true_is_not_false e = cc

pub inline_sign : (m : Message) (bytes x y : List ℕ) → IsInline m bytes → bytes ++ x ≡ 42 ∷ y → ⊥
inline_sign m bytes x y (line, (all, short, plain), at, is) e =
    line_sign line x y plain (sym (append_assoc line (10 ∷ []) x) ∙ ap (λ t. t ++ x) (sym at) ∙ e)

array_or_inline : (m m' : Message) (a b x y : List ℕ) → IsArray m a → IsInline m' b → a ++ x ≡ b ++ y → ⊥
array_or_inline m m' a b x y s s' e =
    let (after, at) = array_sign m a s in
    inline_sign m' b y (after ++ x) s' (sym e ∙ ap (λ t. t ++ x) at)

-- a spelling that begins with `*` is in array form
pub array_of : (m : Message) (spelling x y : List ℕ) → Spells m spelling → 42 ∷ x ≡ spelling ++ y → IsArray m spelling
unfolding Spells
array_of m spelling x y s e = elim s [ inl array ↦ array | inr inline ↦ absurd (inline_sign m spelling y x inline (sym e)) ]

pub spelled_once : (m m' : Message) (a b x y : List ℕ) → Spells m a → Spells m' b → a ++ x ≡ b ++ y → (m ≡ m') × (x ≡ y)
unfolding Spells
spelled_once m m' a b x y s s' e = elim s [
  | inl array ↦ elim s' [
    | inl array' ↦ array_once m m' a b x y array array' e
    | inr inline' ↦ absurd (array_or_inline m m' a b x y array inline' e)
  ]
  | inr inline ↦ elim s' [
    | inl array' ↦ absurd (array_or_inline m' m b a y x array' inline (sym e))
    | inr inline' ↦ inline_once m m' a b x y inline inline' e
  ]
]

pub spelled_once_lem : SpelledOnce
spelled_once_lem m m' a b x y s s' e =
    let parts = spelled_once m m' a b x y s s' e in
    (parts.0, append_cancel_right a b x (e ∙ ap (λ t. b ++ t) (sym parts.1)))

-- ---- streams

pub splits_once_lem : SplitsOnce
splits_once_lem stream [] [] rest rest' s s' = (refl, sym s.0 ∙ s'.0)
splits_once_lem stream [] (m ∷ ms) rest rest' s s' = absurd (s.1 m s'.0 s'.1 s'.2 (sym s.0 ∙ s'.3))
splits_once_lem stream (m ∷ ms) [] rest rest' s s' = absurd (s'.1 m s.0 s.1 s.2 (sym s'.0 ∙ s.3))
splits_once_lem stream (m ∷ ms) (m' ∷ ms') rest rest' s s' =
    let first = spelled_once m m' s.0 s'.0 s.1 s'.1 s.2 s'.2 (sym s.3 ∙ s'.3) in
    let later = splits_once_lem s'.1 ms ms' rest rest' (subst (λ t. Splits t ms rest) first.1 s.4) s'.4 in
    (cc (first.0, later.0), later.1)

next_is_first : (m : Message) (messages : List Message) (spelling more rest : List ℕ) → Spells m spelling → Splits (spelling ++ more) messages rest → (later : List Message) × Splits more later rest × (messages ≡ m ∷ later)
next_is_first m [] spelling more rest s split = absurd (split.1 m spelling more s (sym split.0))
next_is_first m (m' ∷ later) spelling more rest s split =
    let first = spelled_once m m' spelling split.0 more split.1 s split.2 split.3 in
    (later, subst (λ t. Splits t later rest) (sym first.1) split.4, ap (λ n. n ∷ later) (sym first.0))

pub taken_are_first_lem : TakenAreFirst
taken_are_first_lem [] messages front more rest s split = (messages, subst (λ t. Splits (t ++ more) messages rest) s split, refl)
taken_are_first_lem (m ∷ taken) messages front more rest s split =
    let before = taken_are_first_lem taken messages s.0 (s.1 ++ more) rest s.2 (subst (λ t. Splits t messages rest) (ap (λ t. t ++ more) s.4 ∙ append_assoc s.0 s.1 more) split) in
    let next = next_is_first m before.0 s.1 more rest s.3 before.1 in
    (next.0, next.1, before.2 ∙ ap (λ t. reverse taken ++ t) next.2 ∙ sym (append_assoc (reverse taken) (m ∷ []) next.0) ∙ ap (λ t. t ++ next.0) (sym (reverse-append (m ∷ []) taken)))

-- ---- faults

pub one_begins : (a b x y : List ℕ) → a ++ x ≡ b ++ y → ((z : List ℕ) × (a ≡ b ++ z)) ⊎ ((c : ℕ) × (z : List ℕ) × (b ≡ a ++ c ∷ z))
one_begins a [] x y e = inl (a, refl)
one_begins [] (c ∷ b) x y e = inr (c, b, refl)
one_begins (d ∷ a) (d' ∷ b) x y e =
    elim (one_begins a b x y (cc)) [
      | inl h ↦ inl (h.0, let tail : a ≡ b ++ h.0 = h.1 in cc)
      | inr h ↦ inr (h.0, h.1, let tail : b ≡ a ++ h.0 ∷ h.1 = h.2 in cc)
    ]

pub fault_stays_lem : FaultStays
fault_stays_lem bytes more fault f =
    let at : bytes ++ more ≡ f.front ++ f.byte ∷ (f.more ++ more) = ap (λ t. t ++ more) f.at ∙ append_assoc f.front (f.byte ∷ f.more) more in
    record {
      none = λ m spelling after s e.
          let both : (f.front ++ f.byte ∷ []) ++ (f.more ++ more) ≡ spelling ++ after = append_assoc f.front (f.byte ∷ []) (f.more ++ more) ∙ sym at ∙ e in
          elim (one_begins (f.front ++ f.byte ∷ []) spelling (f.more ++ more) after both) [
            | inl h ↦ f.none m spelling (h.0 ++ f.more) s (f.at ∙ sym (append_assoc f.front (f.byte ∷ []) f.more) ∙ ap (λ t. t ++ f.more) h.1 ∙ append_assoc spelling h.0 f.more)
            | inr h ↦ f.stuck (m, h.0, h.1, subst (Spells m) h.2 s)
          ];
      front = f.front;
      byte = f.byte;
      more = f.more ++ more;
      at = at;
      begun = f.begun;
      stuck = f.stuck;
      place = f.place;
    }
