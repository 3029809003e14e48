-- Texts that stand for bytes.
use Rattle.std.proofs.Common.{◌≡◌, ◌≢◌, ℕ, ◌<◌, ◌≤◌, ◌==◌, cond, List, [], ◌∷◌, ◌++◌, length, get_or, Option, Some, None, Result, Ok, Err, refl, ap, ◌∙◌, sym, subst, arith, append_assoc, append-nil, length-append, inl, inr}
use Rattle.std.specs.Prelude.{MatchResult}
use denote.Ref.{Bor}
use Rattle.std.specs.Option.{unwrap_or}
use Rattle.std.specs.Result.{result_ok}
use Rattle.hex.specs.Hex.{decode_of, decode_sized}
use Rattle.hex.specs.declared.error.FromHexError.{FromHexError}
use Rattle.hex.proofs.HexLemmas.{decode_of-ok, decode_sized-twice}
use Rattle.stow_script.specs.Text.{IsHexadecimal, IsEscape, IsByteText, StandsFor}
use Rattle.stow_script.specs.Read.{HasFront, HasNoFront, IsFront, StandsForNone}

-- ---- hexadecimal digits

-- two digits make a byte
pub two_digits : (digits : List ℕ) (byte : ℕ) → decode_of digits ≡ Ok (byte ∷ []) → length digits ≡ 2
two_digits digits byte e = let ok = decode_of-ok digits (byte ∷ []) e in omega (arith, ok.2)

-- fronts of one length are the same
same_fronts : (a x b y : List ℕ) → length a ≡ length b → a ++ x ≡ b ++ y → (a ≡ b) × (x ≡ y)
same_fronts [] x [] y n e = (refl, e)
same_fronts [] x (f ∷ b) y n e = absurd (omega arith)
same_fronts (d ∷ a) x [] y n e = absurd (omega arith)
same_fronts (d ∷ a) x (f ∷ b) y n e =
    let heads : d ≡ f = cc in
    let tails : a ++ x ≡ b ++ y = cc in
    let more = same_fronts a x b y (omega arith) tails in
    ((λ i. heads i ∷ more.0 i), more.1)

pub too_short : (text : List ℕ) → length text < 2 → HasNoFront IsHexadecimal text
too_short text few byte rest h =
    let n = two_digits h.0 byte h.2 in
    let all = ap length h.1 in
    let parts = length-append h.0 rest in
    omega arith

pub no_digits : (text front rest : List ℕ) → length front ≡ 2 → text ≡ front ++ rest → ((byte : ℕ) → decode_of front ≡ Ok (byte ∷ []) → ⊥) → HasNoFront IsHexadecimal text
no_digits text front rest two e none byte after h =
    let n = two_digits h.0 byte h.2 in
    let same = same_fronts h.0 after front rest (omega arith) (sym h.1 ∙ e) in
    none byte (ap decode_of (sym same.0) ∙ h.2)

pub refused : (digits out : List ℕ) (r : Result (Unit {0}) FromHexError) → length digits ≡ 2
    → MatchResult (decode_sized digits 1) (λ bytes. (r ≡ Ok tt) × (out ≡ bytes)) (λ e. r ≡ Err e)
    → None ≡ result_ok r → (byte : ℕ) → decode_of digits ≡ Ok (byte ∷ []) → ⊥
refused digits out r two h none byte e =
    let same : decode_sized digits 1 ≡ Ok (byte ∷ []) = decode_sized-twice digits 1 (omega arith) ∙ e in
    let given = rw same at h in
    let ok : r ≡ Ok tt = given.0 in
    let bad : ◌≡◌ {A = Option (Unit {0})} None (Some tt) = none ∙ ap (result_ok {E = FromHexError}) ok in
    cc bad

-- ---- one escape

abbrev only_byte : Result (List ℕ) FromHexError → List ℕ → Option (ℕ × List ℕ)
only_byte (Ok (byte ∷ [])) rest = Some (byte, rest)
only_byte _ rest = None

abbrev of_digits : List ℕ → Option (ℕ × List ℕ)
of_digits (high ∷ low ∷ rest) = only_byte (decode_of (high ∷ low ∷ [])) rest
of_digits _ = None

-- what an escape at the front is
abbrev escape_of : List ℕ → Option (ℕ × List ℕ)
escape_of [] = None
escape_of (kind ∷ rest) =
    cond (kind == 114) (Some (13, rest))
    (cond (kind == 110) (Some (10, rest))
    (cond (kind == 92) (Some (92, rest))
    (cond (kind == 120) (of_digits rest) None)))

of_two : (digits rest : List ℕ) (byte : ℕ) → length digits ≡ 2 → decode_of digits ≡ Ok (byte ∷ []) → ◌≡◌ {A = Option (ℕ × List ℕ)} (of_digits (digits ++ rest)) (Some (byte, rest))
of_two [] rest byte two e = absurd (omega arith)
of_two (high ∷ []) rest byte two e = absurd (omega arith)
of_two (high ∷ low ∷ []) rest byte two e = ap (λ r. only_byte r rest) e
of_two (high ∷ low ∷ more ∷ digits) rest byte two e = absurd (omega arith)

escape_is : (escape rest : List ℕ) (byte : ℕ) → IsEscape escape byte → ◌≡◌ {A = Option (ℕ × List ℕ)} (escape_of (escape ++ rest)) (Some (byte, rest))
escape_is escape rest byte (inl r) = rw (r.0, r.1) refl
escape_is escape rest byte (inr (inl n)) = rw (n.0, n.1) refl
escape_is escape rest byte (inr (inr (inl b))) = rw (b.0, b.1) refl
escape_is escape rest byte (inr (inr (inr x))) = rw x.1 (of_two x.0 rest byte (two_digits x.0 byte x.2) x.2)

begun_is : (text rest : List ℕ) (byte : ℕ) → HasFront IsEscape text byte rest → ◌≡◌ {A = Option (ℕ × List ℕ)} (escape_of text) (Some (byte, rest))
begun_is text rest byte h = ap escape_of h.1 ∙ escape_is h.0 rest byte h.2

-- a text begins with one escape at most
one_escape : (text a b : List ℕ) (x y : ℕ) → HasFront IsEscape text x a → HasFront IsEscape text y b → (x ≡ y) × (a ≡ b)
one_escape text a b x y g h =
    let e : ◌≡◌ {A = Option (ℕ × List ℕ)} (Some (x, a)) (Some (y, b)) = sym (begun_is text a x g) ∙ begun_is text b y h in
    (ap (λ (o : Option (ℕ × List ℕ)). (unwrap_or o (0, [])).0) e, ap (λ (o : Option (ℕ × List ℕ)). (unwrap_or o (0, [])).1) e)

-- the escape of two digits
pub by_digits : (text rest : List ℕ) (kind : ℕ) (r : Option (ℕ × Bor (List ℕ))) → text ≡ kind ∷ rest → kind ≡ 120 → IsFront IsHexadecimal rest r → IsFront IsEscape text r
by_digits text rest kind (Some found) e x h = (120 ∷ h.0, e ∙ (λ i. x i ∷ h.1 i), inr (inr (inr (h.0, refl, h.2))))
by_digits text rest kind None e x h = λ byte after begun. other byte after begun.0 (sym (ap (λ k. k ∷ rest) x) ∙ sym e ∙ begun.1) begun.2
  where
    head : (k : ℕ) (after : List ℕ) → 120 ∷ rest ≡ k ∷ after → 120 ≡ k
    head k after same = ap (λ (t : List ℕ). get_or t 0 0) same

    other : (byte : ℕ) (after escape : List ℕ) → 120 ∷ rest ≡ escape ++ after → IsEscape escape byte → ⊥
    other byte after escape same (inl r) = let bad = head 114 after (same ∙ ap (λ t. t ++ after) r.0) in omega arith
    other byte after escape same (inr (inl n)) = let bad = head 110 after (same ∙ ap (λ t. t ++ after) n.0) in omega arith
    other byte after escape same (inr (inr (inl b))) = let bad = head 92 after (same ∙ ap (λ t. t ++ after) b.0) in omega arith
    other byte after escape same (inr (inr (inr d))) = let at : 120 ∷ rest ≡ 120 ∷ (d.0 ++ after) = same ∙ ap (λ t. t ++ after) d.1 in let tail : rest ≡ d.0 ++ after = cc in h byte after (d.0, tail, d.2)

-- ---- the first byte of a text

pub one_byte : (text a b : List ℕ) (x y : ℕ) → HasFront IsByteText text x a → HasFront IsByteText text y b → (x ≡ y) × (a ≡ b)
one_byte text a b x y (front, e, inl plain) (other, f, inl same) =
    let whole : x ∷ a ≡ y ∷ b = sym (e ∙ ap (λ t. t ++ a) plain.0) ∙ f ∙ ap (λ t. t ++ b) same.0 in
    let head : x ≡ y = cc in
    let tail : a ≡ b = cc in
    (head, tail)
one_byte text a b x y (front, e, inl plain) (other, f, inr escaped) =
    let whole : x ∷ a ≡ 92 ∷ (escaped.0 ++ b) = sym (e ∙ ap (λ t. t ++ a) plain.0) ∙ f ∙ ap (λ t. t ++ b) escaped.1 in
    absurd (plain.3 cc)
one_byte text a b x y (front, e, inr escaped) (other, f, inl plain) =
    let whole : y ∷ b ≡ 92 ∷ (escaped.0 ++ a) = sym (f ∙ ap (λ t. t ++ b) plain.0) ∙ e ∙ ap (λ t. t ++ a) escaped.1 in
    absurd (plain.3 cc)
one_byte text a b x y (front, e, inr escaped) (other, f, inr same) =
    let whole : 92 ∷ (escaped.0 ++ a) ≡ 92 ∷ (same.0 ++ b) = sym (e ∙ ap (λ t. t ++ a) escaped.1) ∙ f ∙ ap (λ t. t ++ b) same.1 in
    let tails : escaped.0 ++ a ≡ same.0 ++ b = cc in
    one_escape (escaped.0 ++ a) a b x y (escaped.0, refl, escaped.2) (same.0, tails, same.2)

-- the byte of an escape
pub by_escape : (text rest : List ℕ) (first : ℕ) (r : Option (ℕ × Bor (List ℕ))) → text ≡ first ∷ rest → first ≡ 92 → IsFront IsEscape rest r → IsFront IsByteText text r
by_escape text rest first (Some found) e slash h = (92 ∷ h.0, e ∙ (λ i. slash i ∷ h.1 i), inr (h.0, refl, h.2))
by_escape text rest first None e slash h = other
  where
    at : 92 ∷ rest ≡ text
    at = sym (ap (λ k. k ∷ rest) slash) ∙ sym e

    other : (byte : ℕ) (after : List ℕ) → HasFront IsByteText text byte after → ⊥
    other byte after (front, f, inl plain) = let whole : 92 ∷ rest ≡ byte ∷ after = at ∙ f ∙ ap (λ t. t ++ after) plain.0 in plain.3 cc
    other byte after (front, f, inr escaped) =
        let whole : 92 ∷ rest ≡ 92 ∷ (escaped.0 ++ after) = at ∙ f ∙ ap (λ t. t ++ after) escaped.1 in
        let tails : rest ≡ escaped.0 ++ after = cc in
        h byte after (escaped.0, tails, escaped.2)

pub by_itself : (text rest : List ℕ) (first : ℕ) → text ≡ first ∷ rest → 32 ≤ first → first ≤ 126 → first ≢ 92 → HasFront IsByteText text first rest
by_itself text rest first e low high plain = (first ∷ [], e, inl (refl, low, high, plain))

-- ---- the bytes so far

-- what is left decides what the text stands for
pub record IsSoFar (text bytes left : List ℕ) : Type 0 where
  pub holds : (later : List ℕ) → StandsFor left later → StandsFor text (bytes ++ later)
  pub sole : (all : List ℕ) → StandsFor text all → (later : List ℕ) × (all ≡ bytes ++ later) × StandsFor left later

pub so_far_more : (text bytes left : List ℕ) (byte : ℕ) (after : List ℕ) → 0 < length left → IsSoFar text bytes left → HasFront IsByteText left byte after → IsSoFar text (bytes ++ byte ∷ []) after
so_far_more text bytes left byte after some so_far begun = record {
  holds = λ later h. subst (StandsFor text) (sym (append_assoc bytes (byte ∷ []) later)) (so_far.holds (byte ∷ later) (begun.0, after, begun.1, begun.2, h));
  sole = λ all h.
      let first = so_far.sole all h in
      let next = split first.0 first.2 in
      (next.0, first.1 ∙ ap (λ t. bytes ++ t) next.1 ∙ sym (append_assoc bytes (byte ∷ []) next.0), next.2);
}
  where
    split : (all : List ℕ) → StandsFor left all → (later : List ℕ) × (all ≡ byte ∷ later) × StandsFor after later
    split [] h = let n : length left ≡ 0 = ap length h in absurd (omega arith)
    split (b ∷ later) h = let same = one_byte left h.1 after b byte (h.0, h.2, h.3) begun in (later, ap (λ c. c ∷ later) same.0, subst (λ t. StandsFor t later) same.1 h.4)

pub so_far_all : (text bytes left : List ℕ) → left ≡ [] → IsSoFar text bytes left → StandsFor text bytes
so_far_all text bytes left none so_far = subst (StandsFor text) (append-nil bytes) (so_far.holds [] none)

pub so_far_bad : (text bytes left : List ℕ) → 0 < length left → IsSoFar text bytes left → HasNoFront IsByteText left → StandsForNone text
so_far_bad text bytes left some so_far bad all h = let rest = so_far.sole all h in other rest.0 rest.2
  where
    other : (later : List ℕ) → StandsFor left later → ⊥
    other [] h = let n : length left ≡ 0 = ap length h in omega arith
    other (b ∷ later) h = bad b h.1 (h.0, h.2, h.3)
