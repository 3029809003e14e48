-- What a filter's words tell as marks come and as there are more words.
use Rattle.std.proofs.Common.{◌≡◌, ℕ, zero, suc, ◌+◌, ◌-◌, ◌<◌, ◌≤◌, ◌%◌, ◌^◌, true, List, [], ◌∷◌, ◌++◌, length, get_or, set, refl, sym, ap, subst, ◌∙◌, arith, ⊎_elim, inl, inr, eqb-true, eq-eqb, length-append}
use Rattle.std.proofs.Math.Nat.{mod-eq_of_lt, add-mod_left}
use Rattle.std.proofs.Math.Pow.{mod-mod-pow}
use Rattle.std.proofs.lemmas.Bool.{cases_lt}
use Rattle.std.proofs.lemmas.List.{get_or_append_left, get_or-append_right, get_or_default, get_or_past, get_or-set_same, length-set}
use Rattle.std.proofs.lemmas.Nat.{and_or_self, mod_below, pow-add, pow_pos}
use Rattle.std.proofs.lemmas.Nat.Bits.{same_from_bits, bit_at_and, bit_at_or}
use Rattle.std.specs.Prelude.{min, max}
use Rattle.std.specs.Int.{bit_at}
use Rattle.std.specs.Int.Bits.{bit_and, bit_or, and_self}
use Rattle.stow_filter.specs.Filter.{hash, marks_of, is_marked, may_have, KeepsMarks, IsWordCount}

-- marks stay set as others come beside them
still_marked : (word more marks : ℕ) → bit_and word marks ≡ marks → bit_and (bit_or word more) marks ≡ marks
still_marked word more marks e = same_from_bits (bit_and (bit_or word more) marks) marks (λ i.
    bit_at_and (bit_or word more) marks i ∙ ap (λ n. min n (bit_at marks i)) (bit_at_or word more i)
    ∙ within (bit_at word i) (bit_at more i) (bit_at marks i) (sym (ap (λ n. bit_at n i) e) ∙ bit_at_and word marks i)) where
      within : (w x m : ℕ) → m ≡ min w m → min (max w x) m ≡ m
      within w x m e = omega (arith, e)

-- where there are no words each key may be there
pub all_may_be : (words key : List ℕ) → length words ≡ 0 → true ≡ may_have words key
all_may_be words key e = let marks = marks_of (hash key) in
    sym (eq-eqb _ _ (ap (λ w. bit_and w marks) (get_or_past words (hash key % length words) marks (omega (arith, e))) ∙ and_self marks))

set_keeps : (P : ℕ → Type 0) (words : List ℕ) (i x j d : ℕ) → (P (get_or words i d) → P x) → P (get_or words j d) → P (get_or (set words i x) j d)
set_keeps P [] i x j d f h = h
set_keeps P (w ∷ ws) zero x zero d f h = f h
set_keeps P (w ∷ ws) zero x (suc j) d f h = h
set_keeps P (w ∷ ws) (suc i) x zero d f h = h
set_keeps P (w ∷ ws) (suc i) x (suc j) d f h = set_keeps P ws i x j d f h

-- a word got marks
module _ (words : List ℕ) (i x more : ℕ) (within : i < length words) (is : x ≡ bit_or (get_or words i 0) more) (new : List ℕ) (e : new ≡ set words i x) where
  same_length : length new ≡ length words
  same_length = ap length e ∙ length-set words i x

  pub marks_stay : KeepsMarks words new
  marks_stay key h = let h' = hash key in let marks = marks_of h' in let d = marks in
      subst (λ (p : List ℕ × ℕ). is_marked (get_or p.0 (h' % p.1) d) marks ≡ true) (sym (λ j. (e j, same_length j)))
      (set_keeps (λ w. is_marked w marks ≡ true) words i x (h' % length words) d
      (λ was. eq-eqb _ _ (ap (λ w. bit_and w marks) (is ∙ ap (λ w. bit_or w more) (get_or_default words i 0 d within)) ∙ still_marked (get_or words i d) more marks (eqb-true _ _ was))) h)

  pub marked_now : (key : List ℕ) → i ≡ hash key % length words → more ≡ marks_of (hash key) → may_have new key ≡ true
  marked_now key at these = let h = hash key in let marks = marks_of h in
      eq-eqb _ _ (ap (λ w. bit_and w marks)
      (ap (λ n. get_or new (h % n) marks) same_length ∙ ap (λ j. get_or new j marks) (sym at) ∙ ap (λ l. get_or l i marks) e ∙ get_or-set_same words i x marks within
      ∙ is ∙ ap (bit_or (get_or words i 0)) these) ∙ and_or_self marks (get_or words i 0))

at_twice : (words : List ℕ) (i d : ℕ) → i < length words + length words → get_or (words ++ words) i d ≡ get_or words (i % length words) d
at_twice words i d lt = let n = length words in ⊎_elim
    (λ (low : i < n). get_or_append_left words words d i low ∙ ap (λ j. get_or words j d) (sym (mod-eq_of_lt low)))
    (λ (high : n ≤ i). let less : i - n < n = omega (arith, lt, high) in let split : n + (i - n) ≡ i = omega (arith, high) in
    get_or-append_right words words n i d refl high ∙ ap (λ j. get_or words j d) (sym (mod-eq_of_lt less) ∙ sym (add-mod_left n (i - n)) ∙ ap (λ j. j % n) split))
    (cases_lt i n)

-- twice as many words, the upper half a copy of the lower
twice_tells : (words : List ℕ) (k : ℕ) → length words ≡ 2 ^ k → (h d : ℕ) → get_or (words ++ words) (h % length (words ++ words)) d ≡ get_or words (h % length words) d
twice_tells words k e h d = let both = length (words ++ words) in
    let count : both ≡ 2 ^ (1 + k) = omega (arith, length-append words words, e, pow-add 2 1 k) in
    let low : h % both % length words ≡ h % length words = (λ j. h % count j % e j) ∙ mod-mod-pow h 1 k ∙ ap (λ n. h % n) (sym e) in
    let some : 0 < length words = omega (arith, e, pow_pos k) in
    at_twice words (h % both) d (omega (arith, mod_below h both (omega (arith, length-append words words, some)), length-append words words)) ∙ ap (λ j. get_or words j d) low

pub twice_keeps : (words : List ℕ) → IsWordCount (length words) → KeepsMarks words (words ++ words)
twice_keeps words (inl none) key h = sym (all_may_be (words ++ words) key (omega (arith, length-append words words, none)))
twice_keeps words (inr p) key h = let marks = marks_of (hash key) in
    ap (λ w. is_marked w marks) (twice_tells words p.0 p.1 (hash key) marks) ∙ h

pub twice_count : (n m : ℕ) → m ≡ n + n → IsWordCount n → IsWordCount m
twice_count n m e (inl none) = inl (omega (arith, e, none))
twice_count n m e (inr p) = inr ((1 + p.0, omega (arith, e, p.1, pow-add 2 1 p.0)))

pub some_words : (n : ℕ) → 0 < n → IsWordCount n → (k : ℕ) × (n ≡ 2 ^ k)
some_words n some (inl none) = absurd (omega (arith, some, none))
some_words n some (inr p) = p

pub few_count : (n m : ℕ) → m ≡ min n 64 → IsWordCount n → IsWordCount m
few_count n m e (inl none) = inl (omega (arith, e, none))
few_count n m e (inr p) = ⊎_elim
    (λ (less : n < 64). inr ((p.0, omega (arith, e, less, p.1))))
    (λ (most : 64 ≤ n). inr ((6, omega (arith, e, most))))
    (cases_lt n 64)
