-- Elements of an array, part by part.
use Rattle.std.proofs.Common.{◌≡◌, ◌≢◌, ℕ, ◌-◌, ◌<◌, ◌≤◌, List, [], ◌∷◌, ◌++◌, length, take, drop, replicate, refl, ap, ◌∙◌, sym, subst, arith, append_assoc, append-nil, length-append, lit≤, inl, inr}
use Rattle.std.proofs.lemmas.List.{length-replicate, take-append-drop}
use Rattle.stow_model.specs.declared.stream_fault.StreamFault.TheVariants.{ExpectedBulk, InvalidBulkLength, BulkNotEnded}
use Rattle.stow_bytes.specs.Limits.{value_limit}
use Rattle.stow_model.specs.Wire.{bulk_line, bulk, FitsBulk}
use Rattle.stow_model.proofs.Spelling.{line_once, split_once}
use Rattle.stow_model.specs.Parts.{ends, IsBegunNumber, IsStuckNumber, IsBegunBulk, IsStuckBulk}

zeros : ℕ → List ℕ
zeros n = replicate n 0

length-zeros : (n : ℕ) → length (zeros n) ≡ n
unfolding zeros
length-zeros n = length-replicate n 0

-- an element, with its line apart
lined : (word : List ℕ) → bulk word ≡ 36 ∷ (ends (length word) ++ (word ++ 13 ∷ 10 ∷ []))
lined word = refl

pub none_begun : IsBegunBulk []
none_begun = ([], 36, ends 0 ++ 13 ∷ 10 ∷ [], lit≤ tt, refl)

pub number_begun : (after : List ℕ) → IsBegunNumber value_limit after → IsBegunBulk (36 ∷ after)
number_begun after (n, next, more, le, e) =
    let w : List ℕ = zeros n in
    let fits : FitsBulk (zeros n) = let l = length-zeros n in omega arith in (
      w,
      next,
      more ++ (w ++ 13 ∷ 10 ∷ []),
      fits,
      ap (λ t. 36 ∷ t) (sym (append_assoc after (next ∷ more) (w ++ 13 ∷ 10 ∷ [])) ∙ ap (λ t. t ++ (w ++ 13 ∷ 10 ∷ [])) (e ∙ ap ends (sym (length-zeros n)))),
    )

pub sign_stuck : (sign : ℕ) (after : List ℕ) → sign ≢ 36 → IsStuckBulk (sign ∷ after) ExpectedBulk
sign_stuck sign after differ = record {
  front = [];
  byte = sign;
  more = after;
  at = refl;
  begun = none_begun;
  stuck = λ word more y fits h. differ cc;
  place = refl;
}

pub number_stuck : (after : List ℕ) → IsStuckNumber value_limit after → IsStuckBulk (36 ∷ after) InvalidBulkLength
number_stuck after s = record {
  front = 36 ∷ s.front;
  byte = s.byte;
  more = s.more;
  at = ap (λ t. 36 ∷ t) s.at;
  begun = number_begun s.front s.begun;
  stuck = λ word more y fits h. s.stuck (length word) more ((word ++ 13 ∷ 10 ∷ []) ++ y) (omega arith)
      (let tail : (s.front ++ s.byte ∷ []) ++ more ≡ (ends (length word) ++ (word ++ 13 ∷ 10 ∷ [])) ++ y = cc in tail ∙ append_assoc (ends (length word)) (word ++ 13 ∷ 10 ∷ []) y);
  place = (s.front, s.in_line, refl);
}

-- ---- after the line

-- what begins with all but the end of a word
begun_with : (word part tail : List ℕ) → FitsBulk word → 0 < length tail → part ++ tail ≡ bulk word → IsBegunBulk part
begun_with word part [] fits some e = absurd (omega arith)
begun_with word part (next ∷ more) fits some e = (word, next, more, fits, e)

pub body_begun : (len : ℕ) (rest : List ℕ) → len ≤ value_limit → length rest ≤ len → IsBegunBulk (bulk_line len ++ rest)
body_begun len rest le short =
    let w : List ℕ = rest ++ zeros (len - length rest) in
    let same : length (rest ++ zeros (len - length rest)) ≡ len = let l = length-zeros (len - length rest) in rw (length-append rest (zeros (len - length rest))) (omega arith) in
    begun_with w (bulk_line len ++ rest) (zeros (len - length rest) ++ 13 ∷ 10 ∷ []) (omega arith) (rw (length-append (zeros (len - length rest)) (13 ∷ 10 ∷ [])) (omega arith))
    (append_assoc (bulk_line len) rest (zeros (len - length rest) ++ 13 ∷ 10 ∷ []) ∙ (λ i. bulk_line (sym same i) ++ sym (append_assoc rest (zeros (len - length rest)) (13 ∷ 10 ∷ [])) i))

word_begun : (word : List ℕ) → FitsBulk word → IsBegunBulk (bulk_line (length word) ++ word)
word_begun word fits = (word, 13, 10 ∷ [], fits, append_assoc (bulk_line (length word)) word (13 ∷ 10 ∷ []))

pub cr_begun : (word : List ℕ) → FitsBulk word → IsBegunBulk (bulk_line (length word) ++ (word ++ 13 ∷ []))
cr_begun word fits = (word, 10, [], fits, append_assoc (bulk_line (length word)) (word ++ 13 ∷ []) (10 ∷ []) ∙ ap (λ t. bulk_line (length word) ++ t) (append_assoc word (13 ∷ []) (10 ∷ [])))

-- what comes after a word of the length that its line says
after_word : (word other x y : List ℕ) → FitsBulk word → FitsBulk other → bulk_line (length word) ++ (word ++ x) ≡ bulk other ++ y → x ≡ 13 ∷ 10 ∷ y
after_word word other x y fits fits' e =
    let lines = line_once 36 (length word) (length other) (word ++ x) ((other ++ 13 ∷ 10 ∷ []) ++ y) (omega arith) (omega arith) (e ∙ append_assoc (bulk_line (length other)) (other ++ 13 ∷ 10 ∷ []) y) in
    (split_once word other x (13 ∷ 10 ∷ y) lines.0 (lines.1 ∙ append_assoc other (13 ∷ 10 ∷ []) y)).1

pub word_stuck : (word later : List ℕ) (byte : ℕ) → FitsBulk word → byte ≢ 13 → IsStuckBulk (bulk_line (length word) ++ (word ++ byte ∷ later)) BulkNotEnded
word_stuck word later byte fits differ = record {
  front = bulk_line (length word) ++ word;
  byte = byte;
  more = later;
  at = sym (append_assoc (bulk_line (length word)) word (byte ∷ later));
  begun = word_begun word fits;
  stuck = λ other more y fits' h.
      let x : byte ∷ more ≡ 13 ∷ 10 ∷ y = after_word word other (byte ∷ more) y fits fits' (sym (append_assoc (bulk_line (length word)) word (byte ∷ more)) ∙ sym (append_assoc (bulk_line (length word) ++ word) (byte ∷ []) more) ∙ h) in
      differ cc;
  place = (word, fits, inl refl);
}

pub cr_stuck : (word later : List ℕ) (byte : ℕ) → FitsBulk word → byte ≢ 10 → IsStuckBulk (bulk_line (length word) ++ (word ++ 13 ∷ byte ∷ later)) BulkNotEnded
cr_stuck word later byte fits differ = record {
  front = bulk_line (length word) ++ (word ++ 13 ∷ []);
  byte = byte;
  more = later;
  at = ap (λ t. bulk_line (length word) ++ t) (sym (append_assoc word (13 ∷ []) (byte ∷ later))) ∙ sym (append_assoc (bulk_line (length word)) (word ++ 13 ∷ []) (byte ∷ later));
  begun = cr_begun word fits;
  stuck = λ other more y fits' h.
      let x : 13 ∷ byte ∷ more ≡ 13 ∷ 10 ∷ y = after_word word other (13 ∷ byte ∷ more) y fits fits'
      (ap (λ t. bulk_line (length word) ++ t) (sym (append_assoc word (13 ∷ []) (byte ∷ more))) ∙ sym (append_assoc (bulk_line (length word)) (word ++ 13 ∷ []) (byte ∷ more)) ∙ sym (append_assoc (bulk_line (length word) ++ (word ++ 13 ∷ [])) (byte ∷ []) more) ∙ h) in
      differ cc;
  place = (word, fits, inr refl);
}

pub word_whole : (word later : List ℕ) → bulk_line (length word) ++ (word ++ 13 ∷ 10 ∷ later) ≡ bulk word ++ later
word_whole word later = ap (λ t. bulk_line (length word) ++ t) (sym (append_assoc word (13 ∷ 10 ∷ []) later)) ∙ sym (append_assoc (bulk_line (length word)) (word ++ 13 ∷ 10 ∷ []) later)

pub at_word : (len : ℕ) (rest word after x : List ℕ) → length word ≡ len → word ≡ take len rest → after ≡ drop len rest → after ≡ x → bulk_line (length word) ++ (word ++ x) ≡ bulk_line len ++ rest
at_word len rest word after x n front back e =
    (λ i. bulk_line (n i) ++ (front i ++ (sym e ∙ back) i)) ∙ ap (λ t. bulk_line len ++ t) (take-append-drop len rest)

pub word_more : (word : List ℕ) → FitsBulk word → IsBegunBulk (bulk_line (length word) ++ (word ++ []))
word_more word fits = subst (λ t. IsBegunBulk (bulk_line (length word) ++ t)) (sym (append-nil word)) (word_begun word fits)
