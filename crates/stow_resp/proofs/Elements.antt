-- Whole elements, one after another.
use Rattle.std.proofs.Common.{◌≡◌, ℕ, ◌+◌, ◌-◌, ◌<◌, ◌≤◌, List, [], ◌∷◌, ◌++◌, length, take, drop, refl, ap, ◌∙◌, sym, subst, arith, append_assoc, append-nil, length-append, inl, inr}
use Rattle.std.proofs.lemmas.List.{take_at, drop_at, take_all, take-append-le, length_push, map-append}
use Rattle.std.specs.List.{AllByRecursion}
use Rattle.std.specs.declared.vec.Vec.{Vec}
use Rattle.stow_model.specs.Message as message
use Rattle.stow_model.specs.Spans.{word_at, words_at, IsInside, AreInside}
use Rattle.stow_model.specs.declared.span.Span.{Span}
use Rattle.stow_model.specs.declared.stream_fault.StreamFault.{StreamFault}
use Rattle.stow_model.specs.Wire.{array_line, bulk_line, bulk, bulks, FitsBulk, Spells, IsBegun, IsFaulty}
use Rattle.stow_model.specs.Parts.{IsBegunBulk, IsStuckBulk}
use Rattle.stow_model.proofs.Spans.{spans_stay, words_stay, spans_more}
use Rattle.stow_model.proofs.Spelling.{bulk_once}
use Rattle.stow_model.proofs.Messages.{array_begun, array_faulty, array_whole, one_more_word, one_more_fits}
use Rattle.stow_resp.specs.declared.progress.Progress.{Progress}
use Rattle.stow_resp.specs.Scans.{IsProgress, IsStart, HasAllSpans, IsFilled}
use Rattle.stow_resp.specs.Spans.{IsSpanKept}
use Rattle.stow_resp.specs.Next.{IsTaken, HasWords}
use Rattle.stow_resp.proofs.Lists.{drop_front, slice_from, length_front}

-- ---- what is known of an array

-- the bytes, cut after what was scanned
cut : {A : Type 0} (p : Progress A) (bytes : List ℕ) (h : IsProgress p bytes) → bytes ≡ (array_line p.count ++ bulks h.words) ++ h.rest
cut p bytes h = h.at ∙ sym (append_assoc (array_line p.count) (bulks h.words) h.rest)

pub unscanned : {A : Type 0} (p : Progress A) (bytes : List ℕ) (h : IsProgress p bytes) → take (length bytes - p.scanned) (drop p.scanned bytes) ≡ h.rest
unscanned p bytes h = slice_from bytes p.scanned ∙ drop_front (array_line p.count ++ bulks h.words) h.rest bytes p.scanned (cut p bytes h) h.scanned_len

pub scan_more : {A : Type 0} (p : Progress A) (bytes part : List ℕ) (h : IsProgress p bytes) → part ≡ h.rest → p.found < p.count → IsBegunBulk part → IsBegun bytes
scan_more p bytes part h is fewer begun = subst IsBegun (sym h.at) (array_begun p.count h.words h.rest h.few (let n = h.number in omega arith) h.fits (subst IsBegunBulk is begun))

pub scan_stuck : {A : Type 0} (p : Progress A) (bytes part : List ℕ) (fault : StreamFault) (h : IsProgress p bytes) → part ≡ h.rest → p.found < p.count → IsStuckBulk part fault → IsFaulty bytes fault
scan_stuck p bytes part fault h is fewer stuck = subst (λ t. IsFaulty t fault) (sym h.at) (array_faulty p.count h.words h.rest fault h.few (let n = h.number in omega arith) h.fits (subst (λ t. IsStuckBulk t fault) is stuck))

-- ---- one element more

-- the bytes of the line and the elements so far, which the spans are in
abbrev front : {A : Type 0} (p : Progress A) → List (List ℕ) → List ℕ
front p words = array_line p.count ++ bulks words

-- where the bytes of an element's word stand behind a front
pub record IsBehind (before word : List ℕ) (span : Span) : Type 0 where
  pub start : span.start ≡ length before + length (bulk_line (length word))
  pub end : span.start + length word ≡ span.end

behind_inside : (before word : List ℕ) (span : Span) → IsBehind before word span → IsInside (before ++ bulk word) span
behind_inside before word span h =
    let whole = length-append before (bulk word) in
    let element = length-append (bulk_line (length word)) (word ++ 13 ∷ 10 ∷ []) in
    let ended = length-append word (13 ∷ 10 ∷ []) in
    (let s = h.end in omega arith, let s = h.start in let e = h.end in omega (arith, whole, element, ended))

behind_at : (before word : List ℕ) (span : Span) → IsBehind before word span → word_at (before ++ bulk word) span ≡ word
behind_at before word span h =
    let line = bulk_line (length word) in
    let long : length (before ++ line) ≡ span.start = length-append before line ∙ sym h.start in
    let few : span.end - span.start ≡ length word = let e = h.end in omega arith in
    (λ i. take (few i) (drop span.start (sym (append_assoc before line (word ++ 13 ∷ 10 ∷ [])) i)))
    ∙ ap (take (length word)) (drop_at (before ++ line) (word ++ 13 ∷ 10 ∷ []) span.start long)
    ∙ take_at word (13 ∷ 10 ∷ []) (length word) refl

-- the words that were kept are the first, and one more is kept behind all of them or not
kept_words : (before word : List ℕ) (words : List (List ℕ)) (found : ℕ) (span : Span) (old new : List Span) → IsBehind before word span → length words ≡ found → length old ≤ found → AreInside before old → words_at before old ≡ take (length old) words → IsSpanKept old found span new → (length new ≤ found + 1) × AreInside (before ++ bulk word) new × (words_at (before ++ bulk word) new ≡ take (length new) (words ++ word ∷ []))
kept_words before word words found span old new h n few inside at (inl same) =
    let long : length old ≤ length words = omega arith in (
      subst (λ s. length s ≤ found + 1) (sym same) (omega arith),
      subst (AreInside (before ++ bulk word)) (sym same) (spans_stay before (bulk word) old inside),
      subst (λ s. words_at (before ++ bulk word) s ≡ take (length s) (words ++ word ∷ [])) (sym same)
          (words_stay before (bulk word) old inside ∙ at ∙ sym (take-append-le (length old) words (word ∷ []) long)),
    )
kept_words before word words found span old new h n few inside at (inr (all, more)) =
    let pushed : length (old ++ span ∷ []) ≡ length old + 1 = length_push old span in
    let both : length (words ++ word ∷ []) ≡ length words + 1 = length_push words word in (
      subst (λ s. length s ≤ found + 1) (sym more) (omega arith),
      subst (AreInside (before ++ bulk word)) (sym more) (spans_more (before ++ bulk word) old span (spans_stay before (bulk word) old inside) (behind_inside before word span h)),
      subst (λ s. words_at (before ++ bulk word) s ≡ take (length s) (words ++ word ∷ [])) (sym more)
          (map-append (word_at (before ++ bulk word)) old (span ∷ [])
          ∙ (λ i. words_stay before (bulk word) old inside i ++ behind_at before word span h i ∷ [])
          ∙ ap (λ t. t ++ word ∷ []) (at ∙ take_all (length old) words (omega arith))
          ∙ sym (take_all (length (old ++ span ∷ [])) (words ++ word ∷ []) (omega arith))),
    )

one_more_front : (line : List ℕ) (words : List (List ℕ)) (word : List ℕ) → line ++ bulks (words ++ word ∷ []) ≡ (line ++ bulks words) ++ bulk word
one_more_front line words word = ap (λ t. line ++ t) (bulks_more words word) ∙ sym (append_assoc line (bulks words) (bulk word))
  where
    bulks_more : (words : List (List ℕ)) (word : List ℕ) → bulks (words ++ word ∷ []) ≡ bulks words ++ bulk word
    bulks_more [] word = append-nil (bulk word)
    bulks_more (w ∷ words) word = ap (λ t. bulk w ++ t) (bulks_more words word) ∙ sym (append_assoc (bulk w) (bulks words) (bulk word))

started_behind : (before word after bytes : List ℕ) (start end : ℕ) → bytes ≡ before ++ (bulk word ++ after) → end + 2 + length after ≡ length bytes → start + length word ≡ end → start ≡ length before + length (bulk_line (length word))
started_behind before word after bytes start end at ends starts =
    let whole = ap length at in
    let a = length-append before (bulk word ++ after) in
    let b = length-append (bulk word) after in
    let c = length-append (bulk_line (length word)) (word ++ 13 ∷ 10 ∷ []) in
    let d = length-append word (13 ∷ 10 ∷ []) in
    omega arith

scanned_front : (before after bytes : List ℕ) (end : ℕ) → bytes ≡ before ++ after → end + 2 + length after ≡ length bytes → end + 2 ≡ length before
scanned_front before after bytes end at ends = let whole = ap length at in let a = length-append before after in omega arith

pub fits_before : {A : Type 0} (p : Progress A) (bytes word after : List ℕ) (h : IsProgress p bytes) → h.rest ≡ bulk word ++ after → length word + 2 + length after ≤ length bytes
fits_before p bytes word after h is =
    let whole = ap length h.at in
    let a = length-append (array_line p.count) (bulks h.words ++ h.rest) in
    let b = length-append (bulks h.words) h.rest in
    let c = ap length is in
    let d = length-append (bulk word) after in
    let e = length-append (bulk_line (length word)) (word ++ 13 ∷ 10 ∷ []) in
    let f = length-append word (13 ∷ 10 ∷ []) in
    omega arith

pub scan_word : {A : Type 0} (p : Progress A) (bytes word after : List ℕ) (span : Span) (spans : Vec Span A) (h : IsProgress p bytes) → h.rest ≡ bulk word ++ after → p.found < p.count → FitsBulk word → span.end + 2 + length after ≡ length bytes → span.start + length word ≡ span.end → IsSpanKept p.spans.items p.found span spans.items → IsProgress (record { count = p.count; line = p.line; found = p.found + 1; scanned = span.end + 2; spans = spans }) bytes
scan_word p bytes word after span spans h is fewer fit ends starts kept =
    let words : List (List ℕ) = h.words ++ word ∷ [] in
    let at : bytes ≡ array_line p.count ++ (bulks words ++ after) = h.at ∙ ap (λ t. array_line p.count ++ t) (one_more_word h.words word (bulks h.words ++ h.rest) h.rest after refl is) in
    let more : front p words ≡ front p h.words ++ bulk word = one_more_front (array_line p.count) h.words word in
    let behind : IsBehind (front p h.words) word span = record { start = started_behind (front p h.words) word after bytes span.start span.end (cut p bytes h ∙ ap (λ t. front p h.words ++ t) is) ends starts; end = starts } in
    let k = kept_words (front p h.words) word h.words p.found span p.spans.items spans.items behind h.number h.kept h.inside h.spanned kept in
    record {
      words = words;
      rest = after;
      some = h.some;
      few = h.few;
      among = omega arith;
      number = let n = h.number in omega (arith, length-append h.words (word ∷ []));
      fits = one_more_fits h.words word h.fits fit;
      at = at;
      line_len = h.line_len;
      scanned_len = scanned_front (front p words) after bytes span.end (at ∙ sym (append_assoc (array_line p.count) (bulks words) after)) ends;
      kept = k.0;
      inside = subst (λ t. AreInside t spans.items) (sym more) k.1;
      spanned = ap (λ t. words_at t spans.items) more ∙ k.2;
    }

-- an array of which its line is known
pub started : {A : Type 0} (p : Progress A) (bytes rest : List ℕ) (count line : ℕ) → IsStart count line p → 0 < count → count ≤ 1024 → line ≡ length bytes - length rest → bytes ≡ array_line count ++ rest → IsProgress p bytes
started p bytes rest count line s some few long at =
    let same : array_line p.count ≡ array_line count = ap array_line s.same_count in
    let len : p.line ≡ length (array_line p.count) = s.same_line ∙ long ∙ length_front (array_line count) rest bytes at ∙ sym (ap length same) in
    record {
      words = [];
      rest = rest;
      some = let e = s.same_count in omega arith;
      few = let e = s.same_count in omega arith;
      among = let e = s.none_found in omega arith;
      number = sym s.none_found;
      fits = tt;
      at = at ∙ ap (λ t. t ++ rest) (sym same);
      line_len = len;
      scanned_len = s.only_line ∙ sym s.same_line ∙ len ∙ ap length (sym (append-nil (array_line p.count)));
      kept = subst (λ t. length t ≤ p.found) (sym s.none_kept) (omega arith);
      inside = subst (AreInside (array_line p.count ++ [])) (sym s.none_kept) tt;
      spanned = subst (λ t. words_at (array_line p.count ++ []) t ≡ take (length t) []) (sym s.none_kept) refl;
    }

-- the same array, of which no element was looked for
pub restarted : {A : Type 0} (p : Progress A) (spans : Vec Span A) (bytes : List ℕ) → IsProgress p bytes → spans.items ≡ [] → IsProgress (record { count = p.count; line = p.line; found = 0; scanned = p.line; spans = spans }) bytes
restarted p spans bytes h none =
    record {
      words = [];
      rest = bulks h.words ++ h.rest;
      some = h.some;
      few = h.few;
      among = omega arith;
      number = refl;
      fits = tt;
      at = h.at;
      line_len = h.line_len;
      scanned_len = h.line_len ∙ ap length (sym (append-nil (array_line p.count)));
      kept = subst (λ t. length t ≤ 0) (sym none) (omega arith);
      inside = subst (AreInside (array_line p.count ++ [])) (sym none) tt;
      spanned = subst (λ t. words_at (array_line p.count ++ []) t ≡ take (length t) []) (sym none) refl;
    }

-- the same progress, with no spans kept
pub forgotten : {A : Type 0} (p : Progress A) (spans : Vec Span A) (bytes : List ℕ) → IsProgress p bytes → spans.items ≡ [] → IsProgress (record { count = p.count; line = p.line; found = p.found; scanned = p.scanned; spans = spans }) bytes
forgotten p spans bytes h none =
    record {
      words = h.words;
      rest = h.rest;
      some = h.some;
      few = h.few;
      among = h.among;
      number = h.number;
      fits = h.fits;
      at = h.at;
      line_len = h.line_len;
      scanned_len = h.scanned_len;
      kept = subst (λ t. length t ≤ p.found) (sym none) (omega arith);
      inside = subst (AreInside (front p h.words)) (sym none) tt;
      spanned = subst (λ t. words_at (front p h.words) t ≡ take (length t) h.words) (sym none) refl;
    }

-- ---- the words of a whole array

-- after fewer words than there are comes a word
pub record IsElement (left : List ℕ) : Type 0 where
  pub word : List ℕ
  pub later : List ℕ
  pub fits : FitsBulk word
  pub at : left ≡ bulk word ++ later

next_word : (words ws : List (List ℕ)) (x y : List ℕ) → AllByRecursion FitsBulk words → AllByRecursion FitsBulk ws → length words < length ws → bulks words ++ x ≡ bulks ws ++ y → IsElement x
next_word words [] x y fits fits' fewer e = absurd (omega arith)
next_word [] (w ∷ ws) x y fits fits' fewer e = record { word = w; later = bulks ws ++ y; fits = fits'.0; at = e ∙ append_assoc (bulk w) (bulks ws) y }
next_word (v ∷ words) (w ∷ ws) x y fits fits' fewer e =
    let first = bulk_once v w (bulks words ++ x) (bulks ws ++ y) fits.0 fits'.0 (sym (append_assoc (bulk v) (bulks words) x) ∙ e ∙ append_assoc (bulk w) (bulks ws) y) in
    next_word words ws x y fits.1 fits'.1 (omega arith) first.1

-- the bytes after the line
pub elements : {A : Type 0} (p : Progress A) (bytes : List ℕ) (spelled : List (List ℕ)) (rest : List ℕ) → p.line ≡ length (array_line p.count) → bytes ≡ array_line p.count ++ (bulks spelled ++ rest) → drop p.line bytes ≡ bulks spelled ++ rest
elements p bytes spelled rest line at = drop_front (array_line p.count) (bulks spelled ++ rest) bytes p.line at line

-- a whole array has a word after fewer words
pub element : {A : Type 0} (p q : Progress A) (bytes part : List ℕ) (h : IsProgress p bytes) (k : IsProgress q bytes) → p.found ≡ p.count → q.count ≡ p.count → q.found < q.count → part ≡ k.rest → IsElement part
element p q bytes part h k whole same fewer is =
    let line : q.line ≡ p.line = k.line_len ∙ ap (λ n. length (array_line n)) same ∙ sym h.line_len in
    let both : bulks k.words ++ k.rest ≡ bulks h.words ++ h.rest = sym (elements q bytes k.words k.rest k.line_len k.at) ∙ ap (λ n. drop n bytes) line ∙ elements p bytes h.words h.rest h.line_len h.at in
    subst IsElement (sym is) (next_word k.words h.words k.rest h.rest k.fits h.fits (let n = h.number in let m = k.number in omega arith) both)

pub not_begun : (left : List ℕ) → IsElement left → IsBegunBulk left → ⊥
not_begun left h (word, next, more, fits, e) =
    let both : bulk h.word ++ (h.later ++ next ∷ more) ≡ bulk word ++ [] = sym (append_assoc (bulk h.word) h.later (next ∷ more)) ∙ ap (λ t. t ++ next ∷ more) (sym h.at) ∙ e ∙ sym (append-nil (bulk word)) in
    let none : length (h.later ++ next ∷ more) ≡ 0 = ap length (bulk_once h.word word (h.later ++ next ∷ more) [] h.fits fits both).1 in
    omega (arith, length-append h.later (next ∷ more))

pub not_stuck : (left : List ℕ) (fault : StreamFault) → IsElement left → IsStuckBulk left fault → ⊥
not_stuck left fault h s = s.stuck h.word s.more h.later h.fits (append_assoc s.front (s.byte ∷ []) s.more ∙ sym s.at ∙ h.at)

-- the message that a whole array is
pub taken : {A : Type 0} (p : Progress A) (bytes : List ℕ) (words : List (List ℕ)) (h : IsProgress p bytes) → p.found ≡ p.count → words ≡ h.words → IsTaken (message.Words words) bytes (drop p.scanned bytes)
taken p bytes words h whole is =
    let spelling : List ℕ = array_line p.count ++ bulks h.words in (
      spelling,
      subst (λ w. Spells (message.Words w) spelling) (sym is) (array_whole p.count h.words h.some h.few (h.number ∙ whole) h.fits),
      cut p bytes h ∙ ap (λ t. spelling ++ t) (sym (drop_front spelling h.rest bytes p.scanned (cut p bytes h) h.scanned_len)),
    )

pub has_words : {A : Type 0} (p : Progress A) (bytes : List ℕ) → IsProgress p bytes → p.found ≡ p.count → HasWords bytes
has_words p bytes h whole = (h.words, drop p.scanned bytes, taken p bytes h.words h whole refl)

-- a block that has the bytes of all elements has the words at the spans
pub filled : {A : Type 0} (p : Progress A) (bytes block : List ℕ) → IsProgress p bytes → HasAllSpans p → block ≡ take p.scanned bytes → IsFilled p bytes block
filled p bytes block h all is =
    let same : block ≡ front p h.words = is ∙ ap (take p.scanned) (cut p bytes h) ∙ take_at (front p h.words) h.rest p.scanned (sym h.scanned_len) in
    let words : words_at block p.spans.items ≡ h.words = ap (λ t. words_at t p.spans.items) same ∙ h.spanned ∙ take_all (length p.spans.items) h.words (let n = h.number in let a = all.0 in let b = all.1 in omega arith) in
    (subst (λ t. AreInside t p.spans.items) (sym same) h.inside, taken p bytes (words_at block p.spans.items) h all.0 words)

pub scanned_within : {A : Type 0} (p : Progress A) (bytes : List ℕ) → IsProgress p bytes → p.scanned ≤ length bytes
scanned_within p bytes h = let whole = ap length (cut p bytes h) in let a = length-append (front p h.words) h.rest in let s = h.scanned_len in omega arith
