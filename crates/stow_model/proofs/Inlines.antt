-- Messages in inline form.
use Rattle.std.proofs.Common.{◌≡◌, ◌≢◌, ℕ, zero, suc, ◌+◌, ◌-◌, ◌<◌, ◌≤◌, Bool, true, false, not, Option, Some, None, List, [], ◌∷◌, ◌++◌, length, take, drop, get_or, filter, nat_lt, refl, ap, ◌∙◌, sym, subst, arith, append_assoc, append-nil, length-append, length-drop, inl, inr}
use Rattle.std.specs.Prelude.{◌==◌, if◌then◌else◌}
use Rattle.std.specs.List.{AllByRecursion, list_any, position, slice_split, onto_first}
use Rattle.std.proofs.lemmas.Bool.Decides.{nat_tests}
use Rattle.std.proofs.lemmas.List.{append_cancel_left, take-append-drop, length-take-le, take_all, drop_all}
use Rattle.std.specs.Option.{unwrap_or}
use Rattle.std.proofs.lemmas.List.Quantifiers.{position-Some}
use Rattle.std.proofs.lemmas.List.Sums.{fails_before_first}
use Rattle.std.proofs.lemmas.List.Splits.{slice_split-cons_yes, slice_split-cons_no}
use Rattle.stow_bytes.specs.Limits.{line_limit}
use Rattle.stow_model.specs.Message.{Message}
use Rattle.stow_model.specs.Message as message
use Rattle.stow_model.specs.declared.stream_fault.StreamFault.TheVariants.{InlineTooLong}
use Rattle.stow_model.specs.Wire.{begins_array, is_space, is_quote, words_of_text, message_of_words, text_of_line, message_of_text, IsLine, IsInline, Spells, IsBegun, IsFaulty, IsPlace}
use Rattle.stow_model.specs.Parts.{IsLooked, AsksForWords}
use Rattle.stow_model.proofs.Spelling.{split_once, array_sign}
use Rattle.stow_model.proofs.Numbers.{all_append, cut_at}
use Rattle.stow_model.proofs.Messages.{IsNoMessage, faulty}

not_equal : (a b : ℕ) → a ≢ b → (a == b) ≡ false
not_equal a b differ = grind (arith, nat_tests)

pub inline_spells : (m : Message) (bytes : List ℕ) → IsInline m bytes → Spells m bytes
unfolding Spells
inline_spells m bytes s = inr s

pub line_whole : (line : List ℕ) → IsLine line → Spells (message_of_text (text_of_line line)) (line ++ 10 ∷ [])
line_whole line h = inline_spells (message_of_text (text_of_line line)) (line ++ 10 ∷ []) (line, h, refl, refl)

pub line_begun : (line : List ℕ) → IsLine line → IsBegun line
line_begun line h = (message_of_text (text_of_line line), 10, [], line_whole line h)

-- a message off the front
pub line_taken : (bytes line rest : List ℕ) (m : Message) → IsLine line → bytes ≡ line ++ 10 ∷ rest → m ≡ message_of_text (text_of_line line) → (spelling : List ℕ) × Spells m spelling × (bytes ≡ spelling ++ rest)
line_taken bytes line rest m h at is = (line ++ 10 ∷ [], inline_spells m (line ++ 10 ∷ []) (line, h, refl, is), at ∙ sym (append_assoc line (10 ∷ []) rest))

pub not_array : (bytes after : List ℕ) (sign : ℕ) → bytes ≡ sign ∷ after → sign ≢ 42 → begins_array bytes ≡ false
not_array bytes after sign at differ = ap begins_array at ∙ not_equal sign 42 differ

-- a line that ends goes at least as far as there is no LF
lf_beyond : (a b x y : List ℕ) → AllByRecursion (λ d. d ≢ 10) a → a ++ x ≡ b ++ 10 ∷ y → length a ≤ length b
lf_beyond [] b x y all e = omega arith
lf_beyond (d ∷ a) [] x y all e = absurd (all.0 (cc))
lf_beyond (d ∷ a) (d' ∷ b) x y all e = let rest = lf_beyond a b x y all.1 (cc) in omega arith

-- a line that has bytes begins with one of another sign than an array
line_first : (line x y : List ℕ) → begins_array line ≡ false → 1 ≤ length line → line ++ x ≡ 42 ∷ y → ⊥
line_first [] x y plain long e = omega arith
line_first (b ∷ line) x y plain long e =
    let star : b ≡ 42 = cc in
    let bad : begins_array (42 ∷ line) ≡ false = subst (λ c. begins_array (c ∷ line) ≡ false) star plain in
    cc

-- as much of a line as there may be, and one byte more that isn't LF
no_inline : (front : List ℕ) (byte : ℕ) → IsLine front → length front ≡ line_limit → byte ≢ 10 → IsNoMessage (front ++ byte ∷ [])
unfolding IsNoMessage Spells
no_inline front byte (all, short, plain) long differ m spelling more y s e = elim s [
  | inl array ↦
      let (after, at) = array_sign m spelling array in
      line_first front (byte ∷ more) (after ++ y) plain (omega arith) (sym (append_assoc front (byte ∷ []) more) ∙ e ∙ ap (λ t. t ++ y) at)
  | inr (line, (all', short', plain'), at, is) ↦
      let beyond : length (front ++ byte ∷ []) ≤ length line = lf_beyond (front ++ byte ∷ []) line more y (all_append (λ x. x ≢ 10) front (byte ∷ []) all (differ, tt)) (e ∙ ap (λ t. t ++ y) at ∙ append_assoc line (10 ∷ []) y) in
      omega (arith, length-append front (byte ∷ []), beyond, short')
]

pub line_too_long : (front more : List ℕ) (byte : ℕ) → IsLine front → length front ≡ line_limit → byte ≢ 10 → IsFaulty (front ++ byte ∷ more) InlineTooLong
unfolding IsPlace
line_too_long front more byte h long differ = faulty front more byte InlineTooLong (line_begun front h) (no_inline front byte h long differ) (h, long)

rest_at : (xs : List ℕ) (i : ℕ) → i < length xs → drop i xs ≡ get_or xs i 0 ∷ drop (i + 1) xs
rest_at xs i lt = append_cancel_left (take i xs) (drop i xs) (get_or xs i 0 ∷ drop (i + 1) xs) (take-append-drop i xs ∙ sym (cut_at xs i lt))

-- ---- the text of a line

pub text_with_cr : (line front : List ℕ) (last : ℕ) → line ≡ front ++ last ∷ [] → last ≡ 13 → front ≡ text_of_line line
text_with_cr line front last at is = sym (ap text_of_line at ∙ ap (λ b. text_of_line (front ++ b ∷ [])) is ∙ cut front)
  where
    cut : (front : List ℕ) → text_of_line (front ++ 13 ∷ []) ≡ front
    cut [] = refl
    cut (b ∷ []) = refl
    cut (b ∷ c ∷ front) = ap (λ t. b ∷ t) (cut (c ∷ front))

pub text_without_cr : (line front : List ℕ) (last : ℕ) → line ≡ front ++ last ∷ [] → last ≢ 13 → line ≡ text_of_line line
text_without_cr line front last at differ = at ∙ sym (whole front last differ) ∙ ap text_of_line (sym at)
  where
    whole : (front : List ℕ) (last : ℕ) → last ≢ 13 → text_of_line (front ++ last ∷ []) ≡ front ++ last ∷ []
    whole [] last differ = ap (λ t. if t then [] else last ∷ []) (not_equal last 13 differ)
    whole (b ∷ []) last differ = ap (λ t. b ∷ t) (whole [] last differ)
    whole (b ∷ c ∷ front) last differ = ap (λ t. b ∷ t) (whole (c ∷ front) last differ)

-- ---- what is found in a list

all_take : (P : ℕ → Type 0) (xs : List ℕ) (n : ℕ) → n ≤ length xs → ((k : ℕ) → k < n → P (get_or xs k 0)) → AllByRecursion P (take n xs)
all_take P xs zero le h = tt
all_take P [] (suc n) le h = tt
all_take P (x ∷ xs) (suc n) le h = (h 0 (omega arith), all_take P xs n (omega arith) (λ k lt. h (suc k) (omega arith)))

all_map : (P Q : ℕ → Type 0) (xs : List ℕ) → ((x : ℕ) → P x → Q x) → AllByRecursion P xs → AllByRecursion Q xs
all_map P Q [] f h = tt
all_map P Q (x ∷ xs) f h = (f x h.0, all_map P Q xs f h.1)

pub record FoundAt (p : ℕ → Bool) (xs : List ℕ) (i : ℕ) : Type 0 where
  pub in_range : i < length xs
  pub passes : p (get_or xs i 0) ≡ true
  pub fail : AllByRecursion (λ x. p x ≡ false) (take i xs)

pub found_at : (p : ℕ → Bool) (xs : List ℕ) (i : ℕ) → position p xs ≡ Some i → FoundAt p xs i
found_at p xs i e =
    let at = position-Some p xs i 0 e in
    record { in_range = at.0; passes = at.1; fail = all_take (λ x. p x ≡ false) xs i (omega (arith, at.0)) at.2 }

none_before : (i n : ℕ) → (if nat_lt i n then Some i else None) ≡ None → n ≤ i
none_before i n e = grind (arith, nat_tests)

pub found_none : (p : ℕ → Bool) (xs : List ℕ) → position p xs ≡ None → AllByRecursion (λ x. p x ≡ false) xs
found_none p xs e =
    let beyond = none_before _ (length xs) e in
    subst (AllByRecursion (λ x. p x ≡ false)) (take_all (length xs) xs (omega arith))
    (all_take (λ x. p x ≡ false) xs (length xs) (omega arith) (λ k lt. fails_before_first p xs k 0 (omega (arith, beyond))))

-- ---- the end of a line

is_lf : (b : ℕ) → (b == 10) ≡ true → b ≡ 10
is_lf b e = grind (arith, nat_tests)

is_no_lf : (b : ℕ) → (b == 10) ≡ false → b ≢ 10
is_no_lf b e = grind (arith, nat_tests)

plain_front : (a b : List ℕ) → begins_array (a ++ b) ≡ false → begins_array a ≡ false
plain_front [] b e = refl
plain_front (x ∷ a) b e = e

all_front : (P : ℕ → Type 0) (a b : List ℕ) → AllByRecursion P (a ++ b) → AllByRecursion P a
all_front P [] b h = tt
all_front P (x ∷ a) b h = (h.0, all_front P a b h.1)

all_at : (P : ℕ → Type 0) (a b : List ℕ) (x : ℕ) → AllByRecursion P (a ++ x ∷ b) → P x
all_at P [] b x h = h.0
all_at P (y ∷ a) b x h = all_at P a b x h.1

-- the bytes in three: those that were looked at, those that are, and the others
abbrev searched : List ℕ → ℕ → ℕ → List ℕ
searched bytes looked end = take (end - looked) (drop looked bytes)

in_three : (bytes : List ℕ) (looked end : ℕ) → bytes ≡ (take looked bytes ++ searched bytes looked end) ++ drop (end - looked) (drop looked bytes)
in_three bytes looked end =
    sym (take-append-drop looked bytes) ∙ ap (λ t. take looked bytes ++ t) (sym (take-append-drop (end - looked) (drop looked bytes))) ∙ sym (append_assoc (take looked bytes) (searched bytes looked end) (drop (end - looked) (drop looked bytes)))

length-searched : (bytes : List ℕ) (looked end : ℕ) → looked ≤ end → end ≤ length bytes → length (searched bytes looked end) ≡ end - looked
length-searched bytes looked end from to = length-take-le (end - looked) (drop looked bytes) (let l = length-drop looked bytes in omega arith)

-- where the LF is
record IsEnded (bytes : List ℕ) (n : ℕ) : Type 0 where
  line : List ℕ
  rest : List ℕ
  long : length line ≡ n
  is : IsLine line
  at : bytes ≡ line ++ 10 ∷ rest

ended_at : (bytes : List ℕ) (looked end more : ℕ) → IsLooked looked bytes → looked ≤ end → end ≤ length bytes → end ≤ line_limit + 1 → FoundAt (λ b. b == 10) (searched bytes looked end) more → IsEnded bytes (looked + more)
ended_at bytes looked end more h from to short f =
    let S : List ℕ = searched bytes looked end in
    let z : List ℕ = drop (end - looked) (drop looked bytes) in
    let len : length (searched bytes looked end) ≡ end - looked = length-searched bytes looked end from to in
    let a : List ℕ = take looked bytes in
    let line : List ℕ = a ++ take more S in
    let rest : List ℕ = drop (more + 1) S ++ z in
    let lf : get_or (searched bytes looked end) more 0 ≡ 10 = is_lf (get_or (searched bytes looked end) more 0) f.passes in
    let cut : S ≡ take more S ++ 10 ∷ drop (more + 1) S = sym (cut_at S more f.in_range) ∙ ap (λ b. take more S ++ b ∷ drop (more + 1) S) lf in
    let at : bytes ≡ line ++ 10 ∷ rest = in_three bytes looked end ∙ ap (λ t. (a ++ t) ++ z) cut ∙ ap (λ t. t ++ z) (sym (append_assoc a (take more S) (10 ∷ drop (more + 1) S))) ∙ append_assoc line (10 ∷ drop (more + 1) S) z in
    let la : length (take looked bytes) ≡ looked = length-take-le looked bytes h.1 in
    let lm : length (take more (searched bytes looked end)) ≡ more = length-take-le more (searched bytes looked end) (omega (arith, f.in_range)) in
    let long : length (take looked bytes ++ take more (searched bytes looked end)) ≡ looked + more = omega (arith, length-append (take looked bytes) (take more (searched bytes looked end))) in
    record {
      line = line;
      rest = rest;
      long = long;
      is = (
        all_append (λ x. x ≢ 10) a (take more S) h.2.0 (all_map (λ b. (b == 10) ≡ false) (λ b. b ≢ 10) (take more S) is_no_lf f.fail),
        omega (arith, f.in_range),
        plain_front line (10 ∷ rest) (subst (λ t. begins_array t ≡ false) at h.0),
      );
      at = at;
    }

pub line_found : (bytes front back : List ℕ) (looked end more : ℕ) → IsLooked looked bytes → looked ≤ end → end ≤ length bytes → end ≤ line_limit + 1 → FoundAt (λ b. b == 10) (take (end - looked) (drop looked bytes)) more → front ≡ take (looked + more) bytes → back ≡ drop (looked + more) bytes → IsLine front × (bytes ≡ front ++ 10 ∷ take (length back - 1) (drop 1 back))
line_found bytes front back looked end more h from to short f at_front at_back =
    let e = ended_at bytes looked end more h from to short f in
    let whole : length bytes ≡ length (e.line ++ 10 ∷ e.rest) = ap length e.at in
    let le : looked + more ≤ length bytes = omega (arith, length-append e.line (10 ∷ e.rest), e.long) in
    let meet : front ++ back ≡ e.line ++ 10 ∷ e.rest = (λ i. at_front i ++ at_back i) ∙ take-append-drop (looked + more) bytes ∙ e.at in
    let long : length front ≡ length e.line = ap length at_front ∙ length-take-le (looked + more) bytes le ∙ sym e.long in
    let parts = split_once front e.line back (10 ∷ e.rest) long meet in
    let tail : take (length back - 1) (drop 1 back) ≡ e.rest = ap (λ t. take (length t - 1) (drop 1 t)) parts.1 ∙ take_all (length (10 ∷ e.rest) - 1) e.rest (omega arith) in
    (subst IsLine (sym parts.0) e.is, e.at ∙ (λ i. sym parts.0 i ++ 10 ∷ sym tail i))

-- no LF among those that are looked at
no_lf_yet : (bytes : List ℕ) (looked end : ℕ) → IsLooked looked bytes → AllByRecursion (λ b. (b == 10) ≡ false) (searched bytes looked end) → AllByRecursion (λ b. b ≢ 10) (take looked bytes ++ searched bytes looked end)
no_lf_yet bytes looked end h none = all_append (λ x. x ≢ 10) (take looked bytes) (searched bytes looked end) h.2.0 (all_map (λ b. (b == 10) ≡ false) (λ b. b ≢ 10) (searched bytes looked end) is_no_lf none)

pub line_goes_on : (bytes : List ℕ) (looked : ℕ) → IsLooked looked bytes → length bytes ≤ line_limit → AllByRecursion (λ b. (b == 10) ≡ false) (take (length bytes - looked) (drop looked bytes)) → IsLine bytes
line_goes_on bytes looked h short none =
    let all : take looked bytes ++ searched bytes looked (length bytes) ≡ bytes = ap (λ t. take looked bytes ++ t) (take_all (length bytes - looked) (drop looked bytes) (let l = length-drop looked bytes in omega arith)) ∙ take-append-drop looked bytes in
    (subst (AllByRecursion (λ b. b ≢ 10)) all (no_lf_yet bytes looked (length bytes) h none), short, h.0)

pub line_stuck : (bytes : List ℕ) (looked : ℕ) → IsLooked looked bytes → line_limit < length bytes → AllByRecursion (λ b. (b == 10) ≡ false) (take (line_limit + 1 - looked) (drop looked bytes)) → IsFaulty bytes InlineTooLong
line_stuck bytes looked h long none =
    let S : List ℕ = searched bytes looked (line_limit + 1) in
    let z : List ℕ = drop (line_limit + 1 - looked) (drop looked bytes) in
    let f : List ℕ = take looked bytes ++ S in
    let la : length (take looked bytes) ≡ looked = length-take-le looked bytes h.1 in
    let lb : length (searched bytes looked (line_limit + 1)) ≡ line_limit + 1 - looked = length-searched bytes looked (line_limit + 1) (omega (arith, h.2.1)) (omega arith) in
    let len : length (take looked bytes ++ searched bytes looked (line_limit + 1)) ≡ line_limit + 1 = omega (arith, length-append (take looked bytes) (searched bytes looked (line_limit + 1)), h.2.1) in
    let front : List ℕ = take line_limit f in
    let byte : ℕ = get_or f line_limit 0 in
    let cut : front ++ byte ∷ drop (line_limit + 1) f ≡ f = cut_at f line_limit (omega arith) in
    let at : front ++ byte ∷ (drop (line_limit + 1) f ++ z) ≡ bytes = sym (append_assoc front (byte ∷ drop (line_limit + 1) f) z) ∙ ap (λ t. t ++ z) cut ∙ sym (in_three bytes looked (line_limit + 1)) in
    let all : AllByRecursion (λ b. b ≢ 10) (front ++ byte ∷ drop (line_limit + 1) f) = subst (AllByRecursion (λ b. b ≢ 10)) (sym cut) (no_lf_yet bytes looked (line_limit + 1) h none) in
    let lf : length (take line_limit (take looked bytes ++ searched bytes looked (line_limit + 1))) ≡ line_limit = length-take-le line_limit (take looked bytes ++ searched bytes looked (line_limit + 1)) (omega arith) in
    subst (λ t. IsFaulty t InlineTooLong) at
    (line_too_long front (drop (line_limit + 1) f ++ z) byte
    (all_front (λ b. b ≢ 10) front (byte ∷ drop (line_limit + 1) f) all, omega arith, plain_front front (byte ∷ (drop (line_limit + 1) f ++ z)) (subst (λ t. begins_array t ≡ false) (sym at) h.0))
    lf (all_at (λ b. b ≢ 10) front (drop (line_limit + 1) f) byte all))

-- ---- the words of a text

-- the text ends here, or a space comes
data EndsWord (rest : List ℕ) : Type 0 where
  AtEnd : rest ≡ [] → EndsWord rest
  AtSpace : (b : ℕ) (more : List ℕ) → is_space b ≡ true → rest ≡ b ∷ more → EndsWord rest

skip_spaces : (spaces rest : List ℕ) → AllByRecursion (λ b. is_space b ≡ true) spaces → words_of_text (spaces ++ rest) ≡ words_of_text rest
skip_spaces [] rest h = refl
skip_spaces (b ∷ spaces) rest h = ap (filter (λ part. nat_lt 0 (length part))) (slice_split-cons_yes is_space b (spaces ++ rest) h.0) ∙ skip_spaces spaces rest h.1

split_word : (word rest : List ℕ) (more : List (List ℕ)) → AllByRecursion (λ b. is_space b ≡ false) word → slice_split is_space rest ≡ [] ∷ more → slice_split is_space (word ++ rest) ≡ word ∷ more
split_word [] rest more h e = e
split_word (b ∷ word) rest more h e = slice_split-cons_no is_space b (word ++ rest) h.0 ∙ ap (onto_first b) (split_word word rest more h.1 e)

keeps : (word : List ℕ) (more : List (List ℕ)) → 0 < length word → filter (λ part. nat_lt 0 (length part)) (word ∷ more) ≡ word ∷ filter (λ part. nat_lt 0 (length part)) more
keeps word more some = grind (arith, nat_tests)

rest_split : (rest : List ℕ) → EndsWord rest → (more : List (List ℕ)) × (slice_split is_space rest ≡ [] ∷ more)
rest_split rest (AtEnd e) = ([], ap (slice_split is_space) e)
rest_split rest (AtSpace b more space e) = (slice_split is_space more, ap (slice_split is_space) e ∙ slice_split-cons_yes is_space b more space)

first_word : (word rest : List ℕ) → AllByRecursion (λ b. is_space b ≡ false) word → 0 < length word → EndsWord rest → words_of_text (word ++ rest) ≡ word ∷ words_of_text rest
first_word word rest h some end =
    let (more, e) = rest_split rest end in
    let ne : List (List ℕ) → List (List ℕ) = filter (λ part. nat_lt 0 (length part)) in
    ap ne (split_word word rest more h e) ∙ keeps word more some ∙ ap (λ t. word ∷ t) (sym (ap ne e))

is_no_other : (b : ℕ) → not (is_space b) ≡ false → is_space b ≡ true
is_no_other b e = turned (is_space b) e
  where
    turned : (x : Bool) → not x ≡ false → x ≡ true
    turned true e = refl
    turned false e = absurd (let bad : true ≡ false = e in cc)

is_other : (b : ℕ) → not (is_space b) ≡ true → is_space b ≡ false
is_other b e = turned (is_space b) e
  where
    turned : (x : Bool) → not x ≡ true → x ≡ false
    turned true e = absurd (let bad : false ≡ true = e in cc)
    turned false e = refl

pub no_word : (text : List ℕ) → position (λ b. not (is_space b)) text ≡ None → words_of_text text ≡ []
no_word text e =
    ap words_of_text (sym (append-nil text)) ∙ skip_spaces text [] (all_map (λ b. not (is_space b) ≡ false) (λ b. is_space b ≡ true) text is_no_other (found_none (λ b. not (is_space b)) text e))

-- a word's end
record WordEnds (from : List ℕ) (n : ℕ) : Type 0 where
  short : n ≤ length from
  plain : AllByRecursion (λ b. is_space b ≡ false) (take n from)
  ends : EndsWord (drop n from)

word_ends : (from : List ℕ) (r : Option ℕ) (n : ℕ) → r ≡ position is_space from → n ≡ unwrap_or r (length from) → WordEnds from n
word_ends from None n e is =
    let all = found_none is_space from (sym e) in record {
      short = omega arith;
      plain = subst (AllByRecursion (λ b. is_space b ≡ false)) (sym (take_all n from (omega arith))) all;
      ends = AtEnd (drop_all n from (omega arith));
    }
word_ends from (Some i) n e is =
    let f = found_at is_space from i (sym e) in record {
      short = omega (arith, f.in_range);
      plain = subst (λ k. AllByRecursion (λ b. is_space b ≡ false) (take k from)) (sym is) f.fail;
      ends = AtSpace (get_or from i 0) (drop (i + 1) from) f.passes (ap (λ k. drop k from) is ∙ rest_at from i f.in_range);
    }

some_word : (x n : ℕ) (xs from : List ℕ) → is_space x ≡ false → from ≡ x ∷ xs → EndsWord (drop n from) → 0 < n
some_word x zero xs from plain at (AtEnd e) = absurd (let bad : [] ≡ x ∷ xs = sym e ∙ at in cc)
some_word x zero xs from plain at (AtSpace b more space e) =
    let both : b ∷ more ≡ x ∷ xs = sym e ∙ at in
    let same : b ≡ x = cc in
    let bad : true ≡ false = sym space ∙ ap is_space same ∙ plain in
    absurd cc
some_word x (suc n) xs from plain at end = omega arith

pub word_found : (text from word rest : List ℕ) (start n : ℕ) (r : Option ℕ) → position (λ b. not (is_space b)) text ≡ Some start → from ≡ take (length text - start) (drop start text) → r ≡ position is_space from → n ≡ unwrap_or r (length from) → word ≡ take n from → rest ≡ drop n from → (words_of_text text ≡ word ∷ words_of_text rest) × (length rest < length text)
word_found text from word rest start n r at_start at_from at_end is at_word at_rest =
    let f = found_at (λ b. not (is_space b)) text start at_start in
    let w = word_ends from r n at_end is in
    let tail : from ≡ drop start text = at_from ∙ take_all (length text - start) (drop start text) (let l = length-drop start text in omega arith) in
    let first : from ≡ get_or text start 0 ∷ drop (start + 1) text = tail ∙ rest_at text start f.in_range in
    let some : 0 < n = some_word (get_or text start 0) n (drop (start + 1) text) from (is_other (get_or text start 0) f.passes) first w.ends in
    let long : length word ≡ n = ap length at_word ∙ length-take-le n from w.short in
    let len : length from ≡ length text - start = ap length tail ∙ length-drop start text in
    let later : length rest ≡ length from - n = ap length at_rest ∙ length-drop n from in
    let whole : text ≡ take start text ++ (word ++ rest) = sym (take-append-drop start text) ∙ ap (λ t. take start text ++ t) (sym tail ∙ sym (take-append-drop n from) ∙ (λ i. sym at_word i ++ sym at_rest i)) in
    let spaces : AllByRecursion (λ b. is_space b ≡ true) (take start text) = all_map (λ b. not (is_space b) ≡ false) (λ b. is_space b ≡ true) (take start text) is_no_other f.fail in
    let plain : AllByRecursion (λ b. is_space b ≡ false) word = subst (AllByRecursion (λ b. is_space b ≡ false)) (sym at_word) w.plain in (
      ap words_of_text whole ∙ skip_spaces (take start text) (word ++ rest) spaces ∙ first_word word rest plain (omega arith) (subst EndsWord (sym at_rest) w.ends),
      omega (arith, f.in_range, w.short),
    )

-- ---- what a line asks for

unquoted : (line text : List ℕ) → text ≡ text_of_line line → list_any is_quote text ≡ false → message_of_text (text_of_line line) ≡ message_of_words (words_of_text text)
unquoted line text at none = ap message_of_text (sym at) ∙ ap (λ b. if b then message.Quoted else message_of_words (words_of_text text)) none

some_words : (words : List (List ℕ)) → 0 < length words → message_of_words words ≡ message.Words words
some_words [] some = absurd (omega arith)
some_words (word ∷ words) some = refl

no_words : (words : List (List ℕ)) → length words ≡ 0 → message_of_words words ≡ message.Blank
no_words [] none = refl
no_words (word ∷ words) none = absurd (omega arith)

pub asks_for_words : (line text : List ℕ) → text ≡ text_of_line line → list_any is_quote text ≡ false → 0 < length (words_of_text text) → AsksForWords line
asks_for_words line text at none some = (words_of_text text, unquoted line text at none ∙ some_words (words_of_text text) some)

pub message_blank : (line text : List ℕ) (words : List (List ℕ)) → text ≡ text_of_line line → list_any is_quote text ≡ false → words ≡ words_of_text text → length words ≡ 0 → message.Blank ≡ message_of_text (text_of_line line)
message_blank line text words at none is empty = sym (unquoted line text at none ∙ ap message_of_words (sym is) ∙ no_words words empty)

pub message_words : (line text : List ℕ) (words : List (List ℕ)) → text ≡ text_of_line line → list_any is_quote text ≡ false → words ≡ words_of_text text → 0 < length words → message.Words words ≡ message_of_text (text_of_line line)
message_words line text words at none is some = sym (unquoted line text at none ∙ ap message_of_words (sym is) ∙ some_words words some)
