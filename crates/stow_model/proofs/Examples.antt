-- The examples hold.
use Rattle.std.proofs.Common.{◌≡◌, ◌≢◌, ℕ, zero, suc, ◌-◌, ◌<◌, ◌≤◌, Bool, true, false, get_or, List, [], ◌∷◌, ◌++◌, length, length-append, replicate, refl, ap, ◌∙◌, sym, subst, arith, lit<, inl, inr}
use mathlib.Core.Bool.{false≢true}
use Rattle.std.specs.Prelude.{codes, Option, Some, None, if◌then◌else◌, ◌==◌, ◌||◌}
use Rattle.std.specs.List.{AllByRecursion, list_any}
use Rattle.std.specs.Str.{bytes_eq}
use Rattle.std.specs.Fmt.{decimal}
use Rattle.std.specs.Cmp.Lexicographic.{nat_list_eq_equiv}
use Rattle.sha2.specs.Sha256.{sha256}
use Rattle.std.proofs.lemmas.Fmt.{decimal_digit}
use Rattle.std.proofs.lemmas.List.{length-replicate, replicate-append-replicate}
use Rattle.stow_model.specs.declared.stream_fault.StreamFault.TheVariants.{InvalidArrayLength, ExpectedBulk, InlineTooLong}
use Rattle.stow_bytes.specs.Limits.{line_limit}
use Rattle.stow_model.specs.Message.{Message, Words, Quoted, Blank}
use Rattle.stow_model.specs.Wire.{array_line, bulks, message_of_text, text_of_line, begins_array, IsLine, Spells, IsBegun, IsFaulty, IsPlace}
use Rattle.stow_model.specs.Command.{kind_of}
use Rattle.stow_model.specs.Login.{Entry, login, entry_at}
use Rattle.stow_model.specs.History.{IsStep, Follows, MayBeVoid, IsHistory, Takes, TakesWords, Waits, part_of, status_of, stream_of, taken_by, served_as, line_of, service_of, tellings, telling_of, told_at}
use Rattle.stow_model.specs.Examples.{Encodings, OfWords, OfStreams, OfLines, OfLogins, OfHistories, OfCharges, Examples}
use Rattle.stow_model.proofs.Spelling.{spelled_once, array_of}
use Rattle.stow_model.proofs.Places.{fault_once_lem}
use Rattle.stow_model.proofs.Messages.{array_spells, null_begun, null_faulty}
use Rattle.stow_model.proofs.Inlines.{line_whole, line_begun, line_too_long}
use Rattle.stow_model.proofs.OneHistory.{begun_none, faulty_not_begun_lem}
use Rattle.stow_model.proofs.Fronts.{spelled_some}

zero_line : array_line 0 ≡ codes "*0\r\n"
zero_line = ap (λ d. 42 ∷ d ++ 13 ∷ 10 ∷ []) (decimal_digit 0 (lit< tt))

encodings : Encodings
encodings = record {
  ok = refl;
  pong = refl;
  error = refl;
  fault = refl;
  integer = ap (λ d. 58 ∷ d ++ 13 ∷ 10 ∷ []) (decimal_digit 1 (lit< tt));
  bulk = ap (λ d. (36 ∷ d ++ 13 ∷ 10 ∷ []) ++ codes "v1\r\n") (decimal_digit 2 (lit< tt));
  empty = ap (λ d. (36 ∷ d ++ 13 ∷ 10 ∷ []) ++ codes "\r\n") (decimal_digit 0 (lit< tt));
  null = refl;
  array = λ i. (42 ∷ decimal_digit 2 (lit< tt) i ++ 13 ∷ 10 ∷ []) ++ (((36 ∷ decimal_digit 0 (lit< tt) i ++ 13 ∷ 10 ∷ []) ++ codes "\r\n") ++ codes "$-1\r\n");
}

of_words : OfWords
unfolding kind_of
of_words = record { login = refl; quit = refl; malformed = refl; for_store = refl; front = refl; byte = refl }

blank : Spells Blank (codes "*0\r\n")
blank = array_spells Blank (codes "*0\r\n") (inl (sym zero_line))

not_blank : Spells Blank (codes "*00\r\n") → ⊥
not_blank s = elim (array_of Blank (codes "*00\r\n") (codes "00\r\n") [] s refl) [
  | inl none ↦ (let longer : ◌≡◌ {A = ℕ} 5 4 = ap length (none ∙ zero_line) in omega arith)
  | inr null ↦ (let minus : ◌≡◌ {A = ℕ} 48 45 = ap (λ t. get_or t 1 0) null in omega arith)
]

minus_begun : IsBegun (codes "*-")
minus_begun = null_begun (codes "*-") (13 ∷ 10 ∷ []) 49 refl

no_head : IsPlace [] InvalidArrayLength → ⊥
unfolding IsPlace
no_head (part, inside, e) = cc

no_place : IsPlace (codes "*") ExpectedBulk → ⊥
unfolding IsPlace
no_place (n, few, words, fewer, fits, e) =
    let long : 1 ≡ length (array_line n ++ (bulks words ++ [])) = ap length e in
    omega (arith, length-append (array_line n) (bulks words ++ []), length-append (decimal n) (13 ∷ 10 ∷ []))

of_streams : OfStreams
unfolding IsPlace
of_streams = record {
  spelled = blank;
  not_spelled = not_blank;
  begun = minus_begun;
  not_begun = λ h. begun_none (codes "*0\r\n") h Blank (codes "*0\r\n") [] blank refl;
  none = begun_none (codes "*-") minus_begun;
  not_none = λ h. h Blank (codes "*0\r\n") [] blank refl;
  split = (codes "*0\r\n", codes "*-", blank, refl, (refl, begun_none (codes "*-") minus_begun));
  not_split = λ s. s.1 Blank (codes "*0\r\n") (codes "*-") blank refl;
  faulty = null_faulty [] (13 ∷ 10 ∷ []) [] 49 50 refl tt (λ e. omega arith);
  not_faulty = λ f. faulty_not_begun_lem (codes "*-") InvalidArrayLength f minus_begun;
  other_fault = λ f. (let same : ExpectedBulk ≡ InvalidArrayLength = fault_once_lem (codes "*-2") ExpectedBulk InvalidArrayLength f (null_faulty [] (13 ∷ 10 ∷ []) [] 49 50 refl tt (λ e. omega arith)) in cc);
  place = ([], tt, refl);
  not_place = no_head;
  other_place = no_place;
}

-- ---- lines

neither : (a b : Bool) → (a || b) ≡ false → (a ≡ false) × (b ≡ false)
neither true b e = absurd (let bad : true ≡ false = e in cc)
neither false b e = (refl, e)

is_not_lf : (b : ℕ) → (b == 10) ≡ false → b ≢ 10
is_not_lf b e same = (let bad : true ≡ false = subst (λ c. (c == 10) ≡ false) same e in cc)

no_lf : (line : List ℕ) → list_any (λ b. b == 10) line ≡ false → AllByRecursion (λ b. b ≢ 10) line
no_lf [] e = tt
no_lf (b ∷ line) e = (let parts = neither (b == 10) (list_any (λ c. c == 10) line) e in (is_not_lf b parts.0, no_lf line parts.1))

is_line : (line : List ℕ) → list_any (λ b. b == 10) line ≡ false → begins_array line ≡ false → length line ≤ line_limit → IsLine line
is_line line none plain short = (no_lf line none, short, plain)

-- another message isn't spelled
only : (m m' : Message) (bytes : List ℕ) → Spells m bytes → (m ≡ m' → ⊥) → Spells m' bytes → ⊥
only m m' bytes s differ s' = differ (spelled_once m m' bytes bytes [] [] s s' refl).0

spelled : (m : Message) (line : List ℕ) → IsLine line → message_of_text (text_of_line line) ≡ m → Spells m (line ++ 10 ∷ [])
spelled m line h is = subst (λ n. Spells n (line ++ 10 ∷ [])) is (line_whole line h)

first_length : Message → ℕ
first_length (Words (word ∷ words)) = length word
first_length (Words []) = 0
first_length Quoted = 1000
first_length Blank = 2000

count : Message → ℕ
count (Words words) = length words
count Quoted = 1000
count Blank = 2000

get : Spells (Words (codes "GET" ∷ codes "k" ∷ [])) (codes "GET k\n")
get = spelled (Words (codes "GET" ∷ codes "k" ∷ [])) (codes "GET k") (is_line (codes "GET k") refl refl (omega arith)) refl

ping : Spells (Words (codes "PING" ∷ [])) (codes "PING\r\n")
ping = spelled (Words (codes "PING" ∷ [])) (codes "PING\r") (is_line (codes "PING\r") refl refl (omega arith)) refl

inner : Spells (Words (codes "PI\rNG" ∷ [])) (codes "PI\rNG\n")
inner = spelled (Words (codes "PI\rNG" ∷ [])) (codes "PI\rNG") (is_line (codes "PI\rNG") refl refl (omega arith)) refl

two : Spells (Words (codes "a" ∷ codes "b" ∷ [])) (codes "a  b\n")
two = spelled (Words (codes "a" ∷ codes "b" ∷ [])) (codes "a  b") (is_line (codes "a  b") refl refl (omega arith)) refl

single : Spells Quoted (codes "it's\n")
single = spelled Quoted (codes "it's") (is_line (codes "it's") refl refl (omega arith)) refl

spaces : Spells Blank (codes " \t\r\n")
spaces = spelled Blank (codes " \t\r") (is_line (codes " \t\r") refl refl (omega arith)) refl

empty : Spells Blank (codes "\n")
empty = spelled Blank [] (tt, omega arith, refl) refl

dollar_begun : IsBegun (codes "$5")
dollar_begun = line_begun (codes "$5") (is_line (codes "$5") refl refl (omega arith))

xs_no_lf : (n : ℕ) → AllByRecursion {X = ℕ} (λ b. b ≢ 10) (replicate n 120)
xs_no_lf zero = tt
xs_no_lf (suc n) = (λ e. omega arith, xs_no_lf n)

xs_plain : (n : ℕ) → begins_array (replicate n 120) ≡ false
xs_plain zero = refl
xs_plain (suc n) = refl

xs_line : (n : ℕ) → n ≤ line_limit → IsLine (replicate n 120)
xs_line n short = (xs_no_lf n, (let l : length (replicate {A = ℕ} n 120) ≡ n = length-replicate n 120 in omega arith), xs_plain n)

xs_faulty : (n limit : ℕ) → limit ≡ line_limit → limit < n → IsFaulty (replicate n 120) InlineTooLong
xs_faulty n limit is long =
    let x : ℕ = 120 in
    let parts : replicate limit x ++ x ∷ replicate (n - limit - 1) x ≡ replicate n x = replicate-append-replicate limit (suc (n - limit - 1)) x ∙ ap (λ k. replicate k x) (omega arith) in
    subst (λ t. IsFaulty t InlineTooLong) parts
    (line_too_long (replicate limit x) (replicate (n - limit - 1) x) x (xs_line limit (omega arith)) (let l = length-replicate limit x in omega arith) (λ e. omega arith))

of_lines : OfLines
unfolding first_length count
of_lines = record {
  words = get;
  not_words = only (Words (codes "GET" ∷ codes "k" ∷ [])) (Words (codes "GET k" ∷ [])) (codes "GET k\n") get (λ e. let n : ◌≡◌ {A = ℕ} 2 1 = ap count e in omega arith);
  cr = ping;
  not_cr = only (Words (codes "PING" ∷ [])) (Words (codes "PING\r" ∷ [])) (codes "PING\r\n") ping (λ e. let n : ◌≡◌ {A = ℕ} 4 5 = ap first_length e in omega arith);
  inner_cr = spelled (Words (codes "PI\rNG\r" ∷ [])) (codes "PI\rNG\r\r") (is_line (codes "PI\rNG\r\r") refl refl (omega arith)) refl;
  not_inner_cr = only (Words (codes "PI\rNG" ∷ [])) (Words (codes "PI" ∷ codes "NG" ∷ [])) (codes "PI\rNG\n") inner (λ e. let n : ◌≡◌ {A = ℕ} 1 2 = ap count e in omega arith);
  spaces = spelled (Words (codes "a" ∷ codes "b" ∷ [])) (codes " a \tb\t") (is_line (codes " a \tb\t") refl refl (omega arith)) refl;
  not_spaces = only (Words (codes "a" ∷ codes "b" ∷ [])) (Words (codes "a" ∷ [] ∷ codes "b" ∷ [])) (codes "a  b\n") two (λ e. let n : ◌≡◌ {A = ℕ} 2 3 = ap count e in omega arith);
  quoted = spelled Quoted (codes "ECHO \"m\"\r") (is_line (codes "ECHO \"m\"\r") refl refl (omega arith)) refl;
  single = single;
  not_quoted = only Quoted (Words (codes "it's" ∷ [])) (codes "it's\n") single (λ e. let n : ◌≡◌ {A = ℕ} 1000 1 = ap count e in omega arith);
  blank = spaces;
  not_blank = only Blank (Words (codes " \t" ∷ [])) (codes " \t\r\n") spaces (λ e. let n : ◌≡◌ {A = ℕ} 2000 1 = ap count e in omega arith);
  empty = empty;
  not_empty = only Blank (Words []) (codes "\n") empty (λ e. let n : ◌≡◌ {A = ℕ} 2000 0 = ap count e in omega arith);
  sign = spelled (Words (codes "$5" ∷ [])) (codes "$5\r") (is_line (codes "$5\r") refl refl (omega arith)) refl;
  begun = dollar_begun;
  not_faulty = λ f. faulty_not_begun_lem (codes "$5") ExpectedBulk f dollar_begun;
  waits = λ n short. line_begun (replicate n 120) (xs_line n short);
  too_long = λ n long. xs_faulty n line_limit refl long;
}

same_digest : (a : List ℕ) (tenant : ℕ) → ◌≡◌ {A = Option ℕ} (if bytes_eq a a then Some tenant else None) (Some tenant)
same_digest a tenant = ap (λ b. if b then Some tenant else None) (nat_list_eq_equiv.refl a)

of_logins : OfLogins
unfolding login
of_logins = record { right = same_digest (sha256 (codes "abc")) 1; other_name = refl; nobody = refl }

nothing_taken : Takes Blank [] [] → ⊥
nothing_taken (front, spelling, rest, all, s, e) =
    let some = spelled_some Blank spelling s in
    let none : 0 ≡ length (front ++ (spelling ++ rest)) = ap length e in
    omega (arith, length-append front (spelling ++ rest), length-append spelling rest)

not_waited : Waits (codes "*0\r\n") [] → ⊥
not_waited (front, rest, all, begun, e) =
    let whole : codes "*0\r\n" ≡ rest = e ∙ ap (λ f. f ++ rest) all in
    begun_none (codes "*0\r\n") (subst IsBegun (sym whole) begun) Blank (codes "*0\r\n") [] blank refl

-- what stands there isn't the words of a message
no_words : TakesWords (codes "*0\r\n") [] → ⊥
no_words (words, (front, spelling, rest, all, s, e)) =
    let whole : spelling ++ rest ≡ codes "*0\r\n" ++ [] = sym (ap (λ f. f ++ (spelling ++ rest)) all) ∙ sym e in
    let same : ◌≡◌ {A = Message} (Words words) Blank = (spelled_once (Words words) Blank spelling (codes "*0\r\n") rest [] s blank whole).0 in cc

abbrev first_of_name : Option Entry → ℕ
first_of_name None = 0
first_of_name (Some entry) = get_or entry.name 0 0

of_histories : OfHistories
unfolding IsHistory IsStep Follows MayBeVoid part_of status_of stream_of taken_by served_as line_of service_of tellings telling_of told_at entry_at kind_of
of_histories = record {
  history = ((refl, ([], codes "*0\r\n", [], refl, blank, refl), λ e. absurd (false≢true e)), (tt, (tt, tt)));
  not_history = λ h. nothing_taken h.0.1;
  not_waiting = λ h. not_waited h.0;
  void_open = (refl, tt);
  no_void_close = λ h. h.0;
  no_void_blank = λ h. no_words h.0.1;
  no_refused_blank = λ h. absurd (false≢true (h.0.2 refl));
  is_open = refl;
  is_closed = refl;
  stream = refl;
  told = refl;
  void = refl;
  alike = record { entry = refl; line = refl };
  not_alike = λ h. (let bad : 97 ≡ 98 = ap first_of_name h.entry in omega arith);
  another = λ e. omega arith;
  not_another = λ h. h refl;
  tenant = (omega arith, omega arith);
  not_tenant = λ h. (let bad : 1 ≤ 0 = h.0 in omega arith);
}

of_charges : OfCharges
of_charges = record { once = refl }

pub examples_lem : Examples
examples_lem = (encodings, of_words, of_streams, of_lines, of_logins, of_histories, of_charges)
