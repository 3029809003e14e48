-- A seat's receipts beside a journal, as both are read from the oldest on.
use Rattle.std.proofs.Common.{◌≡◌, ◌≢◌, ℕ, Bool, true, false, List, [], ◌∷◌, ◌++◌, map, filter, reverse, drop, get_or, append-nil, length, ◌+◌, ◌<◌, ◌≤◌, refl, ap, sym, subst, ◌∙◌, arith}
use Rattle.std.specs.Prelude.{◌==◌, if◌then◌else◌}
use Rattle.std.proofs.lemmas.List.{reverse-append, reverse-reverse, drop_more, drop_all, length-map}
use Rattle.std.proofs.lemmas.List.Elements.{filter-append}
use Rattle.stow_shared.specs.declared.entry.Entry as coded
use Rattle.stow_shared.specs.Entries.{Entry, entry_of, entries_of}
use Rattle.stow_shared.specs.Journals.{entries_by}

-- the receipts are the seat's entries
abbrev pub AreThose : {A : Type 0} → ℕ → List (coded.Entry A) → List (coded.Entry A) → Type 0
AreThose number receipts journal = map entry_of receipts ≡ entries_by number (map entry_of journal)

-- the receipts are the seat's entries just where those that are left are the entries ahead
abbrev pub SameAhead : {A : Type 0} → ℕ → List Entry → List (coded.Entry A) → List (coded.Entry A) → List (coded.Entry A) → Type 0
SameAhead number receipts journal left ahead =
    (receipts ≡ entries_by number (entries_of journal) → AreThose number left ahead) × (AreThose number left ahead → receipts ≡ entries_by number (entries_of journal))

one_filtered : {X : Type 0} (x : X) (kept : List X) (b : Bool) → reverse kept ++ (if b then x ∷ [] else []) ≡ reverse (if b then x ∷ kept else kept)
one_filtered x kept true = sym (reverse-append (x ∷ []) kept)
one_filtered x kept false = append-nil (reverse kept)

filter_reverse : {X : Type 0} (p : X → Bool) (xs : List X) → filter p (reverse xs) ≡ reverse (filter p xs)
filter_reverse p [] = refl
filter_reverse p (x ∷ xs) = ap (filter p) (reverse-append (x ∷ []) xs) ∙ filter-append p (reverse xs) (x ∷ []) ∙ ap (λ l. l ++ filter p (x ∷ [])) (filter_reverse p xs) ∙ one_filtered x (filter p xs) (p x)

-- ---- from the newest on and from the oldest on

pub from_newest : {A : Type 0} (number : ℕ) (receipts journal : List (coded.Entry A)) → entries_of receipts ≡ entries_by number (entries_of journal) → AreThose number receipts journal
from_newest number receipts journal e =
    sym (reverse-reverse (map entry_of receipts)) ∙ ap reverse (e ∙ filter_reverse (λ entry. number == entry.seat) (map entry_of journal)) ∙ reverse-reverse (entries_by number (map entry_of journal))

pub from_oldest : {A : Type 0} (number : ℕ) (receipts journal : List (coded.Entry A)) → AreThose number receipts journal → entries_of receipts ≡ entries_by number (entries_of journal)
from_oldest number receipts journal e = ap reverse e ∙ sym (filter_reverse (λ entry. number == entry.seat) (map entry_of journal))

pub at_first : {A : Type 0} (number : ℕ) (receipts : List Entry) (journal left : List (coded.Entry A)) → entries_of left ≡ receipts → SameAhead number receipts journal left journal
at_first number receipts journal left e =
    (λ same. from_newest number left journal (e ∙ same), λ same. sym e ∙ from_oldest number left journal same)

-- ---- one entry on

heads : {X : Type 0} (x y : X) (xs ys : List X) → x ∷ xs ≡ y ∷ ys → x ≡ y
heads x y xs ys e = ap (λ l. get_or l 0 x) e

tails : {X : Type 0} (x y : X) (xs ys : List X) → x ∷ xs ≡ y ∷ ys → xs ≡ ys
tails x y xs ys e = ap (λ l. drop 1 l) e

filtered_away : (number : ℕ) (entry : Entry) (later : List Entry) → (number == entry.seat) ≡ false → entries_by number (entry ∷ later) ≡ entries_by number later
filtered_away number entry later away = ap (λ (b : Bool). if b then entry ∷ entries_by number later else entries_by number later) away

filtered_here : (number : ℕ) (entry : Entry) (later : List Entry) → (number == entry.seat) ≡ true → entries_by number (entry ∷ later) ≡ entry ∷ entries_by number later
filtered_here number entry later here = ap (λ (b : Bool). if b then entry ∷ entries_by number later else entries_by number later) here

-- an entry of another seat
pub passed_by : {A : Type 0} (number : ℕ) (receipts : List Entry) (journal left : List (coded.Entry A)) (entry : coded.Entry A) (later : List (coded.Entry A)) → (number == entry.seat) ≡ false
    → SameAhead number receipts journal left (entry ∷ later) → SameAhead number receipts journal left later
passed_by number receipts journal left entry later away same =
    let skip = filtered_away number (entry_of entry) (map entry_of later) away in
    (λ e. same.0 e ∙ skip, λ e. same.1 (e ∙ sym skip))

-- an entry of the seat, which is its next receipt
pub passed_on : {A : Type 0} (number : ℕ) (receipts : List Entry) (journal : List (coded.Entry A)) (receipt : coded.Entry A) (left : List (coded.Entry A)) (entry : coded.Entry A) (later : List (coded.Entry A)) → (number == entry.seat) ≡ true
    → entry_of receipt ≡ entry_of entry → SameAhead number receipts journal (receipt ∷ left) (entry ∷ later) → SameAhead number receipts journal left later
passed_on number receipts journal receipt left entry later here is same =
    let take = filtered_here number (entry_of entry) (map entry_of later) here in
    (λ e. tails (entry_of receipt) (entry_of entry) (map entry_of left) (entries_by number (map entry_of later)) (same.0 e ∙ take), λ e. same.1 ((λ i. is i ∷ e i) ∙ sym take))

-- an entry of the seat, which isn't
pub differs : {A : Type 0} (number : ℕ) (receipts : List Entry) (journal : List (coded.Entry A)) (receipt : coded.Entry A) (left : List (coded.Entry A)) (entry : coded.Entry A) (later : List (coded.Entry A)) → (number == entry.seat) ≡ true
    → entry_of receipt ≢ entry_of entry → SameAhead number receipts journal (receipt ∷ left) (entry ∷ later) → receipts ≢ entries_by number (entries_of journal)
differs number receipts journal receipt left entry later here isnt same e =
    isnt (heads (entry_of receipt) (entry_of entry) (map entry_of left) (entries_by number (map entry_of later)) (same.0 e ∙ filtered_here number (entry_of entry) (map entry_of later) here))

-- .. and none is left
pub none_left : {A : Type 0} (number : ℕ) (receipts : List Entry) (journal : List (coded.Entry A)) (entry : coded.Entry A) (later : List (coded.Entry A)) → (number == entry.seat) ≡ true
    → SameAhead number receipts journal [] (entry ∷ later) → receipts ≢ entries_by number (entries_of journal)
none_left number receipts journal entry later here same e = let none : ◌≡◌ {A = List Entry} [] (entry_of entry ∷ entries_by number (map entry_of later)) = same.0 e ∙ filtered_here number (entry_of entry) (map entry_of later) here in cc none

-- ---- along the journal

entry_ahead : {A : Type 0} (journal : List (coded.Entry A)) (i : ℕ) (entry : coded.Entry A) → entry ≡ get_or journal i entry → i < length journal → drop i journal ≡ entry ∷ drop (i + 1) journal
entry_ahead journal i entry at within = drop_more journal i entry within ∙ ap (λ e. e ∷ drop (i + 1) journal) (sym at)

pub next_passed : {A : Type 0} (number : ℕ) (receipts : List Entry) (journal left left' : List (coded.Entry A)) (i : ℕ) (entry : coded.Entry A) → entry ≡ get_or journal i entry → i < length journal → (number == entry.seat) ≡ false → left' ≡ left
    → SameAhead number receipts journal left (drop i journal) → SameAhead number receipts journal left' (drop (i + 1) journal)
next_passed {A = A} number receipts journal left left' i entry at within away stays same =
    let P : List (coded.Entry A) → Type 0 = λ l. SameAhead number receipts journal left l in
    let Q : List (coded.Entry A) → Type 0 = λ l. SameAhead number receipts journal l (drop (i + 1) journal) in
    subst Q (sym stays) (passed_by number receipts journal left entry (drop (i + 1) journal) away (subst P (entry_ahead journal i entry at within) same))

-- the entry ahead, and the receipts that are left
both_ahead : {A : Type 0} (number : ℕ) (receipts : List Entry) (journal left left' : List (coded.Entry A)) (i : ℕ) (entry : coded.Entry A) → entry ≡ get_or journal i entry → i < length journal → left ≡ left'
    → SameAhead number receipts journal left (drop i journal) → SameAhead number receipts journal left' (entry ∷ drop (i + 1) journal)
both_ahead {A = A} number receipts journal left left' i entry at within split same =
    let P : List (coded.Entry A) → Type 0 = λ l. SameAhead number receipts journal left l in
    let Q : List (coded.Entry A) → Type 0 = λ l. SameAhead number receipts journal l (entry ∷ drop (i + 1) journal) in
    subst Q split (subst P (entry_ahead journal i entry at within) same)

pub next_taken : {A : Type 0} (number : ℕ) (receipts : List Entry) (journal left left' : List (coded.Entry A)) (receipt : coded.Entry A) (later : List (coded.Entry A)) (i : ℕ) (entry : coded.Entry A) → entry ≡ get_or journal i entry → i < length journal → (number == entry.seat) ≡ true
    → left ≡ receipt ∷ later → left' ≡ later → entry_of receipt ≡ entry_of entry → SameAhead number receipts journal left (drop i journal) → SameAhead number receipts journal left' (drop (i + 1) journal)
next_taken {A = A} number receipts journal left left' receipt later i entry at within here split stays is same =
    let Q : List (coded.Entry A) → Type 0 = λ l. SameAhead number receipts journal l (drop (i + 1) journal) in
    subst Q (sym stays) (passed_on number receipts journal receipt later entry (drop (i + 1) journal) here is (both_ahead number receipts journal left (receipt ∷ later) i entry at within split same))

pub next_differs : {A : Type 0} (number : ℕ) (receipts : List Entry) (journal left : List (coded.Entry A)) (receipt : coded.Entry A) (later : List (coded.Entry A)) (i : ℕ) (entry : coded.Entry A) → entry ≡ get_or journal i entry → i < length journal → (number == entry.seat) ≡ true
    → left ≡ receipt ∷ later → entry_of receipt ≢ entry_of entry → SameAhead number receipts journal left (drop i journal) → receipts ≢ entries_by number (entries_of journal)
next_differs number receipts journal left receipt later i entry at within here split isnt same =
    differs number receipts journal receipt later entry (drop (i + 1) journal) here isnt (both_ahead number receipts journal left (receipt ∷ later) i entry at within split same)

empty_of : {X : Type 0} (xs : List X) → length xs ≡ 0 → xs ≡ []
empty_of [] e = refl
empty_of (x ∷ xs) e = absurd (omega (arith, e))

pub next_missing : {A : Type 0} (number : ℕ) (receipts : List Entry) (journal left : List (coded.Entry A)) (i : ℕ) (entry : coded.Entry A) → entry ≡ get_or journal i entry → i < length journal → (number == entry.seat) ≡ true
    → length left ≡ 0 → SameAhead number receipts journal left (drop i journal) → receipts ≢ entries_by number (entries_of journal)
next_missing number receipts journal left i entry at within here none same =
    none_left number receipts journal entry (drop (i + 1) journal) here (both_ahead number receipts journal left [] i entry at within (empty_of left none) same)

-- at the end the receipts are the entries just where none is left
pub at_end : {A : Type 0} (number : ℕ) (receipts : List Entry) (journal left : List (coded.Entry A)) (i : ℕ) → length journal ≤ i → SameAhead number receipts journal left (drop i journal)
    → (length left ≡ 0 → receipts ≡ entries_by number (entries_of journal)) × (receipts ≡ entries_by number (entries_of journal) → length left ≡ 0)
at_end {A = A} number receipts journal left i past same =
    let P : List (coded.Entry A) → Type 0 = λ l. SameAhead number receipts journal left l in
    let last = subst P (drop_all i journal past) same in
    (λ none. last.1 (ap (map entry_of) (empty_of left none)), λ e. sym (length-map left entry_of) ∙ ap length (last.0 e))
