-- The lengths of receipts, added up.
use Rattle.std.proofs.Common.{◌≡◌, ℕ, ◌+◌, ◌<◌, Bool, true, false, List, [], ◌∷◌, length, filter, get_or, reverse, refl, ap, sym, subst, ◌∙◌, ◌≤◌, ◌-◌, below_more, map, zero-add, arith}
use Rattle.std.specs.Prelude.{◌==◌, if◌then◌else◌, sum_by}
use Rattle.std.specs.List.{All, AllByRecursion}
use Rattle.std.proofs.lemmas.List.Elements.{All-tail, All-map}
use Rattle.std.proofs.lemmas.List.{length-reverse, reverse-reverse, get_or-reverse, get_or_default}
use Rattle.std.proofs.lemmas.List.Sums.{sum_by-cons}
use Rattle.stow_shared.specs.Closed.{seats_of, HasReceipts, IsOfSeat}
use Rattle.stow_house.proofs.StowLogin.Same.{mapped_at, length_of_map}
use Rattle.stow_shared.specs.declared.entry.Entry as coded
use Rattle.stow_shared.specs.Entries.{Entry, entry_of, entries_of}
use Rattle.stow_shared.specs.Journals.{entries_by}
use Rattle.stow_shared.specs.Seats.{SeatState}

-- the lengths of the seats' parts of a journal
abbrev parts : List Entry → List SeatState → ℕ
parts journal seats = sum_by (λ seat. length (entries_by seat.number journal)) seats

no_parts : (seats : List SeatState) → parts [] seats ≡ 0
no_parts [] = refl
no_parts (seat ∷ seats) = sum_by-cons (λ s. length (entries_by s.number [])) seat seats ∙ zero-add (parts [] seats) ∙ no_parts seats

one_here : (b : Bool) (entry : Entry) (entries : List Entry) (seat : SeatState) (seats found : List SeatState) (rest more : ℕ) → more ≡ length found + rest
    → length (if b then entry ∷ entries else entries) + more ≡ length (if b then seat ∷ found else found) + (length entries + rest)
one_here true entry entries seat seats found rest more e = omega (arith, e)
one_here false entry entries seat seats found rest more e = omega (arith, e)

one_more_part : (entry : Entry) (journal : List Entry) (seats : List SeatState) → parts (entry ∷ journal) seats ≡ seats_of entry.seat seats + parts journal seats
one_more_part entry journal [] = refl
one_more_part entry journal (seat ∷ seats) =
    let found = filter (λ s. s.number == entry.seat) seats in
    let here = one_here (seat.number == entry.seat) entry (entries_by seat.number journal) seat seats found (parts journal seats) (parts (entry ∷ journal) seats) (one_more_part entry journal seats) in
    sum_by-cons (λ s. length (entries_by s.number (entry ∷ journal))) seat seats ∙ here
    ∙ ap (λ n. length (if seat.number == entry.seat then seat ∷ found else found) + n) (sym (sum_by-cons (λ s. length (entries_by s.number journal)) seat seats))

all_parts : (journal : List Entry) (seats : List SeatState) → AllByRecursion (λ entry. seats_of entry.seat seats ≡ 1) journal → parts journal seats ≡ length journal
all_parts [] seats all = no_parts seats
all_parts (entry ∷ journal) seats all = let more = one_more_part entry journal seats in let rest = all_parts journal seats all.1 in let one = all.0 in omega (arith, more, rest, one)

receipts_are_parts : (journal : List Entry) (seats : List SeatState) → All (HasReceipts journal) seats → sum_by (λ seat. length seat.receipts) seats ≡ parts journal seats
receipts_are_parts journal [] all = refl
receipts_are_parts journal (seat ∷ seats) all =
    let here : seat.receipts ≡ entries_by seat.number journal = all 0 seat (omega arith) in
    let later = receipts_are_parts journal seats (All-tail (HasReceipts journal) seat seats all) in
    sum_by-cons (λ s. length s.receipts) seat seats ∙ (λ i. length (here i) + later i) ∙ sym (sum_by-cons (λ s. length (entries_by s.number journal)) seat seats)

pub recursive : {X : Type 0} (P : X → Type 0) (xs : List X) → All P xs → AllByRecursion P xs
recursive P [] all = tt
recursive P (x ∷ xs) all = (all 0 x (omega arith), recursive P xs (All-tail P x xs all))

pub lengths : (journal : List Entry) (seats : List SeatState) → All (HasReceipts journal) seats → All (λ entry. seats_of entry.seat seats ≡ 1) journal → length journal ≡ sum_by (λ seat. length seat.receipts) seats
lengths journal seats receipts ones = sym (receipts_are_parts journal seats receipts ∙ all_parts journal seats (recursive (λ entry. seats_of entry.seat seats ≡ 1) journal ones))

-- ---- entries of seats

pub All-reverse : {X : Type 0} (P : X → Type 0) (xs : List X) → All P xs → All P (reverse xs)
All-reverse P xs all = λ k d within.
    let inside : k < length xs = rw (← length-reverse xs) within in
    rw (get_or-reverse xs k d inside) (all (length xs - 1 - k) d (omega (arith, inside)))

pub All-unreverse : {X : Type 0} (P : X → Type 0) (xs : List X) → All P (reverse xs) → All P xs
All-unreverse P xs all = let Q : List _ → Type 0 = λ l. All P l in subst Q (reverse-reverse xs) (All-reverse P (reverse xs) all)

-- whoever has one seat of each number has one of each entry's
pub one_of_each : (count : ℕ) (seats : List SeatState) (journal : List Entry) → ((number : ℕ) → 1 ≤ number → number ≤ count → seats_of number seats ≡ 1) → All (IsOfSeat count) journal → All (λ entry. seats_of entry.seat seats ≡ 1) journal
one_of_each count seats journal each all = λ k d within. let is = all k d within in each _ is.0 is.1

-- what holds of each up to a place, and of the one there
pub all_more : {X : Type 0} (P : X → Type 0) (xs : List X) (i : ℕ) (x : X) → x ≡ get_or xs i x → i < length xs → P x → ((k : ℕ) (d : X) → k < i → P (get_or xs k d)) → (k : ℕ) (d : X) → k < i + 1 → P (get_or xs k d)
all_more {X = X} P xs i x at within here before k d below =
    let Q : ℕ → Type 0 = λ n. (e : X) → P (get_or xs n e) in
    below_more Q i (λ n h e. before n e h) (λ e. subst P (at ∙ get_or_default xs i x e within) here) k below d

pub all_of_seats : {A : Type 0} (count : ℕ) (journal : List (coded.Entry A)) → ((k : ℕ) (d : coded.Entry A) → k < length journal → (1 ≤ (get_or journal k d).seat) × ((get_or journal k d).seat ≤ count)) → All (IsOfSeat count) (entries_of journal)
all_of_seats count journal all = All-reverse (IsOfSeat count) (map entry_of journal) (All-map (IsOfSeat count) entry_of journal all)

pub of_seat : {A : Type 0} (count : ℕ) (journal : List (coded.Entry A)) (i : ℕ) (entry : coded.Entry A) → entry ≡ get_or journal i entry → i < length journal → All (IsOfSeat count) (entries_of journal) → (1 ≤ entry.seat) × (entry.seat ≤ count)
of_seat count journal i entry at within all =
    let is = All-unreverse (IsOfSeat count) (map entry_of journal) all i (entry_of entry) (length_of_map entry_of journal i within) in
    let P : Entry → Type 0 = λ e. IsOfSeat count e in
    subst P (sym (mapped_at entry_of journal i entry within at)) is
