-- What is compared when a lock is closed.
use Rattle.std.specs.Prelude.{◌≡◌, ℕ, ◌≤◌, Bool, true, List, length, filter, sum_by, ◌==◌}
use Rattle.std.specs.List.{All}
use Rattle.stow_model.specs.Login as login
use Rattle.stow_shared.specs.Books.{BookState}
use Rattle.stow_shared.specs.Entries.{Entry}
use Rattle.stow_shared.specs.Journals.{entries_by, IsLegal}
use Rattle.stow_shared.specs.Opened.{SharedState}
use Rattle.stow_shared.specs.Seats.{SeatState}

-- how many of the seats have this number
abbrev pub seats_of : ℕ → List SeatState → ℕ
seats_of number seats = length (filter (λ seat. seat.number == number) seats)

-- one seat of each number up to the count, and no other
abbrev pub AreOneEach : ℕ → List SeatState → Type 0
AreOneEach count seats = (length seats ≡ count)
    × ((number : ℕ) → 1 ≤ number → number ≤ count → seats_of number seats ≡ 1)

-- the seat's receipts are the journal's entries of its number, in order, each once
abbrev pub HasReceipts : List Entry → SeatState → Type 0
HasReceipts journal seat = seat.receipts ≡ entries_by seat.number journal

-- the entry is of a seat
abbrev pub IsOfSeat : ℕ → Entry → Type 0
IsOfSeat count entry = (1 ≤ entry.seat) × (entry.seat ≤ count)

-- all that is handed back belongs together: a seat of each number, the tenants of the core, and,
-- where entries are kept, the receipts of each seat and no entry of another
pub record IsWhole (keeps : Bool) (tenants : List login.Entry) (count : ℕ) (seats : List SeatState)
    (book : BookState) : Type 0 where
  pub each : AreOneEach count seats
  pub same : book.core.entries ≡ tenants
  pub receipts : keeps ≡ true → All (HasReceipts book.entries) seats
  pub numbers : keeps ≡ true → All (IsOfSeat count) book.entries

-- the lock was closed: all belongs together, the journal leads to the core, and is as long as the
-- receipts together
pub record Closes (keeps : Bool) (shared : SharedState) (seats : List SeatState)
    (closed : BookState) : Type 0 where
  pub whole : IsWhole keeps shared.tenants shared.seats seats closed
  pub legal : keeps ≡ true → IsLegal closed.entries closed.core
  pub lengths : keeps ≡ true → length closed.entries ≡ sum_by (λ seat. length seat.receipts) seats
