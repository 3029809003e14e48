-- A seat: what it was told under the lock.
use Rattle.std.specs.Prelude.{◌≡◌, ℕ, Bool, List, [], if◌then◌else◌, is_some}
use Rattle.stow_house.specs.FlushDoors.{Flushing, Planned, Came, Refused}
use Rattle.stow_model.specs.Reply.{Reply}
use Rattle.stow_model.specs.Store.{one_more, is_out_of_memory}
use Rattle.stow_shared.specs.Entries.{Entry, call_entry, plan_entry, install_entry}
use Rattle.stow_shared.specs.Journals.{with_entry}

-- its number, the entries that it added, newest first, and how many of its calls memory was refused
-- to
pub record SeatState : Type 0 where
  pub number : ℕ
  pub receipts : List Entry
  pub refused : ℕ

-- no step was taken from it
abbrev pub new_seat : ℕ → SeatState
new_seat number = record { number = number; receipts = []; refused = 0 }

-- the seat with a receipt more, where receipts are kept
abbrev pub with_receipt : Bool → Entry → SeatState → SeatState
with_receipt keeps entry seat = record seat { receipts = with_entry keeps entry seat.receipts }

-- the seat with a refused call more, up to the limit of counts
abbrev pub with_refusal : SeatState → SeatState
with_refusal seat = record seat { refused = one_more seat.refused }

-- the seat after a call, by what it was told: a refused call more where that is want of memory, and
-- else its receipt
abbrev pub after_call : Bool → ℕ → List (List ℕ) → Reply → SeatState → SeatState
after_call keeps tenant words told seat =
    if is_out_of_memory told then with_refusal seat
    else with_receipt keeps (call_entry seat.number tenant words told) seat

abbrev pub SeatCalls : Bool → SeatState → ℕ → List (List ℕ) → Reply → SeatState → Type 0
SeatCalls keeps old tenant words told new = new ≡ after_call keeps tenant words told old

-- the seat after what a flusher did: its receipt, and nothing where memory was refused
abbrev pub after_flushing : Bool → Flushing → SeatState → SeatState
after_flushing keeps (Planned messages) seat =
    with_receipt keeps (plan_entry seat.number (is_some messages)) seat
after_flushing keeps (Came told) seat = with_receipt keeps (install_entry seat.number told) seat
after_flushing keeps Refused seat = seat

abbrev pub SeatFlushes : Bool → SeatState → Flushing → SeatState → Type 0
SeatFlushes keeps old done new = new ≡ after_flushing keeps done old
