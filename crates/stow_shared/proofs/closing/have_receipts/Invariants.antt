use Rattle.std.proofs.Common.{ℕ, ◌<◌, get_or}
use Rattle.stow_shared.specs.Closed.{HasReceipts}
use Rattle.stow_shared.specs.Entries.{entries_of}
use Rattle.stow_shared.specs.Seats.{SeatState}
use Rattle.stow_shared.proofs.closing.have_receipts.Given as goal

abbrev pub invariant-loop-seat : goal.invariant-loop-seat
invariant-loop-seat g l = (k : ℕ) (d : SeatState) → k < l.seat-index → HasReceipts (entries_of l.journal) (get_or l.seats k d)
