use Rattle.std.proofs.Common.{◌≡◌, ℕ, ◌+◌, ◌<◌, Some, length}
use Rattle.std.specs.Prelude.{slice_get}
use Rattle.stow_shared.specs.Seats.{new_seat}
use Rattle.stow_shared.proofs.shared.new_seats.Given as goal

abbrev pub invariant-loop-before : goal.invariant-loop-before
invariant-loop-before g l = (length l.seats.items ≡ l.before) × ((k : ℕ) → k < l.before → slice_get l.seats.items k ≡ Some (new_seat (k + 1)))
