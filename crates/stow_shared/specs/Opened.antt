-- A core that is opened for threads.
use Rattle.std.specs.Prelude.{◌≡◌, ℕ, ◌+◌, ◌≤◌, ◌<◌, List, length, Some, slice_get}
use Rattle.stow_house.specs.StowCore.State.{CoreState}
use Rattle.stow_model.specs.Login as login
use Rattle.stow_shared.specs.declared.open_fault.OpenFault.{OpenFault}
use Rattle.stow_shared.specs.declared.open_fault.OpenFault.TheVariants as fault
use Rattle.stow_shared.specs.Seats.{SeatState, new_seat}

-- what threads share, beside what stands under the lock: who the tenants are, how many seats there
-- are, and the core as it was opened
pub record SharedState : Type 0 where
  pub tenants : List login.Entry
  pub seats : ℕ
  pub opened : CoreState

-- so many seats there may be
abbrev pub IsSeatCount : ℕ → Type 0
IsSeatCount count = (1 ≤ count) × (count ≤ 1024)

-- so many seats, numbered from 1, from which no step was taken
abbrev pub AreNewSeats : ℕ → List SeatState → Type 0
AreNewSeats count seats = (length seats ≡ count)
    × ((k : ℕ) → k < count → slice_get seats k ≡ Some (new_seat (k + 1)))

abbrev pub fault_number : OpenFault → ℕ
fault_number fault.SeatCount = 1
fault_number fault.OutOfMemory = 2

-- the number of seats is wrong, or, where it isn't, memory was refused
abbrev pub IsFaultOf : ℕ → OpenFault → Type 0
IsFaultOf count fault.SeatCount = ¬ (IsSeatCount count)
IsFaultOf count fault.OutOfMemory = IsSeatCount count

-- this core, with its tenants, is shared by a new seat of each number
pub record Opens (core : CoreState) (count : ℕ) (shared : SharedState) (seats : List SeatState)
    : Type 0 where
  pub counted : IsSeatCount count
  pub shares : shared ≡ record { tenants = core.entries; seats = count; opened = core }
  pub each : AreNewSeats count seats
