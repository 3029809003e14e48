-- What the workers and flushers of a pool did with their seats.
use Rattle.std.specs.Prelude.{◌≡◌, ℕ, zero, suc, Bool, List, [], ◌∷◌, take, drop}
use Rattle.stow_shared.specs.Seats.{SeatState, SeatCalls, SeatFlushes}
use Rattle.stow_workers.specs.Exchanges.{Call, LeadTo}
use Rattle.stow_workers.specs.Flushes.{HasFlushed}
use Rattle.stow_workers.specs.declared.worker.Worker.{Worker}
use Rattle.stow_workers.specs.declared.worker.Worker.TheVariants as worker

-- Calls led the seat from one state to the other: of each it gained the receipt, where receipts are
-- kept, or counted that memory was refused to it. Nothing else happened to it.
pub record HasCalled (keeps : Bool) (old new : SeatState) : Type 0 where
  pub calls : List Call
  pub led : LeadTo (SeatCalls keeps) old calls new

-- the relation holds of the elements at each place, and there are as many
unfoldable pub AreEach : {X Y : Type 0} → (X → Y → Type 0) → List X → List Y → Type 0
AreEach R [] [] = Unit {0}
AreEach R (x ∷ xs) (y ∷ ys) = R x y × AreEach R xs ys
AreEach R [] (y ∷ ys) = ⊥
AreEach R (x ∷ xs) [] = ⊥

-- a worker of this seat: its thread gives the seat back after calls, or it has the seat
abbrev pub IsWorkerOf : {J A : Type 0} → Bool → SeatState → Worker J A → Type 0
IsWorkerOf keeps seat (worker.Serving thread) = thread.promise.seat.value ≡ seat
IsWorkerOf keeps seat (worker.Flushing thread) = ⊥
IsWorkerOf keeps seat (worker.Idle handed) = HasCalled keeps seat handed

-- a flusher of this seat: its thread gives the seat back after plans and installs, or it has the
-- seat
abbrev pub IsFlusherOf : {J A : Type 0} → Bool → SeatState → Worker J A → Type 0
IsFlusherOf keeps seat (worker.Serving thread) = ⊥
IsFlusherOf keeps seat (worker.Flushing thread) = thread.promise.seat.value ≡ seat
IsFlusherOf keeps seat (worker.Idle handed) = HasFlushed (SeatFlushes keeps) seat handed

-- what joining a worker or a flusher gives: its seat, after calls alone or after plans and installs
-- alone
pub record GivesBack {J A : Type 0} (keeps : Bool) (worker : Worker J A) (seat : SeatState) : Type 0
  where
    pub called : (first : SeatState) → IsWorkerOf keeps first worker → HasCalled keeps first seat
    pub flushed : (first : SeatState) → IsFlusherOf keeps first worker
        → HasFlushed (SeatFlushes keeps) first seat

-- one relation holds of the first so many at each place, and another of those behind them
pub record AreEachUpTo {X Y : Type 0} (count : ℕ) (R S : X → Y → Type 0) (xs : List X)
    (ys : List Y) : Type 0 where
  pub first : AreEach R (take count xs) (take count ys)
  pub others : AreEach S (drop count xs) (drop count ys)

-- the seats come back, each in its place: the first so many after calls alone, and the others after
-- plans and installs alone
abbrev pub ComeBack : Bool → ℕ → List SeatState → List SeatState → Type 0
ComeBack keeps count = AreEachUpTo count (HasCalled keeps) (HasFlushed (SeatFlushes keeps))

-- how many connections a pool accepts that is to accept so many: at 0 there is no end
abbrev pub total_of : ℕ → ℕ
total_of zero = 18446744073709551615
total_of (suc before) = suc before
