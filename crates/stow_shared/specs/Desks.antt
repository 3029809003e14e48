-- A seat's desk as a door.
use Rattle.std.specs.Prelude.{◌≡◌, ℕ, Bool, List}
use Rattle.stow_model.specs.Reply.{Reply}
use Rattle.stow_shared.specs.Seats.{SeatCalls}
use Rattle.stow_shared.specs.declared.desk.Desk.{Desk}

-- The seat is the same before and after, and gained the receipt of the call, or counted its
-- refusal.
abbrev pub DeskCalls : {R J A : Type 0} → Bool → Desk R J A → ℕ → List (List ℕ) → Reply
    → Desk R J A → Type 0
DeskCalls keeps old tenant words told new =
    (new.seat.ghost_name ≡ old.seat.ghost_name)
    × SeatCalls keeps old.seat.now tenant words told new.seat.now
