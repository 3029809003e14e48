-- New seats, one by one.
use Rattle.std.proofs.Common.{◌≡◌, ℕ, ◌+◌, List, [], ◌∷◌, ◌++◌, length, Some, ap, sym, ◌∙◌, below_more, arith}
use Rattle.std.specs.Prelude.{slice_get}
use Rattle.std.proofs.lemmas.List.{get_or_append_left, get_or_push, length_push}
use Rattle.std.proofs.lemmas.Option.{slice_get-get_or}
use Rattle.stow_shared.specs.Opened.{AreNewSeats}
use Rattle.stow_shared.specs.Seats.{SeatState, new_seat}

pub one_more_seat : (n : ℕ) (seats : List SeatState) → AreNewSeats n seats → AreNewSeats (n + 1) (seats ++ new_seat (n + 1) ∷ [])
one_more_seat n seats new =
    let next = new_seat (n + 1) in
    let more = seats ++ next ∷ [] in
    let P : ℕ → Type 0 = λ k. slice_get more k ≡ Some (new_seat (k + 1)) in
    let count : length more ≡ n + 1 = length_push seats next ∙ ap (λ m. m + 1) new.0 in (
      count,
      below_more P n
          (λ k below.
          slice_get-get_or more k next (omega (arith, below, count)) ∙ ap Some (get_or_append_left seats (next ∷ []) next k (omega (arith, below, new.0)))
          ∙ sym (slice_get-get_or seats k next (omega (arith, below, new.0))) ∙ new.1 k below)
          (slice_get-get_or more n next (omega (arith, count)) ∙ ap Some (get_or_push seats next next n new.0)),
    )
