-- A desk answers requests as its seat is told.
use Rattle.std.proofs.Common.{◌≡◌, ◌<◌, Bool, List, [], ◌∷◌, length, take, refl, ◌∙◌, arith}
use Rattle.stow_model.specs.Reply.{Reply}
use Rattle.stow_house.specs.Pipelines.{AnswersAll, AnswersFront}
use Rattle.stow_house.specs.declared.request.Request.{Request}
use Rattle.stow_house.proofs.Pipelines.{answers_lifted, answers_to}
use Rattle.stow_shared.specs.declared.desk.Desk.{Desk}
use Rattle.stow_shared.specs.Desks.{DeskCalls}
use Rattle.stow_shared.specs.Seats.{SeatState, SeatCalls}

module _ {R J A : Type 0} (keeps : Bool) (old new : Desk R J A) (named : new.seat.ghost_name ≡ old.seat.ghost_name) where
  with_seat : SeatState → Desk R J A
  with_seat seat = record old { seat = record old.seat { now = seat } }

  lifted : (qs : List (Request A)) (rs : List Reply) → AnswersAll (SeatCalls keeps) old.seat.now qs rs new.seat.now → AnswersAll (DeskCalls keeps) old qs rs (with_seat new.seat.now)
  unfolding with_seat
  lifted qs rs all = answers_lifted (SeatCalls keeps) (DeskCalls keeps) with_seat (λ d d' t w r one. (refl, one)) old.seat.now new.seat.now qs rs all

  -- the desk's seat is the same, and was told so
  pub desk_answers : (qs : List (Request A)) (r : Reply) (rs : List Reply) → 0 < length qs → AnswersFront (SeatCalls keeps) old.seat.now qs (r ∷ rs) new.seat.now → AnswersFront (DeskCalls keeps) old qs (r ∷ rs) new
  unfolding with_seat
  desk_answers [] r rs some all = absurd (omega (arith, some))
  desk_answers (q ∷ qs) r rs some all = answers_to (DeskCalls keeps) old (with_seat new.seat.now) new (take (length rs) qs) q (r ∷ rs) (λ d t w s one. (named ∙ one.0, one.1)) (lifted (take (length (r ∷ rs)) (q ∷ qs)) (r ∷ rs) all)
