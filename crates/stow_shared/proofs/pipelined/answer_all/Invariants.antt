use Rattle.std.proofs.Common.{◌≡◌, ◌+◌, ◌∷◌, length, map, take}
use Rattle.stow_house.specs.Pipelines.{AnswersAll}
use Rattle.stow_model.specs.Reply.{reply_of}
use Rattle.stow_shared.specs.Seats.{SeatCalls}
use Rattle.stow_shared.proofs.pipelined.answer_all.Given as goal

abbrev pub invariant-loop-i : goal.invariant-loop-i
invariant-loop-i g l = AnswersAll (SeatCalls g.J.Journal.keeps) l.fn.seat (take l.i l.requests) (reply_of l.first ∷ map reply_of l.more.items) l.seat
    × (length l.more.items + 1 ≡ l.i)
