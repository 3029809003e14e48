-- A desk that wakes flushers answers as its desk does.
use Rattle.std.proofs.Common.{◌<◌, Bool, List, [], ◌∷◌, length, take, arith}
use Rattle.stow_model.specs.Reply.{Reply}
use Rattle.stow_shared.specs.StowHouse.Pipelines.{AnswersAll, AnswersFront}
use Rattle.stow_shared.specs.StowHouse.declared.request.Request.{Request}
use Rattle.stow_shared.proofs.StowHouse.Pipelines.{answers_lifted, answers_to}
use Rattle.stow_shared.specs.declared.desk.Desk.{Desk}
use Rattle.stow_shared.specs.Desks.{DeskCalls}
use Rattle.stow_workers.specs.declared.waking_desk.WakingDesk.{WakingDesk}
use Rattle.stow_workers.specs.WakingDesks.{WakingCalls}

module _ {R J A : Type 0} (keeps : Bool) (old new : WakingDesk R J A) where
  with_desk : Desk R J A → WakingDesk R J A
  with_desk desk = record old { desk = desk }

  lifted : (qs : List (Request A)) (rs : List Reply) → AnswersAll (DeskCalls keeps) old.desk qs rs new.desk → AnswersAll (WakingCalls keeps) old qs rs (with_desk new.desk)
  unfolding with_desk
  lifted qs rs all = answers_lifted (DeskCalls keeps) (WakingCalls keeps) with_desk (λ d d' t w r one. one) old.desk new.desk qs rs all

  pub waking_answers : (qs : List (Request A)) (r : Reply) (rs : List Reply) → 0 < length qs → AnswersFront (DeskCalls keeps) old.desk qs (r ∷ rs) new.desk → AnswersFront (WakingCalls keeps) old qs (r ∷ rs) new
  unfolding with_desk
  waking_answers [] r rs some all = absurd (omega (arith, some))
  waking_answers (q ∷ qs) r rs some all = answers_to (WakingCalls keeps) old (with_desk new.desk) new (take (length rs) qs) q (r ∷ rs) (λ d t w s one. one) (lifted (take (length (r ∷ rs)) (q ∷ qs)) (r ∷ rs) all)
