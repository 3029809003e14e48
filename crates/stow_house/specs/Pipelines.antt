-- Requests that a door is asked one after another.
use Rattle.std.specs.Prelude.{◌≡◌, List, [], ◌∷◌, length, take}
use Rattle.stow_model.specs.Reply.{Reply}
use Rattle.stow_house.specs.Conversations.{DoorCall}
use Rattle.stow_house.specs.declared.request.Request.{Request}

-- the requests lead the door from one state to the other, each with its reply
abbrev pub AnswersAll : {D A : Type 0} → DoorCall D → D → List (Request A) → List Reply → D
    → Type 0
AnswersAll answers old [] [] new = new ≡ old
AnswersAll answers old (q ∷ later) (r ∷ replies) new =
    (mid : _) × answers old q.tenant q.words r mid × AnswersAll answers mid later replies new
AnswersAll answers old _ _ new = ⊥

-- so many of them as there are replies, from the first on
abbrev pub AnswersFront : {D A : Type 0} → DoorCall D → D → List (Request A) → List Reply → D
    → Type 0
AnswersFront answers old requests replies new =
    AnswersAll answers old (take (length replies) requests) replies new
