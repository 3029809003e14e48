-- What went on between one connection, its door and its stream, told newest first.
use Rattle.std.specs.Prelude.{◌≡◌, ℕ, List, [], ◌∷◌, ◌++◌, Option, Some, None}
use Rattle.stow_model.specs.Event as event
use Rattle.stow_model.specs.Reply.{Reply, encoding}
use Rattle.stow_model.specs.Login.{Entry}
use Rattle.stow_model.specs.Store.{with_reply}
use Rattle.stow_model.specs.History.{ConnectionStep, Plain, Service, request_of, served_as, told_by, Follows}
use Rattle.stow_shared.specs.StowHouse.Conversations.{Exchange, step_of, reply_in, words_of}

-- the connection's part of a history: it was opened, and then these
unfoldable pub steps_of : List Exchange → List ConnectionStep
steps_of [] = Plain event.Open ∷ []
steps_of (newest ∷ earlier) = step_of newest ∷ steps_of earlier

-- each step follows from those before it
unfoldable pub AllFollow : List Entry → List ConnectionStep → Type 0
AllFollow entries [] = Unit {0}
AllFollow entries (newest ∷ earlier) = Follows entries newest earlier × AllFollow entries earlier

-- ---- the door

-- a call of a door, and its reply
pub record Call : Type 0 where
  pub tenant : ℕ
  pub words : List (List ℕ)
  pub reply : Reply

abbrev pub with_call : Option Service → Reply → List Call → List Call
with_call None r calls = calls
with_call (Some service) r calls =
    (record { tenant = service.tenant; words = words_of service.event; reply = r }) ∷ calls

-- the calls of the door: each request that goes to a tenant's store
unfoldable pub calls_in : List Entry → List Exchange → List Call
calls_in entries [] = []
calls_in entries (newest ∷ earlier) =
    with_call (request_of (step_of newest) (served_as entries (steps_of earlier))) (reply_in newest)
    (calls_in entries earlier)

-- the calls lead a door from one state to another, each in the door's relation
unfoldable pub LeadTo : {D : Type 0} → (D → ℕ → List (List ℕ) → Reply → D → Type 0) → D → List Call
    → D → Type 0
LeadTo answers old [] new = new ≡ old
LeadTo answers old (newest ∷ earlier) new = (before : _) × LeadTo answers old earlier before
    × answers before newest.tenant newest.words newest.reply new

-- ---- what is told

-- what the connection is told, with the door's replies
unfoldable pub told_in : List Entry → List Exchange → List Reply
told_in entries [] = []
told_in entries (newest ∷ earlier) =
    with_reply
    (told_by entries (step_of newest) (served_as entries (steps_of earlier))
    (λ is_refused words tenant. reply_in newest)) (told_in entries earlier)

-- the bytes of replies that are told newest first
unfoldable pub spelled : List Reply → List ℕ
spelled [] = []
spelled (newest ∷ earlier) = spelled earlier ++ encoding newest
