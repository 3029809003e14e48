-- Requests that were heard one after another, and what was done of them.
use Rattle.std.specs.Prelude.{◌≡◌, ℕ, List, [], ◌∷◌, ◌++◌, Option, Some, None, option_map, ◌⊎◌}
use Rattle.stow_model.specs.declared.reply.Reply as coded
use Rattle.stow_model.specs.Login.{Entry}
use Rattle.stow_model.specs.Reply.{Reply, reply_of, encoding}
use Rattle.stow_shared.specs.StowHouse.declared.request.Request.{Request}
use Rattle.stow_shared.specs.StowHouse.declared.stop.Stop.{Stop}
use Rattle.stow_shared.specs.StowHouse.declared.stop.Stop.TheVariants as stopped
use Rattle.stow_shared.specs.StowHouse.Conversations.{Talk, Asks, Tells}
use Rattle.stow_workers.specs.Sent.{Begins, Sent, Sends, SendsReply, StaysSent}

-- the requests were heard, one after another
abbrev pub AsksAll : {A : Type 0} → List Entry → List (Request A) → Talk → Talk → Type 0
AsksAll entries [] old new = new ≡ old
AsksAll entries (q ∷ later) old new = (mid : Talk) × Asks entries q.tenant q.words old mid
    × AsksAll entries later mid new

-- what came behind them, where that was heard: what is told, and why it goes no further
abbrev pub End : Type 0 → Type 0
End A = Option (Option (coded.Reply A) × Option Stop)

abbrev pub Ends : {A : Type 0} → List Entry → End A → Talk → Talk → Type 0
Ends entries None old new = new ≡ old
Ends entries (Some (told, stop)) old new = Tells entries (option_map reply_of told) stop old new

-- requests were heard, and then this
pub record HearsAll {A : Type 0} (entries : List Entry) (requests : List (Request A)) (end : End A)
    (old new : Talk) : Type 0 where
  pub mid : Talk
  pub asks : AsksAll entries requests old mid
  pub ends : Ends entries end mid new

-- the bytes of replies, oldest first
abbrev pub encodings : List Reply → List ℕ
encodings [] = []
encodings (r ∷ later) = encoding r ++ encodings later

-- a beginning of the replies' bytes was added
abbrev pub SendsFront : Sent → Sent → List Reply → Type 0
SendsFront old new replies = (front : List ℕ) × Begins front (encodings replies)
    × Sends old new front

-- a reply was added, if there is one, and it goes on as it was to; or memory was refused
abbrev pub TellsOrStops : Option Reply → Option Stop → Option Stop → Sent → Sent → Type 0
TellsOrStops told stop result old new = ((result ≡ stop) × SendsReply told old new)
    ⊎ ((result ≡ Some stopped.NoMemory) × StaysSent old new)
