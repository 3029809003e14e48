-- A connection under way, turn by turn: what is said within the service of a connection, and not by
-- its contract.
use Rattle.std.specs.Prelude.{◌≡◌, ℕ, ◌<◌, ◌+◌, ◌*◌, Bool, true, false, List, [], ◌++◌, length, drop, Option, Some, None, IfNone}
use Rattle.stow_model.specs.Login.{Entry}
use Rattle.stow_model.specs.Reply.{Reply}
use Rattle.stow_model.specs.Store.{with_reply}
use Rattle.stow_model.specs.Wire.{IsBegun}
use Rattle.stow_model.specs.History.{ConnectionStep, IsOpen}
use Rattle.stow_shared.specs.StowHouse.declared.stop.Stop.{Stop}
use Rattle.stow_shared.specs.StowHouse.declared.stop.Stop.TheVariants as stopped
use Rattle.stow_shared.specs.StowHouse.Conversations.{DoorCall, Exchange, Talk, talk_of, as_seen}
use Rattle.stow_shared.specs.StowHouse.Steps.{StandsAt}
use Rattle.stow_workers.specs.declared.client.Client.{Client}
use Rattle.stow_workers.specs.declared.served.Served.{Served}
use Rattle.stow_workers.specs.declared.served.Served.TheVariants as served
use Rattle.stow_workers.specs.Exchanges.{Call, LeadTo, steps_of, told_in}
use Rattle.stow_workers.specs.Pipelined.{End, HearsAll}
use Rattle.stow_workers.specs.Sent.{Begins, Written, Sent, sent_of, HasSent}
use Rattle.stow_workers.specs.Talks.{HasQuit, HasBroken, CourseBy, IsServedBy, bytes_told}

-- a connection's earlier calls, and the door at which the next ones begin
pub record Origin (D : Type 0) : Type 0 where
  pub earlier : List Call
  pub door : D

-- the calls but the earlier ones led the door from there
abbrev pub LedFrom : {D : Type 0} → DoorCall D → Origin D → D → List Call → Type 0
LedFrom answers first new calls =
    (newer : List Call) × (calls ≡ newer ++ first.earlier) × LeadTo answers first.door newer new

-- the door, the conversation, and what was sent
pub record State (D : Type 0) : Type 0 where
  pub door : D
  pub talk : Talk
  pub sent : Sent

abbrev pub state_of : {D A : Type 0} → D → Option (List ℕ) → ℕ → Client A → State D
state_of door contents failures client =
    record {
      door = door;
      talk = talk_of client.conversation;
      sent = sent_of contents failures client.replies;
    }

-- where the steps leave the conversation, and why it goes no further, if it doesn't
abbrev pub IsAt : List Entry → Option Stop → Talk → List ConnectionStep → Type 0
IsAt entries None talk steps = StandsAt entries (as_seen IsOpen talk) steps
IsAt entries (Some stopped.More) talk steps =
    StandsAt entries (as_seen IsOpen talk) steps × IsBegun talk.unread
IsAt entries (Some stopped.Quit) talk steps = HasQuit steps
IsAt entries (Some (stopped.Faulted fault)) talk steps = HasBroken fault steps
IsAt entries (Some stopped.NoMemory) talk steps = Unit {0}

-- all replies were spelled; where memory was refused a beginning of them was
abbrev pub HasSpelled : Option Stop → Written → Sent → List ℕ → Type 0
HasSpelled (Some stopped.NoMemory) start sent all = (front : List ℕ) × Begins front all
    × HasSent start sent front
HasSpelled _ start sent all = HasSent start sent all

-- what went on so far, where that leaves the conversation, and what was sent
pub record IsAfter {D : Type 0} (answers : DoorCall D) (entries : List Entry)
    (first : Origin D) (start : Written) (read : List ℕ) (stop : Option Stop)
    (state : State D) : Type 0 where
  pub exchanges : List Exchange
  pub course : CourseBy (LedFrom answers first state.door) entries read exchanges
  pub at : IsAt entries stop state.talk (steps_of exchanges)
  pub spelled : HasSpelled stop start state.sent (bytes_told entries exchanges)

-- ---- a turn

-- what went on with this turn, by which this is told
pub record HasTurned {D : Type 0} (answers : DoorCall D) (entries : List Entry) (first : Origin D)
    (read : List ℕ) (earlier : List Exchange) (told : Option Reply) (stop : Option Stop) (door : D)
    (talk : Talk) : Type 0 where
  pub exchanges : List Exchange
  pub course : CourseBy (LedFrom answers first door) entries read exchanges
  pub at : IsAt entries stop talk (steps_of exchanges)
  pub says : told_in entries exchanges ≡ with_reply told (told_in entries earlier)

abbrev pub Turns : {D : Type 0} → DoorCall D → List Entry → Option Reply → Option Stop → D → Talk
    → D → Talk → Type 0
Turns answers entries told stop before old after new = (first : _) (read : List ℕ)
    (earlier : List Exchange) → CourseBy (LedFrom answers first before) entries read earlier
    → IsAt entries None old (steps_of earlier)
    → HasTurned answers entries first read earlier told stop after new

-- a turn after which the conversation goes on has taken some bytes
abbrev pub Shortens : Option Stop → Talk → Talk → Type 0
Shortens None old new = length new.unread < length old.unread
Shortens (Some stop) old new = Unit {0}

-- a connection that was under way goes on, or stops so
abbrev pub GoesTo : {D : Type 0} → DoorCall D → List Entry → Option Stop → State D → State D
    → Type 0
GoesTo answers entries stop old new = (first : _) (start : Written) (read : List ℕ)
    → IsAfter answers entries first start read None old
    → IsAfter answers entries first start read stop new

-- ---- a step

-- requests that were heard and not asked for yet, and what came behind them, are at hand
pub record IsHolding {D A : Type 0} (answers : DoorCall D) (entries : List Entry)
    (first : Origin D) (start : Written) (read : List ℕ) (door : D) (client : Client A)
    (sent : Sent) : Type 0 where
  pub talk : Talk
  pub hears : HearsAll entries (drop client.done client.requests.items) client.end talk
      (talk_of client.conversation)
  pub after : IsAfter answers entries first start read None
      (record { door = door; talk = talk; sent = sent })

-- nothing is at hand
abbrev pub IsRested : {A : Type 0} → Client A → Type 0
IsRested client = (drop client.done client.requests.items ≡ []) × (client.end ≡ None)

abbrev pub RestsAt : {A : Type 0} → Stop → Client A → Type 0
RestsAt stopped.NoMemory client = Unit {0}
RestsAt stop client = IsRested client

-- where a connection stands between two steps, of which the last one ended so
abbrev pub Stands : {D A : Type 0} → DoorCall D → List Entry → Origin D → Written → List ℕ
    → Option Stop → D → Client A → Sent → Type 0
Stands answers entries first start read None door client sent =
    IsHolding answers entries first start read door client sent
Stands answers entries first start read (Some stop) door client sent =
    IsAfter answers entries first start read (Some stop)
    (record { door = door; talk = talk_of client.conversation; sent = sent })
    × RestsAt stop client

-- a connection that held requests goes on, or stops so
abbrev pub StepsTo : {D A : Type 0} → DoorCall D → List Entry → Option Stop → D → Client A → Sent
    → D → Client A → Sent → Type 0
StepsTo answers entries stop old before sent new after left =
    (first : _) (start : Written) (read : List ℕ)
    → IsHolding answers entries first start read old before sent
    → Stands answers entries first start read stop new after left

-- what there is left to do
abbrev pub unread_weight : {A : Type 0} → End A → ℕ → ℕ
unread_weight None unread = 3 * unread
unread_weight (Some (told, None)) unread = 3 * unread + 1
unread_weight (Some (told, Some stop)) unread = 1

abbrev pub weight : {A : Type 0} → Client A → ℕ
weight client =
    unread_weight client.end (length (talk_of client.conversation).unread)
    + length (drop client.done client.requests.items)

-- a step after which the conversation goes on leaves less
abbrev pub Lightens : {A : Type 0} → Option Stop → Client A → Client A → Type 0
Lightens None old new = weight new < weight old
Lightens (Some stop) old new = Unit {0}

-- calls led the door from one state to the other
abbrev pub HasLed : {D : Type 0} → DoorCall D → D → D → Type 0
HasLed answers old new = (calls : List Call) × LeadTo answers old calls new

-- ---- a piece

-- a connection that was under way has nothing at hand behind a piece after which it goes on
abbrev pub RestsBehind : {D A : Type 0} → DoorCall D → List Entry → Option Served → State D
    → Client A → Type 0
RestsBehind answers entries result old client = (first : _) (start : Written) (read : List ℕ)
    → IsAfter answers entries first start read None old → IfNone result (IsRested client)

-- nothing waits for the writer, and it hasn't failed
abbrev pub IsEven : Sent → Type 0
IsEven sent = (sent.has_failed ≡ false) × (sent.waiting ≡ [])

-- how a piece ended, after its replies were written or a write has failed
abbrev pub outcome_of : Stop → Bool → Option Served
outcome_of stopped.NoMemory has_failed = Some served.NoMemory
outcome_of _ true = Some served.WriteFailed
outcome_of stopped.More false = None
outcome_of stopped.Quit false = Some served.Quit
outcome_of (stopped.Faulted fault) false = Some (served.Faulted fault)

-- a piece doesn't end with its reader's failure or end
abbrev pub CanEndPiece : Served → Type 0
CanEndPiece served.Ended = ⊥
CanEndPiece served.ReadFailed = ⊥
CanEndPiece _ = Unit {0}

-- a piece was served and answered
abbrev pub PieceTo : {D : Type 0} → DoorCall D → List Entry → Origin D → Written → List ℕ
    → Option Served → State D → Type 0
PieceTo answers entries first start read None new =
    IsAfter answers entries first start read (Some stopped.More) new × IsEven new.sent
PieceTo answers entries first start read (Some result) new =
    IsServedBy (LedFrom answers first new.door) entries read start new.sent.writer result

abbrev pub ServesPiece : {D : Type 0} → DoorCall D → List Entry → List ℕ → Option Served → State D
    → State D → Type 0
ServesPiece answers entries bytes result old new = (first : _) (start : Written) (read : List ℕ)
    → IsAfter answers entries first start read None old → IsEven old.sent
    → PieceTo answers entries first start (read ++ bytes) result new
