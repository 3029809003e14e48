-- A conversation: what a connection does with its bytes, one message after another.
use Rattle.std.specs.Prelude.{◌≡◌, ℕ, List, [], option_map, Option, Some, None}
use Rattle.stow_model.specs.declared.stream_fault.StreamFault.{StreamFault}
use Rattle.stow_model.specs.Login.{Entry}
use Rattle.stow_model.specs.Message.{Message}
use Rattle.stow_model.specs.Event.{ConnectionEvent}
use Rattle.stow_model.specs.Event as event
use Rattle.stow_model.specs.Reply.{Reply, reply_of}
use Rattle.stow_model.specs.Reply as reply
use Rattle.stow_model.specs.Wire.{IsBegun, IsFaulty}
use Rattle.stow_model.specs.Store.{OwnEvent, Asked, GivenQuota, is_out_of_memory}
use Rattle.stow_model.specs.History.{ConnectionStep, Plain, Took, Broke, Status, Unused, IsOpen, Closed, status_after, served_after, stream_after_event, MayBeRefused, Service, request_of, told_by}
use Rattle.stow_resp.specs.Next.{IsTaken, HasWords}
use Rattle.stow_house.specs.declared.conversation.Conversation.{Conversation}
use Rattle.stow_house.specs.declared.heard.Heard.{Heard}
use Rattle.stow_house.specs.declared.heard.Heard.TheVariants as heard
use Rattle.stow_house.specs.declared.stop.Stop.{Stop}
use Rattle.stow_house.specs.declared.stop.Stop.TheVariants as stopped
use Rattle.stow_house.specs.Seen.{Seen}

-- ---- what goes on

pub data Exchange : Type 0 where
  -- these bytes were read
  Read : List ℕ → Exchange
  -- this message was taken from them, and this is what the door replied, where it was asked
  Served : Message → Reply → Exchange
  -- this fault was met
  Faulted : StreamFault → Exchange

-- the connection's step: memory was refused to a request where the door's reply says so
abbrev pub step_of : Exchange → ConnectionStep
step_of (Read bytes) = Plain (event.Piece bytes)
step_of (Served m r) = Took m (is_out_of_memory r)
step_of (Faulted fault) = Broke fault

-- what the door replied, where it was asked
abbrev pub reply_in : Exchange → Reply
reply_in (Read bytes) = reply.Null
reply_in (Served m r) = r
reply_in (Faulted fault) = reply.Null

-- what the connection is told, with the door's reply
abbrev pub told_with : List Entry → Exchange → Option ℕ → Option Reply
told_with entries x tenant =
    told_by entries (step_of x) tenant (λ is_refused words t. reply_in x)

-- ---- the door

-- a door's relation: the door before a call, the tenant and its words, the reply, and the door
-- after
abbrev pub DoorCall : Type 0 → Type 1
DoorCall D = D → ℕ → List (List ℕ) → Reply → D → Type 0

-- the words of a request; a quota has none, and comes on no connection
abbrev pub words_of : OwnEvent → List (List ℕ)
words_of (Asked request) = request.words
words_of (GivenQuota quota) = []

-- the door answered the request, or was not asked
abbrev pub IsAsked : {D : Type 0} → DoorCall D → Option Service → Reply → D → D → Type 0
IsAsked answers None r old new = new ≡ old
IsAsked answers (Some service) r old new =
    answers old service.tenant (words_of service.event) r new

-- the request of these words that was replied so
abbrev pub request_with : ℕ → List (List ℕ) → Reply → Service
request_with tenant words r = record {
  tenant = tenant;
  event = Asked (record { words = words; is_refused = is_out_of_memory r });
}

-- ---- one step

-- what becomes of the unread bytes
abbrev pub Reads : ConnectionStep → Status → List ℕ → List ℕ → Type 0
Reads (Plain e) status old new = new ≡ stream_after_event e status old
Reads (Took m is_refused) status old new = IsTaken m old new
Reads (Broke fault) status old new = new ≡ old

-- what a Serve that takes nothing says of the unread bytes
abbrev pub CanWait : Status → List ℕ → Type 0
CanWait Unused unread = Unit {0}
CanWait IsOpen unread = IsBegun unread
CanWait Closed unread = Unit {0}

abbrev pub CanBePlain : ConnectionEvent → Seen → Type 0
CanBePlain event.Serve seen = CanWait seen.status seen.unread
CanBePlain _ seen = Unit {0}

-- what the step says of the connection before it
abbrev pub Can : ConnectionStep → Seen → Type 0
Can (Plain e) seen = CanBePlain e seen
Can (Took m is_refused) seen = (seen.status ≡ IsOpen) × MayBeRefused m is_refused seen.tenant
Can (Broke fault) seen = (seen.status ≡ IsOpen) × IsFaulty seen.unread fault

-- a step of a connection
pub record Moves (entries : List Entry) (own : ConnectionStep) (old new : Seen) : Type 0 where
  pub can : Can own old
  pub status : new.status ≡ status_after own old.status
  pub tenant : new.tenant ≡ served_after entries own old.tenant
  pub unread : Reads own old.status old.unread new.unread

-- what went on at a connection, the request that it takes to a door, if it does, and what is told
pub record Meets (entries : List Entry) (x : Exchange) (request : Option Service)
    (told : Option Reply) (old new : Seen) : Type 0 where
  pub moves : Moves entries (step_of x) old new
  pub asks : request_of (step_of x) old.tenant ≡ request
  pub says : told ≡ told_with entries x old.tenant

-- ---- what was heard

-- whom the conversation is served as, and its unread bytes
pub record Talk : Type 0 where
  pub tenant : Option ℕ
  pub unread : List ℕ

abbrev pub talk_of : {A : Type 0} → Conversation A → Talk
talk_of conversation =
    record { tenant = conversation.session; unread = conversation.input }

abbrev pub as_seen : Status → Talk → Seen
as_seen status talk = record { status = status; tenant = talk.tenant; unread = talk.unread }

-- a QUIT and a fault end the connection
abbrev pub status_at : Option Stop → Status
status_at None = IsOpen
status_at (Some stopped.More) = IsOpen
status_at (Some stopped.Quit) = Closed
status_at (Some (stopped.Faulted fault)) = Closed
status_at (Some stopped.NoMemory) = IsOpen

-- the message is answered by the connection itself
abbrev pub Alone : List Entry → Option Reply → Option Stop → Talk → Talk → Type 0
Alone entries told stop old new = (m : Message)
    × Meets entries (Served m reply.Null) None told (as_seen IsOpen old)
    (as_seen (status_at stop) new)

-- what is told where no door is asked, and why it goes no further, if it doesn't: by a QUIT or a
-- fault, or since nothing could be taken off
abbrev pub Tells : List Entry → Option Reply → Option Stop → Talk → Talk → Type 0
Tells entries told None old new = Alone entries told None old new
Tells entries told (Some stopped.More) old new =
    IsBegun old.unread × (told ≡ None) × (new ≡ old)
Tells entries told (Some stopped.Quit) old new = Alone entries told (Some stopped.Quit) old new
Tells entries told (Some (stopped.Faulted fault)) old new =
    Meets entries (Faulted fault) None told (as_seen IsOpen old) (as_seen Closed new)
Tells entries told (Some stopped.NoMemory) old new =
    HasWords old.unread × (told ≡ None) × (new ≡ old)

-- the message is a request of this tenant, which is told whatever its door replies
abbrev pub Asks : List Entry → ℕ → List (List ℕ) → Talk → Talk → Type 0
Asks entries tenant words old new = (m : Message) × ((r : Reply)
    → Meets entries (Served m r) (Some (request_with tenant words r)) (Some r)
    (as_seen IsOpen old) (as_seen IsOpen new))

abbrev pub Hears : {A : Type 0} → List Entry → Heard A → Talk → Talk → Type 0
Hears entries (heard.Told told stop) old new =
    Tells entries (option_map reply_of told) stop old new
Hears entries (heard.Request tenant words) old new = Asks entries tenant words old new
