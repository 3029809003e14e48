-- A connection that is served turn by turn, between those of others.
use Rattle.std.specs.Prelude.{◌≡◌, ℕ, ◌<◌, Bool, true, false, List, [], ◌++◌, length, drop, Option, Some, None, Result, Ok, Err, ◌⊎◌}
use Rattle.std.specs.Io.KnownBytes.{Consumes, IsAtEnd, Keeps}
use Rattle.stow_model.specs.Login.{Entry}
use Rattle.stow_shared.specs.StowHouse.declared.stop.Stop.{Stop}
use Rattle.stow_shared.specs.StowHouse.declared.stop.Stop.TheVariants as stopped
use Rattle.stow_shared.specs.StowHouse.Conversations.{DoorCall, talk_of}
use Rattle.stow_workers.specs.declared.nonblocking_connection.NonblockingConnection.{NonblockingConnection}
use Rattle.stow_workers.specs.declared.served.Served.{Served}
use Rattle.stow_workers.specs.declared.served.Served.TheVariants as served
use Rattle.stow_workers.specs.declared.turned.Turned.{Turned}
use Rattle.stow_workers.specs.declared.turned.Turned.TheVariants as turned
use Rattle.stow_workers.specs.Failures.{HasFailed}
use Rattle.stow_workers.specs.Sent.{Written, sent_at}
use Rattle.stow_workers.specs.Talks.{IsServedBy, ReaderFails}
use Rattle.stow_workers.specs.Turns.{Origin, LedFrom, Stands, IsEven, outcome_of}

-- a connection between two turns: what was read so far was served and answered up to here
abbrev pub ConnectionStands : {D A : Type 0} → DoorCall D → List Entry → Origin D → Written
    → List ℕ → D → NonblockingConnection A → Written → Type 0
ConnectionStands answers entries first start read door connection writer =
    Stands answers entries first start read connection.stop door connection.client
    (sent_at writer connection.client.replies)

-- these bytes were read in the turn, behind which the connection stands
pub record HasTurnedOn {D A : Type 0} (answers : DoorCall D) (entries : List Entry)
    (first : Origin D) (start : Written) (read : List ℕ) (unread left : Option (List ℕ)) (door : D)
    (connection : NonblockingConnection A) (writer : Written) : Type 0 where
  pub bytes : List ℕ
  pub consumes : Consumes unread left bytes
  pub stands : ConnectionStands answers entries first start (read ++ bytes) door connection writer

-- at the end of input nothing is left
abbrev pub EndsAt : Served → Option (List ℕ) → Type 0
EndsAt served.Ended left = IsAtEnd left
EndsAt _ left = Unit {0}

-- these bytes were read in the turn, in which the connection ended so: what was read was served and
-- answered
pub record HasTurnedOut {D : Type 0} (answers : DoorCall D) (entries : List Entry)
    (first : Origin D) (start : Written) (read : List ℕ) (unread left : Option (List ℕ)) (door : D)
    (writer : Written) (result : Served) : Type 0 where
  pub bytes : List ℕ
  pub consumes : Consumes unread left bytes
  pub end : EndsAt result left
  pub served : IsServedBy (LedFrom answers first door) entries (read ++ bytes) start writer result

abbrev pub ConnectionTo : {D A : Type 0} → DoorCall D → List Entry → Origin D → Written → List ℕ
    → Turned → Option (List ℕ) → Option (List ℕ) → D → NonblockingConnection A → Written → Type 0
ConnectionTo answers entries first start read (turned.Ended result) unread left door connection
    writer =
    HasTurnedOut answers entries first start read unread left door writer result
ConnectionTo answers entries first start read _ unread left door connection writer =
    HasTurnedOn answers entries first start read unread left door connection writer

-- a connection that stood somewhere took a turn, which ended so
abbrev pub TakesTurn : {D A : Type 0} → DoorCall D → List Entry → Turned → Option (List ℕ) → D
    → NonblockingConnection A → Written → Option (List ℕ) → D → NonblockingConnection A
    → Written → Type 0
TakesTurn answers entries result unread old before writer left new after written =
    (first : _) (start : Written) (read : List ℕ)
    → ConnectionStands answers entries first start read old before writer
    → ConnectionTo answers entries first start read result unread left new after written

-- the reader failed where it is told so, and nowhere else
abbrev pub ReaderFailsAt : Turned → ℕ → ℕ → Type 0
ReaderFailsAt (turned.Ended result) old new = ReaderFails result old new
ReaderFailsAt _ old new = new ≡ old

-- bytes wait for the writer
abbrev pub HasWaiting : {A : Type 0} → NonblockingConnection A → Type 0
HasWaiting connection =
    0 < length (drop connection.client.replies.passed connection.client.replies.bytes.items)

-- ---- the parts of a turn

-- a writer of which nothing is known
abbrev pub unknown : Written
unknown = record { contents = None; failures = 0 }

-- the piece was added, where memory sufficed
abbrev pub Fed : {A : Type 0} → List ℕ → NonblockingConnection A → NonblockingConnection A → Type 0
Fed bytes old new =
    ((talk_of new.client.conversation).unread ≡ (talk_of old.client.conversation).unread ++ bytes)
    × ((talk_of new.client.conversation).tenant ≡ (talk_of old.client.conversation).tenant)
    × (new.client ≡ record old.client { conversation = new.client.conversation })
    × (new.stop ≡ None)

abbrev pub IsFed : {A : Type 0} → Result ℕ Turned → List ℕ → NonblockingConnection A
    → NonblockingConnection A → Type 0
IsFed (Ok n) bytes old new = Fed bytes old new
IsFed (Err (turned.Ended served.NoMemory)) bytes old new =
    new.client.replies ≡ old.client.replies
IsFed (Err _) bytes old new = ⊥

-- nothing was to be read, or a piece was
abbrev pub HasReceived : {A : Type 0} → Option (List ℕ) → ℕ → NonblockingConnection A
    → Option (List ℕ) → ℕ → NonblockingConnection A → Type 0
HasReceived unread failed old left fails new = (fails ≡ failed)
    × (((left ≡ unread) × (new ≡ old))
    ⊎ ((bytes : List ℕ) × Consumes unread left bytes × (old.stop ≡ Some stopped.More)
    × IsEven (sent_at unknown old.client.replies) × Fed bytes old new))

-- the turn ends with the reading
abbrev pub EndsReceiving : {A : Type 0} → Turned → Option (List ℕ) → ℕ → NonblockingConnection A
    → Option (List ℕ) → ℕ → NonblockingConnection A → Type 0
EndsReceiving turned.Waits unread failed old left fails new =
    Keeps unread left × (fails ≡ failed) × IsEven (sent_at unknown old.client.replies) × (new ≡ old)
EndsReceiving (turned.Ended served.Ended) unread failed old left fails new =
    Consumes unread left [] × IsAtEnd left × (fails ≡ failed) × (old.stop ≡ Some stopped.More)
    × IsEven (sent_at unknown old.client.replies) × (new ≡ old)
EndsReceiving (turned.Ended served.ReadFailed) unread failed old left fails new =
    Keeps unread left × HasFailed failed fails × (old.stop ≡ Some stopped.More)
    × IsEven (sent_at unknown old.client.replies) × (new ≡ old)
EndsReceiving (turned.Ended served.WriteFailed) unread failed old left fails new =
    (left ≡ unread) × (fails ≡ failed) × (old.stop ≡ Some stopped.More)
    × (old.client.replies.has_failed ≡ true) × (new ≡ old)
EndsReceiving (turned.Ended served.NoMemory) unread failed old left fails new =
    (bytes : List ℕ) × Consumes unread left bytes × (fails ≡ failed)
    × (old.stop ≡ Some stopped.More) × IsEven (sent_at unknown old.client.replies)
    × (new.client.replies ≡ old.client.replies)
EndsReceiving _ unread failed old left fails new = ⊥

abbrev pub Receives : {A : Type 0} → Result ℕ Turned → Option (List ℕ) → ℕ → NonblockingConnection A
    → Option (List ℕ) → ℕ → NonblockingConnection A → Type 0
Receives (Ok n) unread failed old left fails new = HasReceived unread failed old left fails new
Receives (Err result) unread failed old left fails new =
    EndsReceiving result unread failed old left fails new

-- wherever the connection stood, it stands after this
abbrev pub GoesOnServing : {D A : Type 0} → DoorCall D → List Entry → Written → D
    → NonblockingConnection A → D → NonblockingConnection A → Type 0
GoesOnServing answers entries writer old before new after =
    (first : _) (start : Written) (read : List ℕ)
    → ConnectionStands answers entries first start read old before writer
    → ConnectionStands answers entries first start read new after writer

-- whether bytes wait
abbrev pub TellsWaiting : Bool → List ℕ → Type 0
TellsWaiting true waiting = 0 < length waiting
TellsWaiting false waiting = waiting ≡ []

-- how a turn ended at whose end this waits
abbrev pub turned_at : Option Served → Bool → Turned
turned_at (Some result) is_drained = turned.Ended result
turned_at None true = turned.Drained
turned_at None false = turned.Again

abbrev pub turned_of : Option Stop → Bool → Bool → Bool → Turned
turned_of stop true has_failed is_drained = turned.Waits
turned_of None false has_failed is_drained = turned.Again
turned_of (Some stop) false has_failed is_drained =
    turned_at (outcome_of stop has_failed) is_drained
