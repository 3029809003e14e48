-- One connection, served from a reader to a writer.
use Rattle.std.specs.Prelude.{◌≡◌, ℕ, ◌+◌, ◌^◌, ◌≤◌, List, ◌∷◌, length, Option, ◌⊎◌}
use Rattle.std.specs.Io.KnownBytes.{Appends, Consumes, IsAtEnd}
use Rattle.stow_model.specs.declared.stream_fault.StreamFault.{StreamFault}
use Rattle.stow_model.specs.Login.{Entry}
use Rattle.stow_model.specs.History.{ConnectionStep, Took, Broke, IsOpen, Closed, status_of, stream_of, taken_by, Waits}
use Rattle.stow_shared.specs.StowHouse.Conversations.{DoorCall, Exchange}
use Rattle.stow_workers.specs.declared.served.Served.{Served}
use Rattle.stow_workers.specs.declared.served.Served.TheVariants as served
use Rattle.stow_workers.specs.Failures.{HasFailed}
use Rattle.stow_workers.specs.Exchanges.{Call, steps_of, AllFollow, calls_in, LeadTo, told_in, spelled}
use Rattle.stow_workers.specs.Sent.{Begins, Written}

-- ---- how a connection's service ends

-- all messages of the stream were taken, and the next isn't whole yet
abbrev pub HasServedAll : List ConnectionStep → Type 0
HasServedAll steps = (status_of steps ≡ IsOpen) × Waits (stream_of steps) (taken_by steps)

-- the last message that was taken is the wish to quit
abbrev pub HasQuit : List ConnectionStep → Type 0
HasQuit (Took m is_refused ∷ earlier) = status_of (Took m is_refused ∷ earlier) ≡ Closed
HasQuit _ = ⊥

-- the fault was met
abbrev pub HasBroken : StreamFault → List ConnectionStep → Type 0
HasBroken fault (Broke met ∷ earlier) = met ≡ fault
HasBroken fault _ = ⊥

-- where the steps end; at want of memory anywhere
abbrev pub StopsAt : Served → List ConnectionStep → Type 0
StopsAt served.Quit steps = HasQuit steps
StopsAt served.Ended steps = HasServedAll steps
StopsAt (served.Faulted fault) steps = HasBroken fault steps
StopsAt served.ReadFailed steps = HasServedAll steps
StopsAt served.WriteFailed steps = HasServedAll steps ⊎ HasQuit steps
    ⊎ ((fault : StreamFault) × HasBroken fault steps)
StopsAt served.NoMemory steps = Unit {0}

-- all bytes were written, or a beginning of them
abbrev pub IsWrittenWhole : Served → List ℕ → List ℕ → Type 0
IsWrittenWhole served.WriteFailed written all = Begins written all
IsWrittenWhole served.NoMemory written all = Begins written all
IsWrittenWhole _ written all = written ≡ all

-- the reader failed where it is told so, and nowhere else
abbrev pub ReaderFails : Served → ℕ → ℕ → Type 0
ReaderFails served.ReadFailed old new = HasFailed old new
ReaderFails _ old new = new ≡ old

-- the writer failed where it is told so; where memory was refused it may have
abbrev pub WriterFails : Served → ℕ → ℕ → Type 0
WriterFails served.WriteFailed old new = HasFailed old new
WriterFails served.NoMemory old new = (new ≡ old) ⊎ HasFailed old new
WriterFails _ old new = new ≡ old

-- the end was met: nothing is left, or so many pieces were read, each of some bytes, as can be
-- counted
abbrev pub MeetsEnd : Served → Option (List ℕ) → List ℕ → Type 0
MeetsEnd served.Ended left read = IsAtEnd left ⊎ (2 ^ 64 ≤ length read + 1)
MeetsEnd _ left read = Unit {0}

-- ---- a connection that was served

-- the bytes that the connection is told
abbrev pub bytes_told : List Entry → List Exchange → List ℕ
bytes_told entries exchanges = spelled (told_in entries exchanges)

-- What went on: each step follows from those before it, their stream is what was read, and the
-- requests among them are calls of the door, of which this holds.
pub record CourseBy (led : List Call → Type 0) (entries : List Entry) (read : List ℕ)
    (exchanges : List Exchange) : Type 0 where
  pub follow : AllFollow entries (steps_of exchanges)
  pub stream : stream_of (steps_of exchanges) ≡ read
  pub door : led (calls_in entries exchanges)

-- The requests led the door from one state to the other.
abbrev pub Course : {D : Type 0} → DoorCall D → List Entry → D → D → List ℕ → List Exchange
    → Type 0
Course answers entries old new = CourseBy (λ calls. LeadTo answers old calls new) entries

-- What the connection is told was written, or a beginning of it.
pub record IsTold (result : Served) (old new : Written) (all : List ℕ) : Type 0 where
  pub written : List ℕ
  pub appends : Appends old.contents new.contents written
  pub whole : IsWrittenWhole result written all
  pub failures : WriterFails result old.failures new.failures

-- These bytes were read, served by calls of which this holds, and answered to the writer, until it
-- ended so.
pub record IsServedBy (led : List Call → Type 0) (entries : List Entry) (read : List ℕ)
    (before after : Written) (result : Served) : Type 0 where
  pub exchanges : List Exchange
  pub course : CourseBy led entries read exchanges
  pub stops : StopsAt result (steps_of exchanges)
  pub told : IsTold result before after (bytes_told entries exchanges)

-- The calls led the door from one state to the other.
abbrev pub IsServed : {D : Type 0} → DoorCall D → List Entry → D → D → List ℕ → Written → Written
    → Served → Type 0
IsServed answers entries old new = IsServedBy (λ calls. LeadTo answers old calls new) entries

-- What was read is the front of what there was to read, and it was served and answered until the
-- connection ended so; at the end of input nothing is left.
pub record ServesConnection {D : Type 0} (answers : DoorCall D) (entries : List Entry)
    (result : Served) (unread left : Option (List ℕ)) (old new : D)
    (before after : Written) : Type 0 where
  pub read : List ℕ
  pub consumes : Consumes unread left read
  pub end : MeetsEnd result left read
  pub served : IsServed answers entries old new read before after result
