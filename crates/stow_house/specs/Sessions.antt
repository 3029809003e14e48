-- One connection's login, and what comes on its stream served through any door.
use Rattle.std.specs.Prelude.{◌≡◌, ℕ, Bool, true, false, List, option_map, Option, Some, None}
use Rattle.stow_model.specs.declared.stream_fault.StreamFault.{StreamFault}
use Rattle.stow_model.specs.declared.refusal.Refusal.TheVariants as refusal
use Rattle.stow_model.specs.declared.simple_string.SimpleString.TheVariants as simple
use Rattle.stow_model.specs.Message.{Message}
use Rattle.stow_model.specs.Message as message
use Rattle.stow_model.specs.Command.{Kind, Login, Quit, Malformed, ForStore, kind_of}
use Rattle.stow_model.specs.Login.{Entry, login}
use Rattle.stow_model.specs.History.{login_reply, quoted_reply, served_after_message}
use Rattle.stow_model.specs.Reply.{Reply, reply_of}
use Rattle.stow_model.specs.Reply as reply
use Rattle.stow_resp.specs.declared.next.Next.{Next}
use Rattle.stow_resp.specs.declared.next.Next.TheVariants as next
use Rattle.stow_house.specs.declared.answer.Answer.{Answer}
use Rattle.stow_house.specs.declared.taken.Taken as coded
use Rattle.stow_house.specs.declared.taken.Taken.TheVariants as in_code

-- what a stream gives to be served
pub data Arrival : Type 0 where
  -- a whole message
  Whole : Message → Arrival
  Faulty : StreamFault → Arrival
  -- none is whole yet, or memory was refused to it
  Nothing : Arrival

abbrev pub arrival_of : {A : Type 0} → Next A → Arrival
arrival_of (next.Message words) = Whole (message.Words words)
arrival_of next.Quoted = Whole message.Quoted
arrival_of next.Blank = Whole message.Blank
arrival_of next.More = Nothing
arrival_of (next.Fault fault) = Faulty fault
arrival_of next.NoMemory = Nothing

-- what a connection makes of it: an answer of its own, if any, and whether it ends then; or the
-- words are for a tenant's store
pub data Taken : Type 0 where
  Told : Option Reply → Bool → Taken
  ForStoreOf : ℕ → List (List ℕ) → Taken

-- what the code's type stands for, whatever allocator it has its memory from
abbrev pub taken_of : {A : Type 0} → coded.Taken A → Taken
taken_of (in_code.Told answer) = Told (option_map reply_of answer.reply) answer.ends
taken_of (in_code.ForStoreOf tenant words) = ForStoreOf tenant words

-- a login tells whether it was accepted, a quit ends the connection, and a request is for the store
-- of the tenant who is logged in, if one is
abbrev pub taking_words : List Entry → Kind → List (List ℕ) → Option ℕ → Taken
taking_words entries (Login name password) words tenant =
    Told (Some (login_reply (login entries name password))) false
taking_words entries Quit words tenant = Told (Some (reply.Simple simple.Ok)) true
taking_words entries Malformed words tenant =
    Told (Some (reply.Error refusal.WrongArgumentCount)) false
taking_words entries ForStore words None = Told (Some (reply.Error refusal.NotAuthenticated)) false
taking_words entries ForStore words (Some tenant) = ForStoreOf tenant words

-- a quoted line is refused, a blank is told nothing, and a fault ends the connection
abbrev pub taking : List Entry → Arrival → Option ℕ → Taken
taking entries (Whole (message.Words words)) tenant =
    taking_words entries (kind_of words) words tenant
taking entries (Whole message.Quoted) tenant = Told (Some (quoted_reply tenant)) false
taking entries (Whole message.Blank) tenant = Told None false
taking entries (Faulty fault) tenant = Told (Some (reply.ProtocolError fault)) true
taking entries Nothing tenant = Told None false

-- whom the connection is served as from then on
abbrev pub served_after_arrival : List Entry → Arrival → Option ℕ → Option ℕ
served_after_arrival entries (Whole m) before = served_after_message entries m before
served_after_arrival entries (Faulty fault) before = before
served_after_arrival entries Nothing before = before

-- what is told, whether the connection ends, and what becomes of the door, whose calls are as the
-- relation says: it is asked only for a tenant's store, and stays as it was in every other case
abbrev pub Finishes : {D : Type 0} → (D → ℕ → List (List ℕ) → Reply → D → Type 0) → Taken → D
    → Option Reply → Bool → D → Type 0
Finishes calls (Told r ended) old told ends new = (told ≡ r) × (ends ≡ ended) × (new ≡ old)
Finishes calls (ForStoreOf tenant words) old told ends new = (r : Reply)
    × calls old tenant words r new × (told ≡ Some r) × (ends ≡ false)

-- what came was served: who is served from now on, what is told, whether the connection ends, and
-- the door before and after
pub record Serves {D : Type 0} (calls : D → ℕ → List (List ℕ) → Reply → D → Type 0)
    (entries : List Entry) (before after : Option ℕ) (old : D) (arrival : Arrival)
    (told : Option Reply) (ends : Bool) (new : D) : Type 0 where
  pub tenant : after ≡ served_after_arrival entries arrival before
  pub finishes : Finishes calls (taking entries arrival before) old told ends new

-- ---- of the code's answers

abbrev pub Finished : {D A : Type 0} → (D → ℕ → List (List ℕ) → Reply → D → Type 0) → coded.Taken A
    → D → Answer A → D → Type 0
Finished calls taken old answer new =
    Finishes calls (taken_of taken) old (option_map reply_of answer.reply) answer.ends new

abbrev pub Served : {D A : Type 0} → (D → ℕ → List (List ℕ) → Reply → D → Type 0) → List Entry
    → Option ℕ → Option ℕ → D → Next A → Answer A → D → Type 0
Served calls entries before after old next answer new =
    Serves calls entries before after old (arrival_of next)
    (option_map reply_of answer.reply) answer.ends new
