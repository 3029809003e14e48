-- A piece is read, and its replies are written.
use Rattle.std.proofs.Common.{◌≡◌, ℕ, Bool, true, false, List, [], ◌∷◌, ◌++◌, Option, Some, None, refl, ap, ◌∙◌, sym, subst, inl, inr, append_assoc, append-nil}
use Rattle.std.specs.Prelude.{IfSome}
use Rattle.std.proofs.KnownBytes.{Appends-nil}
use Rattle.std.specs.Io.KnownBytes.{Appends}
use Rattle.stow_model.specs.Login.{Entry}
use Rattle.stow_model.specs.Wire.{IsBegun}
use Rattle.stow_model.proofs.Messages.{none_begun}
use Rattle.stow_model.specs.History.{ConnectionStep, IsOpen, Follows, status_of, served_as, taken_by, stream_of}
use Rattle.stow_shared.specs.StowHouse.declared.stop.Stop.{Stop}
use Rattle.stow_shared.specs.StowHouse.declared.stop.Stop.TheVariants as stopped
use Rattle.stow_shared.specs.StowHouse.Conversations.{Read, DoorCall, Talk, as_seen}
use Rattle.stow_workers.specs.declared.served.Served.{Served}
use Rattle.stow_workers.specs.declared.served.Served.TheVariants as served
use Rattle.stow_workers.specs.Exchanges.{steps_of, AllFollow, calls_in, LeadTo, told_in, spelled}
use Rattle.stow_workers.specs.Sent.{Begins, Written, Sent, IsLeft, HasFailedIf, HasSent, StaysSent, NoneWaits}
use Rattle.stow_workers.specs.Talks.{HasServedAll, ReaderFails, MeetsEnd, IsTold, IsServed, IsServedBy, bytes_told}
use Rattle.stow_workers.specs.Turns.{Origin, LedFrom, State, IsAt, IsAfter, IsEven, PieceTo, CanEndPiece, outcome_of}
use Rattle.stow_workers.proofs.Turning.{one_more}

-- ---- what was read

pub piece_read : {D : Type 0} (answers : DoorCall D) (entries : List Entry) (first : Origin D) (start : Written) (read bytes : List ℕ) (old new : State D) → new.door ≡ old.door → new.talk.tenant ≡ old.talk.tenant → new.talk.unread ≡ old.talk.unread ++ bytes → new.sent ≡ old.sent
    → IsAfter answers entries first start read None old → IsAfter answers entries first start (read ++ bytes) None new
unfolding steps_of told_in
piece_read answers entries first start read bytes old new door tenant unread sent u =
    let more = one_more answers entries first read u.exchanges (Read bytes) None None old.talk (as_seen IsOpen new.talk) old.door new.door u.course u.at
    (record { moves = record { can = tt; status = refl; tenant = tenant; unread = unread }; asks = refl; says = refl }) door in
    record { exchanges = Read bytes ∷ u.exchanges; course = more.course; at = more.at; spelled = subst (λ s. HasSent start s (bytes_told entries u.exchanges)) (sym sent) u.spelled }

-- a connection that waits goes on with the next piece
pub goes_on : {D : Type 0} (answers : DoorCall D) (entries : List Entry) (first : Origin D) (start : Written) (read : List ℕ) (state : State D) → IsAfter answers entries first start read (Some stopped.More) state → IsAfter answers entries first start read None state
goes_on answers entries first start read state w = record { exchanges = w.exchanges; course = w.course; at = w.at.0; spelled = w.spelled }

-- ---- what was written

-- nothing waits, and no write has failed: all was written
all_written : (start writer : Written) (waiting all : List ℕ) (s : HasSent start (record { writer = writer; has_failed = false; waiting = waiting }) all) → waiting ≡ [] → s.written ≡ all
all_written start writer waiting all s none = sym (s.left ∙ ap (λ b. s.written ++ b) none ∙ append-nil s.written)

begins_further : (a b c : List ℕ) → Begins a b → Begins b c → Begins a c
begins_further a b c (m, e) (n, f) = (m ++ n, f ∙ ap (λ x. x ++ n) e ∙ append_assoc a m n)

-- a beginning was spelled, and of that all was written, or as much as the writer took
told_part : (start writer : Written) (has_failed : Bool) (waiting front all : List ℕ) → HasSent start (record { writer = writer; has_failed = has_failed; waiting = waiting }) front → Begins front all
    → IsTold served.NoMemory start writer all
told_part start writer false waiting front all s begins = record {
  written = s.written;
  appends = s.appends;
  whole = begins_further s.written front all (waiting, s.left) begins;
  failures = inl s.failures;
}
told_part start writer true waiting front all s begins = record {
  written = s.written;
  appends = s.appends;
  whole = begins_further s.written front all s.left begins;
  failures = inr s.failures;
}

pub told_at_refusal : (start : Written) (sent : Sent) (front all : List ℕ) → HasSent start sent front → Begins front all → IsTold served.NoMemory start sent.writer all
told_at_refusal start sent front all s begins = told_part start sent.writer sent.has_failed sent.waiting front all s begins

told_at_failure : (start writer : Written) (waiting all : List ℕ) → HasSent start (record { writer = writer; has_failed = true; waiting = waiting }) all → IsTold served.WriteFailed start writer all
told_at_failure start writer waiting all s = record { written = s.written; appends = s.appends; whole = s.left; failures = s.failures }

pub has_served_all : (entries : List Entry) (talk : Talk) (steps : List ConnectionStep) → IsAt entries (Some stopped.More) talk steps → HasServedAll steps
has_served_all entries talk steps (at, begun) = (sym at.status, (at.front, talk.unread, at.taken, begun, at.stream))

-- what was to be written was written, or a write has failed
pub piece_written : {D : Type 0} (answers : DoorCall D) (entries : List Entry) (first : Origin D) (start : Written) (read : List ℕ) (old : State D) (writer : Written) (waiting : List ℕ) (stop : Stop) (has_failed : Bool)
    → IsAfter answers entries first start read (Some stop) old → StaysSent old.sent (record { writer = writer; has_failed = has_failed; waiting = waiting }) → NoneWaits has_failed waiting
    → PieceTo answers entries first start read (outcome_of stop has_failed) (record { door = old.door; talk = old.talk; sent = record { writer = writer; has_failed = has_failed; waiting = waiting } })
piece_written answers entries first start read old writer waiting stopped.NoMemory has_failed e stays written =
    record { exchanges = e.exchanges; course = e.course; stops = tt; told = told_part start writer has_failed waiting e.spelled.0 _ (stays start e.spelled.0 e.spelled.2) e.spelled.1 }
piece_written answers entries first start read old writer waiting stopped.More true e stays written =
    record { exchanges = e.exchanges; course = e.course; stops = inl (has_served_all entries old.talk _ e.at); told = told_at_failure start writer waiting _ (stays start _ e.spelled) }
piece_written answers entries first start read old writer waiting stopped.Quit true e stays written =
    record { exchanges = e.exchanges; course = e.course; stops = inr (inl e.at); told = told_at_failure start writer waiting _ (stays start _ e.spelled) }
piece_written answers entries first start read old writer waiting (stopped.Faulted fault) true e stays written =
    record { exchanges = e.exchanges; course = e.course; stops = inr (inr (fault, e.at)); told = told_at_failure start writer waiting _ (stays start _ e.spelled) }
piece_written answers entries first start read old writer waiting stopped.More false e stays written =
    (record { exchanges = e.exchanges; course = e.course; at = e.at; spelled = stays start _ e.spelled }, (refl, written))
piece_written answers entries first start read old writer waiting stopped.Quit false e stays written =
    let s = stays start _ e.spelled in
    record { exchanges = e.exchanges; course = e.course; stops = e.at; told = record { written = s.written; appends = s.appends; whole = all_written start writer waiting _ s written; failures = s.failures } }
piece_written answers entries first start read old writer waiting (stopped.Faulted fault) false e stays written =
    let s = stays start _ e.spelled in
    record { exchanges = e.exchanges; course = e.course; stops = e.at; told = record { written = s.written; appends = s.appends; whole = all_written start writer waiting _ s written; failures = s.failures } }

-- the same, of what the piece ended with
pub piece_ended : {D : Type 0} (answers : DoorCall D) (entries : List Entry) (first : Origin D) (start : Written) (read : List ℕ) (old : State D) (writer : Written) (waiting : List ℕ) (stop : Stop) (result : Option Served) (has_failed was : Bool)
    → result ≡ outcome_of stop was → was ≡ has_failed → IsAfter answers entries first start read (Some stop) old → StaysSent old.sent (record { writer = writer; has_failed = has_failed; waiting = waiting }) → NoneWaits has_failed waiting
    → PieceTo answers entries first start read result (record { door = old.door; talk = old.talk; sent = record { writer = writer; has_failed = has_failed; waiting = waiting } })
piece_ended answers entries first start read old writer waiting stop result has_failed was is same e stays written =
    let new : State _ = record { door = old.door; talk = old.talk; sent = record { writer = writer; has_failed = has_failed; waiting = waiting } } in
    subst (λ r. PieceTo answers entries first start read r new) (sym (is ∙ ap (outcome_of stop) same)) (piece_written answers entries first start read old writer waiting stop has_failed e stays written)

pub outcome_ends : (stop : Stop) (has_failed : Bool) → IfSome (outcome_of stop has_failed) CanEndPiece
outcome_ends stopped.NoMemory has_failed = tt
outcome_ends stopped.More true = tt
outcome_ends stopped.Quit true = tt
outcome_ends (stopped.Faulted fault) true = tt
outcome_ends stopped.More false = tt
outcome_ends stopped.Quit false = tt
outcome_ends (stopped.Faulted fault) false = tt

-- the reader that gave a piece hasn't failed, and a piece doesn't end at the end of input
pub reader_stays : (result : Served) (old new : ℕ) (left : Option (List ℕ)) (read : List ℕ) → CanEndPiece result → new ≡ old → ReaderFails result old new × MeetsEnd result left read
reader_stays served.Quit old new left read can same = (same, tt)
reader_stays served.Ended old new left read can same = absurd can
reader_stays (served.Faulted fault) old new left read can same = (same, tt)
reader_stays served.ReadFailed old new left read can same = absurd can
reader_stays served.WriteFailed old new left read can same = (same, tt)
reader_stays served.NoMemory old new left read can same = (same, tt)

-- ---- a whole connection

-- a door at which a connection begins
abbrev pub from_here : {D : Type 0} → D → Origin D
from_here door = record { earlier = []; door = door }

-- nothing has come yet
pub begins : {D : Type 0} (answers : DoorCall D) (entries : List Entry) (door : D) (start : Written) (talk : Talk) (waiting : List ℕ) (has_failed : Bool) → talk.tenant ≡ None → talk.unread ≡ [] → waiting ≡ [] → has_failed ≡ false
    → IsAfter answers entries (from_here door) start [] (Some stopped.More) (record { door = door; talk = talk; sent = record { writer = start; has_failed = has_failed; waiting = waiting } })
unfolding steps_of AllFollow calls_in told_in spelled LeadTo Follows status_of served_as taken_by stream_of
begins answers entries door start talk waiting has_failed nobody none empty right = record {
  exchanges = [];
  course = record { follow = (tt, tt); stream = refl; door = ([], refl, refl) };
  at = (record { status = refl; tenant = nobody; front = []; taken = refl; stream = sym none }, subst IsBegun (sym none) none_begun);
  spelled = record {
    written = [];
    appends = Appends-nil start.contents;
    left = subst (λ f. IsLeft f [] waiting []) (sym right) (sym empty);
    failures = subst (λ f. HasFailedIf f start.failures start.failures) (sym right) refl;
  };
}

-- calls that began at a connection's first door lead it from there
pub served_from_here : {D : Type 0} (answers : DoorCall D) (entries : List Entry) (first new : D) (read : List ℕ) (before after : Written) (result : Served) → IsServedBy (LedFrom answers (from_here first) new) entries read before after result → IsServed answers entries first new read before after result
served_from_here answers entries first new read before after result s =
    let (newer, is, led) = s.course.door in
    record {
      exchanges = s.exchanges;
      course = record { follow = s.course.follow; stream = s.course.stream; door = subst (λ calls. LeadTo answers first calls new) (sym (append-nil newer) ∙ sym is) led };
      stops = s.stops;
      told = s.told;
    }

-- ---- the end of a connection whose messages were all served

-- nothing waits and no write has failed: all was written
even_told : (start : Written) (sent : Sent) (all : List ℕ) → HasSent start sent all → IsEven sent → (written : List ℕ) × Appends start.contents sent.writer.contents written × (written ≡ all) × (sent.writer.failures ≡ start.failures)
even_told start sent all s even = (
  s.written,
  s.appends,
  sym (subst (λ f. IsLeft f s.written sent.waiting all) even.0 s.left ∙ ap (λ b. s.written ++ b) even.1 ∙ append-nil s.written),
  subst (λ f. HasFailedIf f start.failures sent.writer.failures) even.0 s.failures,
)

module _ {D : Type 0} (answers : DoorCall D) (entries : List Entry) (first : Origin D) (start : Written) (read : List ℕ) (state : State D) (waits : IsAfter answers entries first start read (Some stopped.More) state) (even : IsEven state.sent) where
  -- the reader failed
  pub failed_served : IsServedBy (LedFrom answers first state.door) entries read start state.sent.writer served.ReadFailed
  failed_served =
      let (written, appends, whole, failures) = even_told start state.sent (bytes_told entries waits.exchanges) waits.spelled even in
      record { exchanges = waits.exchanges; course = waits.course; stops = has_served_all entries state.talk _ waits.at; told = record { written = written; appends = appends; whole = whole; failures = failures } }

  -- the input ended
  pub ended_served : IsServedBy (LedFrom answers first state.door) entries read start state.sent.writer served.Ended
  ended_served =
      let (written, appends, whole, failures) = even_told start state.sent (bytes_told entries waits.exchanges) waits.spelled even in
      record { exchanges = waits.exchanges; course = waits.course; stops = has_served_all entries state.talk _ waits.at; told = record { written = written; appends = appends; whole = whole; failures = failures } }
