-- A connection takes a turn.
use Rattle.std.proofs.Common.{◌≡◌, ℕ, ◌<◌, Bool, true, false, List, [], ◌∷◌, ◌++◌, length, drop, Option, Some, None, refl, ap, ◌∙◌, sym, subst, inl, inr, ◌⊎◌, append-nil, arith}
use Rattle.std.proofs.KnownBytes.{Consumes-nil, Consumes-kept}
use Rattle.std.specs.Prelude.{IfSome}
use Rattle.std.specs.Io.KnownBytes.{Consumes}
use Rattle.stow_model.specs.Login.{Entry}
use Rattle.stow_shared.specs.StowHouse.declared.stop.Stop.{Stop}
use Rattle.stow_shared.specs.StowHouse.declared.stop.Stop.TheVariants as stopped
use Rattle.stow_shared.specs.StowHouse.declared.conversation.Conversation.{Conversation}
use Rattle.stow_shared.specs.StowHouse.Conversations.{DoorCall, talk_of}
use Rattle.stow_workers.specs.declared.client.Client.{Client}
use Rattle.stow_workers.specs.declared.nonblocking_connection.NonblockingConnection.{NonblockingConnection}
use Rattle.stow_workers.specs.declared.served.Served.{Served}
use Rattle.stow_workers.specs.declared.served.Served.TheVariants as served
use Rattle.stow_workers.specs.declared.turned.Turned.{Turned}
use Rattle.stow_workers.specs.declared.turned.Turned.TheVariants as turned
use Rattle.stow_workers.specs.Sent.{Written, Sent, IsLeft, HasFailedIf, sent_at, StaysSent, NoneWaits}
use Rattle.stow_workers.specs.Talks.{IsServedBy, bytes_told}
use Rattle.stow_workers.specs.Turns.{Origin, LedFrom, State, IsAfter, IsEven, HasSpelled, RestsAt, Stands, outcome_of, PieceTo, CanEndPiece}
use Rattle.stow_workers.specs.NonblockingConnections.{TakesTurn, ReaderFailsAt, GoesOnServing, unknown, ConnectionStands, EndsAt, ConnectionTo, Fed, turned_at, turned_of, TellsWaiting, HasReceived, EndsReceiving, HasWaiting}
use Rattle.stow_workers.proofs.Pieces.{piece_written, outcome_ends, reader_stays, told_at_refusal, goes_on, piece_read, ended_served, failed_served}
use Rattle.stow_workers.proofs.Pipelining.{holds_none, holding_sent}

-- ---- the end of a turn

-- a piece ends otherwise than by the end of input
ends_otherwise : (r : Served) (left : Option (List ℕ)) → CanEndPiece r → EndsAt r left
ends_otherwise served.Quit left can = tt
ends_otherwise served.Ended left can = absurd can
ends_otherwise (served.Faulted fault) left can = tt
ends_otherwise served.ReadFailed left can = absurd can
ends_otherwise served.WriteFailed left can = tt
ends_otherwise served.NoMemory left can = tt

none_waits : (has_failed : Bool) (waiting : List ℕ) → waiting ≡ [] → NoneWaits has_failed waiting
none_waits false waiting none = none
none_waits true waiting none = tt

-- once a write has failed, it doesn't matter what waits
all_lost : (writer : Written) (has_failed : Bool) (waiting : List ℕ) → has_failed ≡ true → StaysSent (record { writer = writer; has_failed = has_failed; waiting = waiting }) (record { writer = writer; has_failed = true; waiting = [] })
all_lost writer has_failed waiting is start all s = record {
  written = s.written;
  appends = s.appends;
  left = subst (λ f. IsLeft f s.written waiting all) is s.left;
  failures = subst (λ f. HasFailedIf f start.failures writer.failures) is s.failures;
}

-- a connection whose replies were written went on, or ended so
written_out : {D A : Type 0} (answers : DoorCall D) (entries : List Entry) (first : Origin D) (start : Written) (read bytes : List ℕ) (unread left : Option (List ℕ)) (door : D) (connection : NonblockingConnection A) (writer : Written) (has_failed : Bool) (waiting : List ℕ) (result : Option Served) (is_drained : Bool)
    → Consumes unread left bytes → ConnectionStands answers entries first start (read ++ bytes) door connection writer → PieceTo answers entries first start (read ++ bytes) result (record { door = door; talk = talk_of connection.client.conversation; sent = record { writer = writer; has_failed = has_failed; waiting = waiting } })
    → IfSome result CanEndPiece → ConnectionTo answers entries first start read (turned_at result is_drained) unread left door connection writer
written_out answers entries first start read bytes unread left door connection writer has_failed waiting None true consumes stands to end = record { bytes = bytes; consumes = consumes; stands = stands }
written_out answers entries first start read bytes unread left door connection writer has_failed waiting None false consumes stands to end = record { bytes = bytes; consumes = consumes; stands = stands }
written_out answers entries first start read bytes unread left door connection writer has_failed waiting (Some r) is_drained consumes stands to end = record { bytes = bytes; consumes = consumes; end = ends_otherwise r left end; served = to }

-- how it ended where this was the last stop
turned_out : {D A : Type 0} (answers : DoorCall D) (entries : List Entry) (first : Origin D) (start : Written) (read bytes : List ℕ) (unread left : Option (List ℕ)) (door : D) (connection : NonblockingConnection A) (writer : Written) (stop : Option Stop) (waits has_failed is_drained : Bool) (waiting : List ℕ)
    → Consumes unread left bytes → ConnectionStands answers entries first start (read ++ bytes) door connection writer → TellsWaiting waits waiting
    → Stands answers entries first start (read ++ bytes) stop door connection.client (record { writer = writer; has_failed = has_failed; waiting = waiting })
    → ConnectionTo answers entries first start read (turned_of stop waits has_failed is_drained) unread left door connection writer
turned_out answers entries first start read bytes unread left door connection writer stop true has_failed is_drained waiting consumes stands tells at = record { bytes = bytes; consumes = consumes; stands = stands }
turned_out answers entries first start read bytes unread left door connection writer None false has_failed is_drained waiting consumes stands tells at = record { bytes = bytes; consumes = consumes; stands = stands }
turned_out answers entries first start read bytes unread left door connection writer (Some stop) false has_failed is_drained waiting consumes stands tells at =
    written_out answers entries first start read bytes unread left door connection writer has_failed waiting (outcome_of stop has_failed) is_drained consumes stands
    (piece_written answers entries first start (read ++ bytes) (record { door = door; talk = talk_of connection.client.conversation; sent = record { writer = writer; has_failed = has_failed; waiting = waiting } }) writer waiting stop has_failed at.0 (λ start all s. s) (none_waits has_failed waiting tells)) (outcome_ends stop has_failed)

-- the turn ended so
pub connection_turned : {D A : Type 0} (answers : DoorCall D) (entries : List Entry) (first : Origin D) (start : Written) (read bytes : List ℕ) (unread left : Option (List ℕ)) (door : D) (connection : NonblockingConnection A) (writer : Written) (waits is_drained : Bool) (result : Turned)
    → Consumes unread left bytes → ConnectionStands answers entries first start (read ++ bytes) door connection writer → TellsWaiting waits (drop connection.client.replies.passed connection.client.replies.bytes.items)
    → result ≡ turned_of connection.stop waits connection.client.replies.has_failed is_drained → ConnectionTo answers entries first start read result unread left door connection writer
connection_turned answers entries first start read bytes unread left door connection writer waits is_drained result consumes stands tells is =
    subst (λ r. ConnectionTo answers entries first start read r unread left door connection writer) (sym is)
    (turned_out answers entries first start read bytes unread left door connection writer connection.stop waits connection.client.replies.has_failed is_drained (drop connection.client.replies.passed connection.client.replies.bytes.items) consumes stands tells stands)

-- bytes wait, or they don't
pub waits_or_not : (waiting : List ℕ) → (waits : Bool) × TellsWaiting waits waiting
waits_or_not [] = (false, refl)
waits_or_not (b ∷ waiting) = (true, omega arith)

-- ---- what was read

-- a piece was added to what is to be served
pub connection_fed : {D A : Type 0} (answers : DoorCall D) (entries : List Entry) (first : Origin D) (start : Written) (read bytes : List ℕ) (door : D) (old new : NonblockingConnection A) (writer : Written) → old.stop ≡ Some stopped.More → Fed bytes old new
    → ConnectionStands answers entries first start read door old writer → ConnectionStands answers entries first start (read ++ bytes) door new writer
connection_fed answers entries first start read bytes door old new writer more (unread, tenant, same, none) stands =
    let at : Stands answers entries first start read (Some stopped.More) door old.client (sent_at writer old.client.replies) = subst (λ s. Stands answers entries first start read s door old.client (sent_at writer old.client.replies)) more stands in
    let fed = piece_read answers entries first start read bytes (record { door = door; talk = talk_of old.client.conversation; sent = sent_at writer old.client.replies }) (record { door = door; talk = talk_of new.client.conversation; sent = sent_at writer new.client.replies })
    refl tenant unread (ap (λ (c : Client _). sent_at writer c.replies) same) (goes_on answers entries first start read _ at.0) in
    subst (λ s. Stands answers entries first start (read ++ bytes) s door new.client (sent_at writer new.client.replies)) (sym none)
    (holds_none answers entries first start (read ++ bytes) door new.client (sent_at writer new.client.replies)
    (ap (λ (c : Client _). drop c.done c.requests.items) same ∙ at.1.0, ap (λ (c : Client _). c.end) same ∙ at.1.1) fed)

-- where nothing was read
pub nothing_read : {D A : Type 0} (answers : DoorCall D) (entries : List Entry) (first : Origin D) (start : Written) (read : List ℕ) (door : D) (connection : NonblockingConnection A) (writer : Written) → ConnectionStands answers entries first start read door connection writer → ConnectionStands answers entries first start (read ++ []) door connection writer
nothing_read answers entries first start read door connection writer stands = subst (λ bytes. ConnectionStands answers entries first start bytes door connection writer) (sym (append-nil read)) stands

-- the turn ended with the reading
pub ended_receiving : {D A : Type 0} (answers : DoorCall D) (entries : List Entry) (first : Origin D) (start : Written) (read : List ℕ) (result : Turned) (unread left : Option (List ℕ)) (failed fails : ℕ) (door : D) (old new : NonblockingConnection A) (writer : Written)
    → EndsReceiving result unread failed old left fails new → ConnectionStands answers entries first start read door old writer
    → ConnectionTo answers entries first start read result unread left door new writer
ended_receiving answers entries first start read turned.Waits unread left failed fails door old new writer (keeps, same, even, is) stands =
    record { bytes = []; consumes = Consumes-kept _ _ _ [] (Consumes-nil unread) keeps; stands = nothing_read answers entries first start read door new writer (subst (λ l. ConnectionStands answers entries first start read door l writer) (sym is) stands) }
ended_receiving answers entries first start read (turned.Ended served.Ended) unread left failed fails door old new writer (consumes, end, same, more, even, is) stands =
    let at = subst (λ s. Stands answers entries first start read s door old.client (sent_at writer old.client.replies)) more stands in
    record { bytes = []; consumes = consumes; end = end; served = subst (λ bytes. IsServedBy (LedFrom answers first door) entries bytes start writer served.Ended) (sym (append-nil read)) (ended_served answers entries first start read _ at.0 even) }
ended_receiving answers entries first start read (turned.Ended served.ReadFailed) unread left failed fails door old new writer (keeps, fail, more, even, is) stands =
    let at = subst (λ s. Stands answers entries first start read s door old.client (sent_at writer old.client.replies)) more stands in
    record { bytes = []; consumes = Consumes-kept _ _ _ [] (Consumes-nil unread) keeps; end = tt; served = subst (λ bytes. IsServedBy (LedFrom answers first door) entries bytes start writer served.ReadFailed) (sym (append-nil read)) (failed_served answers entries first start read _ at.0 even) }
ended_receiving answers entries first start read (turned.Ended served.WriteFailed) unread left failed fails door old new writer (same, fails_same, more, has_failed, is) stands =
    let at = subst (λ s. Stands answers entries first start read s door old.client (sent_at writer old.client.replies)) more stands in
    record {
      bytes = [];
      consumes = subst (λ l. Consumes unread l []) (sym same) (Consumes-nil unread);
      end = tt;
      served = subst (λ bytes. IsServedBy (LedFrom answers first door) entries bytes start writer served.WriteFailed) (sym (append-nil read))
          (piece_written answers entries first start read (record { door = door; talk = talk_of old.client.conversation; sent = sent_at writer old.client.replies }) writer [] stopped.More true at.0 (all_lost writer old.client.replies.has_failed _ has_failed) tt);
    }
ended_receiving answers entries first start read (turned.Ended served.NoMemory) unread left failed fails door old new writer (bytes, consumes, same, more, even, is) stands =
    let at = subst (λ s. Stands answers entries first start read s door old.client (sent_at writer old.client.replies)) more stands in
    let old_state : State _ = record { door = door; talk = talk_of old.client.conversation; sent = sent_at writer old.client.replies } in
    let fed : State _ = record { door = door; talk = record { tenant = old_state.talk.tenant; unread = old_state.talk.unread ++ bytes }; sent = old_state.sent } in
    let u = piece_read answers entries first start read bytes old_state fed refl refl refl refl (goes_on answers entries first start read old_state at.0) in
    record {
      bytes = bytes;
      consumes = consumes;
      end = tt;
      served = record { exchanges = u.exchanges; course = u.course; stops = tt; told = told_at_refusal start _ _ _ u.spelled ([], sym (append-nil _)) };
    }
ended_receiving answers entries first start read turned.Again unread left failed fails door old new writer ends stands = absurd ends
ended_receiving answers entries first start read turned.Drained unread left failed fails door old new writer ends stands = absurd ends
ended_receiving answers entries first start read (turned.Ended served.Quit) unread left failed fails door old new writer ends stands = absurd ends
ended_receiving answers entries first start read (turned.Ended (served.Faulted fault)) unread left failed fails door old new writer ends stands = absurd ends

-- ---- what was written in a turn

spelled_stays : (stop : Option Stop) (start : Written) (sent left : Sent) (all : List ℕ) → StaysSent sent left → HasSpelled stop start sent all → HasSpelled stop start left all
spelled_stays None start sent left all stays s = stays start all s
spelled_stays (Some stopped.More) start sent left all stays s = stays start all s
spelled_stays (Some stopped.Quit) start sent left all stays s = stays start all s
spelled_stays (Some (stopped.Faulted fault)) start sent left all stays s = stays start all s
spelled_stays (Some stopped.NoMemory) start sent left all stays (front, begins, s) = (front, begins, stays start front s)

rests_still : {A : Type 0} (stop : Stop) (before after : Client A) → drop after.done after.requests.items ≡ drop before.done before.requests.items → after.end ≡ before.end → RestsAt stop before → RestsAt stop after
rests_still stopped.NoMemory before after same end rests = tt
rests_still stopped.More before after same end rests = (same ∙ rests.0, end ∙ rests.1)
rests_still stopped.Quit before after same end rests = (same ∙ rests.0, end ∙ rests.1)
rests_still (stopped.Faulted fault) before after same end rests = (same ∙ rests.0, end ∙ rests.1)

-- it stands where it stood, with less that waits
stands_written : {D A : Type 0} (answers : DoorCall D) (entries : List Entry) (first : Origin D) (start : Written) (read : List ℕ) (stop : Option Stop) (door : D) (before after : Client A) (sent left : Sent) → after ≡ record before { replies = after.replies } → StaysSent sent left
    → Stands answers entries first start read stop door before sent → Stands answers entries first start read stop door after left
stands_written answers entries first start read None door before after sent left same stays u =
    holding_sent answers entries first start read door before after sent left (ap (λ (c : Client _). c.requests) same) (ap (λ (c : Client _). c.done) same) (ap (λ (c : Client _). c.end) same) (ap (λ (c : Client _). c.conversation) same) stays u
stands_written {D} answers entries first start read (Some stop) door before after sent left same stays (u, rests) = (
  subst (λ (c : Conversation _). IsAfter answers entries first start read (Some stop) (record { door = door; talk = talk_of c; sent = left })) (sym (ap (λ (c : Client _). c.conversation) same))
      (record { exchanges = u.exchanges; course = u.course; at = u.at; spelled = spelled_stays (Some stop) start sent left (bytes_told entries u.exchanges) stays u.spelled }),
  rests_still stop before after (ap (λ (c : Client _). drop c.done c.requests.items) same) (ap (λ (c : Client _). c.end) same) rests,
)

-- ---- a whole turn

-- nothing or a piece was read, messages were served, and what waited was written
pub turn_goes : {D A : Type 0} (answers : DoorCall D) (entries : List Entry) (result : Turned) (unread left : Option (List ℕ)) (failed fails : ℕ) (door door' : D) (old mid served new : NonblockingConnection A) (writer written : Written) (is_drained : Bool)
    → HasReceived unread failed old left fails mid → ((w : Written) → GoesOnServing answers entries w door mid door' served)
    → new.stop ≡ served.stop → new.client ≡ record served.client { replies = new.client.replies } → StaysSent (sent_at writer served.client.replies) (sent_at written new.client.replies)
    → ((waits : Bool) → TellsWaiting waits (drop new.client.replies.passed new.client.replies.bytes.items) → result ≡ turned_of new.stop waits new.client.replies.has_failed is_drained)
    → TakesTurn answers entries result unread door old writer left door' new written
turn_goes {D} {A} answers entries result unread left failed fails door door' old mid served new writer written is_drained (same_fails, received) serves stop same stays is first start read stands = by_reading received
  where
    go_on : (bytes : List ℕ) → Consumes unread left bytes → ConnectionStands answers entries first start (read ++ bytes) door mid writer → ConnectionTo answers entries first start read result unread left door' new written
    go_on bytes consumes at =
        let after = serves writer first start (read ++ bytes) at in
        let put = subst (λ s. Stands answers entries first start (read ++ bytes) s door' new.client (sent_at written new.client.replies)) (sym stop)
        (stands_written answers entries first start (read ++ bytes) served.stop door' served.client new.client (sent_at writer served.client.replies) (sent_at written new.client.replies) same stays after) in
        let (waits, tells) = waits_or_not (drop new.client.replies.passed new.client.replies.bytes.items) in
        connection_turned answers entries first start read bytes unread left door' new written waits is_drained result consumes put tells (is waits tells)

    by_reading : ((left ≡ unread) × (mid ≡ old)) ⊎ ((bytes : List ℕ) × Consumes unread left bytes × (old.stop ≡ Some stopped.More) × IsEven (sent_at unknown old.client.replies) × Fed bytes old mid) → ConnectionTo answers entries first start read result unread left door' new written
    by_reading (inl (kept, here)) = go_on [] (subst (λ l. Consumes unread l []) (sym kept) (Consumes-nil unread)) (nothing_read answers entries first start read door mid writer (subst (λ l. ConnectionStands answers entries first start read door l writer) (sym here) stands))
    by_reading (inr (bytes, consumes, more, even, fed)) = go_on bytes consumes (connection_fed answers entries first start read bytes door old mid writer more fed stands)

-- the reader hasn't failed in a turn that went on to its end
pub reader_stays_on : (result : Turned) (stop : Option Stop) (waits has_failed is_drained : Bool) (failed fails : ℕ) → result ≡ turned_of stop waits has_failed is_drained → fails ≡ failed → ReaderFailsAt result failed fails
reader_stays_on result stop waits has_failed is_drained failed fails is same = subst (λ r. ReaderFailsAt r failed fails) (sym is) (by_stop stop waits)
  where
    by_result : (r : Option Served) (b : Bool) → IfSome r CanEndPiece → ReaderFailsAt (turned_at r b) failed fails
    by_result None true can = same
    by_result None false can = same
    by_result (Some r) b can = (reader_stays r failed fails None [] can same).0

    by_stop : (s : Option Stop) (w : Bool) → ReaderFailsAt (turned_of s w has_failed is_drained) failed fails
    by_stop s true = same
    by_stop None false = same
    by_stop (Some s) false = by_result (outcome_of s has_failed) is_drained (outcome_ends s has_failed)

pub reader_at_end : {A : Type 0} (result : Turned) (unread left : Option (List ℕ)) (failed fails : ℕ) (old new : NonblockingConnection A) → EndsReceiving result unread failed old left fails new → ReaderFailsAt result failed fails
reader_at_end turned.Waits unread left failed fails old new (keeps, same, even, is) = same
reader_at_end (turned.Ended served.Ended) unread left failed fails old new (consumes, end, same, more, even, is) = same
reader_at_end (turned.Ended served.ReadFailed) unread left failed fails old new (keeps, failed_now, more, even, is) = failed_now
reader_at_end (turned.Ended served.WriteFailed) unread left failed fails old new (kept, same, more, has_failed, is) = same
reader_at_end (turned.Ended served.NoMemory) unread left failed fails old new (bytes, consumes, same, more, even, is) = same
reader_at_end turned.Again unread left failed fails old new ends = absurd ends
reader_at_end turned.Drained unread left failed fails old new ends = absurd ends
reader_at_end (turned.Ended served.Quit) unread left failed fails old new ends = absurd ends
reader_at_end (turned.Ended (served.Faulted fault)) unread left failed fails old new ends = absurd ends

-- ---- where bytes wait

none_wait : {T : Type 0} (waiting : List ℕ) → waiting ≡ [] → 0 < length waiting → T
none_wait waiting none some = let zero = subst (λ w. 0 < length w) none some in absurd (omega (arith, zero))

-- nothing is read
pub not_read : {A : Type 0} (unread left : Option (List ℕ)) (failed fails : ℕ) (old new : NonblockingConnection A) → HasReceived unread failed old left fails new → HasWaiting old → (left ≡ unread) × HasWaiting new
not_read unread left failed fails old new (same, inl (kept, here)) waits = (kept, subst HasWaiting (sym here) waits)
not_read unread left failed fails old new (same, inr (bytes, consumes, more, even, fed)) waits = none_wait _ even.1 waits

-- and the turn doesn't end with the reading, but where a write has failed
pub not_read_at_end : {A : Type 0} (result : Turned) (unread left : Option (List ℕ)) (failed fails : ℕ) (old new : NonblockingConnection A) → EndsReceiving result unread failed old left fails new → HasWaiting old → left ≡ unread
not_read_at_end turned.Waits unread left failed fails old new (keeps, same, even, is) waits = none_wait _ even.1 waits
not_read_at_end (turned.Ended served.Ended) unread left failed fails old new (consumes, end, same, more, even, is) waits = none_wait _ even.1 waits
not_read_at_end (turned.Ended served.ReadFailed) unread left failed fails old new (keeps, failed_now, more, even, is) waits = none_wait _ even.1 waits
not_read_at_end (turned.Ended served.WriteFailed) unread left failed fails old new (kept, same, more, has_failed, is) waits = kept
not_read_at_end (turned.Ended served.NoMemory) unread left failed fails old new (bytes, consumes, same, more, even, is) waits = none_wait _ even.1 waits
not_read_at_end turned.Again unread left failed fails old new ends waits = absurd ends
not_read_at_end turned.Drained unread left failed fails old new ends waits = absurd ends
not_read_at_end (turned.Ended served.Quit) unread left failed fails old new ends waits = absurd ends
not_read_at_end (turned.Ended (served.Faulted fault)) unread left failed fails old new ends waits = absurd ends
