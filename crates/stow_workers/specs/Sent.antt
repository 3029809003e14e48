-- What a writer was given of the replies, and what waits for it.
use Rattle.std.specs.Prelude.{◌≡◌, ℕ, Bool, true, false, List, [], ◌++◌, drop, Option, Some, None, Result, Ok, Err}
use Rattle.std.specs.Io.KnownBytes.{Appends}
use Rattle.stow_model.specs.Reply.{Reply, encoding}
use Rattle.stow_workers.specs.declared.replies.Replies.{Replies}
use Rattle.stow_workers.specs.Failures.{HasFailed}

-- the bytes are a beginning
abbrev pub Begins : List ℕ → List ℕ → Type 0
Begins bytes all = (more : List ℕ) × (all ≡ bytes ++ more)

-- what a writer holds, where that is known, and how many of its writes have failed
pub record Written : Type 0 where
  pub contents : Option (List ℕ)
  pub failures : ℕ

-- a writer, whether a write has failed, and the bytes that wait for it
pub record Sent : Type 0 where
  pub writer : Written
  pub has_failed : Bool
  pub waiting : List ℕ

abbrev pub sent_of : {A : Type 0} → Option (List ℕ) → ℕ → Replies A → Sent
sent_of contents failures replies =
    record {
      writer = record { contents = contents; failures = failures };
      has_failed = replies.has_failed;
      waiting = drop replies.passed replies.bytes.items;
    }

abbrev pub sent_at : {A : Type 0} → Written → Replies A → Sent
sent_at writer replies =
    record {
      writer = writer;
      has_failed = replies.has_failed;
      waiting = drop replies.passed replies.bytes.items;
    }

-- of all bytes these were written, and what is left waits; after a failure it is given up
abbrev pub IsLeft : Bool → List ℕ → List ℕ → List ℕ → Type 0
IsLeft false written waiting all = all ≡ written ++ waiting
IsLeft true written waiting all = Begins written all

-- the writer failed in the meantime, or it didn't
abbrev pub HasFailedIf : Bool → ℕ → ℕ → Type 0
HasFailedIf false old new = new ≡ old
HasFailedIf true old new = HasFailed old new

-- all these bytes were written or wait, unless the writer has failed: then a beginning was written
pub record HasSent (start : Written) (sent : Sent) (all : List ℕ) : Type 0 where
  pub written : List ℕ
  pub appends : Appends start.contents sent.writer.contents written
  pub left : IsLeft sent.has_failed written sent.waiting all
  pub failures : HasFailedIf sent.has_failed start.failures sent.writer.failures

-- these bytes were added
abbrev pub Sends : Sent → Sent → List ℕ → Type 0
Sends old new bytes = (start : Written) (all : List ℕ) → HasSent start old all
    → HasSent start new (all ++ bytes)

-- nothing was added
abbrev pub StaysSent : Sent → Sent → Type 0
StaysSent old new = (start : Written) (all : List ℕ) → HasSent start old all → HasSent start new all

-- the reply was added, if there is one
abbrev pub SendsReply : Option Reply → Sent → Sent → Type 0
SendsReply None old new = StaysSent old new
SendsReply (Some reply) old new = Sends old new (encoding reply)

-- no byte waits, or the writer has failed
abbrev pub NoneWaits : Bool → List ℕ → Type 0
NoneWaits false waiting = waiting ≡ []
NoneWaits true waiting = Unit {0}

-- all bytes were written, or a write failed after a beginning of them
pub record WritesPart (bytes : List ℕ) (old new : Written) : Type 0 where
  pub front : List ℕ
  pub begins : Begins front bytes
  pub appends : Appends old.contents new.contents front
  pub failures : HasFailed old.failures new.failures

abbrev pub WritesAll : {E : Type 0} → Result (Unit {0}) E → List ℕ → Written → Written → Type 0
WritesAll (Ok done) bytes old new =
    Appends old.contents new.contents bytes × (new.failures ≡ old.failures)
WritesAll (Err error) bytes old new = WritesPart bytes old new

-- a writer of which this is known
abbrev pub written_of : Option (List ℕ) → ℕ → Written
written_of contents failures = record { contents = contents; failures = failures }
