-- Definitions at examples, and at what they leave out.
use Rattle.std.specs.Prelude.{◌≡◌, ℕ, ◌<◌, ◌≤◌, replicate, pos, true, false, Some, None, List, [], ◌∷◌, sum_by, codes}
use Rattle.std.specs.declared.cmp.Ordering.TheVariants.{Less, Greater}
use Rattle.stow_model.specs.declared.refusal.Refusal.TheVariants.{NotAuthenticated}
use Rattle.stow_model.specs.declared.simple_string.SimpleString.TheVariants.{Ok, Pong}
use Rattle.stow_model.specs.declared.stream_fault.StreamFault.TheVariants.{InvalidArrayLength, ExpectedBulk, InvalidBulkLength, InlineTooLong}
use Rattle.sha2.specs.Sha256.{sha256}
use Rattle.stow_bytes.specs.Limits.{line_limit}
use Rattle.stow_bytes.specs.Bytes.{bytes_cmp}
use Rattle.stow_model.specs.Item as item
use Rattle.stow_model.specs.Message.{Words, Quoted, Blank}
use Rattle.stow_model.specs.Event.{On, Open, Piece, Serve, Close}
use Rattle.stow_model.specs.Reply.{Simple, Error, ProtocolError, Integer, Bulk, Null, Array, encoding}
use Rattle.stow_model.specs.Wire.{Spells, HasNoMessage, IsBegun, Splits, IsFaulty, IsPlace}
use Rattle.stow_model.specs.Command.{Login, Quit, Malformed, ForStore, kind_of}
use Rattle.stow_model.specs.Login.{Entry, IsTenant, login}
use Rattle.stow_model.specs.Store.{Asked, Shown, cost, distinct}
use Rattle.stow_model.specs.History.{Step, Void, At, Plain, Took, part_of, IsOpen, Closed, IsHistory, IsForAnother, ServesAlike, output_of, status_of, stream_of}

-- replies and their bytes (RESP protocol specification, "RESP protocol description")
pub record Encodings : Type 0 where
  pub ok : encoding (Simple Ok) ≡ codes "+OK\r\n"
  pub pong : encoding (Simple Pong) ≡ codes "+PONG\r\n"
  pub error : encoding (Error NotAuthenticated) ≡ codes "-NOAUTH Authentication required.\r\n"
  pub fault : encoding (ProtocolError InvalidBulkLength)
      ≡ codes "-ERR Protocol error: invalid bulk length\r\n"
  pub integer : encoding (Integer (pos 1)) ≡ codes ":1\r\n"
  pub bulk : encoding (Bulk (codes "v1")) ≡ codes "$2\r\nv1\r\n"
  pub empty : encoding (Bulk []) ≡ codes "$0\r\n\r\n"
  pub null : encoding Null ≡ codes "$-1\r\n"
  pub array : encoding (Array (item.Bulk [] ∷ item.Null ∷ [])) ≡ codes "*2\r\n$0\r\n\r\n$-1\r\n"

-- what words are to a connection, and the order of byte strings
pub record OfWords : Type 0 where
  pub login : kind_of (codes "auth" ∷ codes "ann" ∷ codes "bc" ∷ [])
      ≡ Login (codes "ann") (codes "bc")
  pub quit : kind_of (codes "QUIT" ∷ []) ≡ Quit
  pub malformed : kind_of (codes "Auth" ∷ codes "ann" ∷ []) ≡ Malformed
  pub for_store : kind_of (codes "GET" ∷ codes "k" ∷ []) ≡ ForStore
  pub front : bytes_cmp (codes "a") (codes "ab") ≡ Less
  pub byte : bytes_cmp (codes "b") (codes "ab") ≡ Greater

-- streams
pub record OfStreams : Type 0 where
  pub spelled : Spells Blank (codes "*0\r\n")
  pub not_spelled : Spells Blank (codes "*00\r\n") → ⊥
  pub begun : IsBegun (codes "*-")
  pub not_begun : IsBegun (codes "*0\r\n") → ⊥
  pub none : HasNoMessage (codes "*-")
  pub not_none : HasNoMessage (codes "*0\r\n") → ⊥
  pub split : Splits (codes "*0\r\n*-") (Blank ∷ []) (codes "*-")
  pub not_split : Splits (codes "*0\r\n*-") [] (codes "*0\r\n*-") → ⊥
  pub faulty : IsFaulty (codes "*-2") InvalidArrayLength
  pub not_faulty : IsFaulty (codes "*-") InvalidArrayLength → ⊥
  pub other_fault : IsFaulty (codes "*-2") ExpectedBulk → ⊥
  pub place : IsPlace (codes "*") InvalidArrayLength
  pub not_place : IsPlace [] InvalidArrayLength → ⊥
  pub other_place : IsPlace (codes "*") ExpectedBulk → ⊥

-- inline requests
pub record OfLines : Type 0 where
  pub words : Spells (Words (codes "GET" ∷ codes "k" ∷ [])) (codes "GET k\n")
  pub not_words : Spells (Words (codes "GET k" ∷ [])) (codes "GET k\n") → ⊥
  pub cr : Spells (Words (codes "PING" ∷ [])) (codes "PING\r\n")
  pub not_cr : Spells (Words (codes "PING\r" ∷ [])) (codes "PING\r\n") → ⊥
  pub inner_cr : Spells (Words (codes "PI\rNG\r" ∷ [])) (codes "PI\rNG\r\r\n")
  pub not_inner_cr : Spells (Words (codes "PI" ∷ codes "NG" ∷ [])) (codes "PI\rNG\n") → ⊥
  pub spaces : Spells (Words (codes "a" ∷ codes "b" ∷ [])) (codes " a \tb\t\n")
  pub not_spaces : Spells (Words (codes "a" ∷ [] ∷ codes "b" ∷ [])) (codes "a  b\n") → ⊥
  pub quoted : Spells Quoted (codes "ECHO \"m\"\r\n")
  pub single : Spells Quoted (codes "it's\n")
  pub not_quoted : Spells (Words (codes "it's" ∷ [])) (codes "it's\n") → ⊥
  pub blank : Spells Blank (codes " \t\r\n")
  pub not_blank : Spells (Words (codes " \t" ∷ [])) (codes " \t\r\n") → ⊥
  pub empty : Spells Blank (codes "\n")
  pub not_empty : Spells (Words []) (codes "\n") → ⊥
  pub sign : Spells (Words (codes "$5" ∷ [])) (codes "$5\r\n")
  pub begun : IsBegun (codes "$5")
  pub not_faulty : IsFaulty (codes "$5") ExpectedBulk → ⊥
  pub waits : (n : ℕ) → n ≤ line_limit → IsBegun (replicate n 120)
  pub too_long : (n : ℕ) → line_limit < n → IsFaulty (replicate n 120) InlineTooLong

-- connection 1 is opened, a blank comes, and is served
abbrev pub blank_served : List Step
blank_served =
    At 1 (Took Blank false) ∷ At 1 (Plain (Piece (codes "*0\r\n"))) ∷ At 1 (Plain Open) ∷ []

-- connection 1 is opened, asks for a key, and asks to be closed
abbrev pub not_logged_in : List Step
not_logged_in =
    At 1 (Took (Words (codes "quit" ∷ [])) false)
    ∷ At 1 (Took (Words (codes "GET" ∷ codes "k" ∷ [])) false) ∷ At 1 (Plain Open) ∷ []

-- a tenant's entry, whose password is `bc`
abbrev pub some_entry : Entry
some_entry =
    record { name = codes "ann"; salt = codes "a"; digest = sha256 (codes "abc"); quota = 5 }

abbrev pub other_entry : Entry
other_entry =
    record { name = codes "ben"; salt = codes "ab"; digest = sha256 (codes "abc"); quota = 5 }

-- logins
pub record OfLogins : Type 0 where
  pub right : login (some_entry ∷ []) (codes "ann") (codes "bc") ≡ Some 1
  pub other_name : login (some_entry ∷ []) (codes "ben") (codes "bc") ≡ None
  pub nobody : login [] (codes "ann") (codes "bc") ≡ None

-- histories
pub record OfHistories : Type 0 where
  pub history : IsHistory [] blank_served
  pub not_history : IsHistory [] (At 1 (Took Blank false) ∷ At 1 (Plain Open) ∷ []) → ⊥
  pub not_waiting : IsHistory [] (At 1 (Plain Serve) ∷ At 1 (Plain (Piece (codes "*0\r\n")))
      ∷ At 1 (Plain Open) ∷ []) → ⊥
  pub void_open : IsHistory [] (Void (On 1 Open) ∷ [])
  pub no_void_close : IsHistory [] (Void (On 1 Close) ∷ At 1 (Plain Open) ∷ []) → ⊥
  pub no_void_blank : IsHistory [] (Void (On 1 Serve) ∷ At 1 (Plain (Piece (codes "*0\r\n")))
      ∷ At 1 (Plain Open) ∷ []) → ⊥
  pub no_refused_blank : IsHistory [] (At 1 (Took Blank true)
      ∷ At 1 (Plain (Piece (codes "*0\r\n"))) ∷ At 1 (Plain Open) ∷ []) → ⊥
  pub is_open : status_of (part_of 1 blank_served) ≡ IsOpen
  pub is_closed : status_of (part_of 1 not_logged_in) ≡ Closed
  pub stream : stream_of (part_of 1 blank_served) ≡ codes "*0\r\n"
  pub told : output_of [] 1 not_logged_in ≡ Simple Ok ∷ Error NotAuthenticated ∷ []
  pub void : output_of [] 1 (Void (On 1 Serve) ∷ At 1 (Plain Open) ∷ []) ≡ []
  pub alike : ServesAlike (some_entry ∷ []) 1 [] (other_entry ∷ some_entry ∷ []) 2 blank_served
  pub not_alike : ServesAlike (some_entry ∷ []) 1 [] (other_entry ∷ []) 1 [] → ⊥
  pub another : IsForAnother 1 (Some (record {
    tenant = 2;
    event = Asked (record { words = []; is_refused = false });
  }))
  pub not_another : IsForAnother 2 (Some (record {
    tenant = 2;
    event = Asked (record { words = []; is_refused = false });
  })) → ⊥
  pub tenant : IsTenant (some_entry ∷ []) 1
  pub not_tenant : IsTenant (some_entry ∷ []) 0 → ⊥

-- a key's value, as it was written twice
abbrev pub first_version : Shown
first_version = (codes "a", record { number = 1; value = codes "0123456789" })

abbrev pub second_version : Shown
second_version = (codes "a", record { number = 2; value = codes "9876543210" })

-- what is charged: each version once, however often it is shown
pub record OfCharges : Type 0 where
  pub once : sum_by cost (distinct (second_version ∷ first_version ∷ first_version ∷ [])) ≡ 54

-- all of them
abbrev pub Examples : Type 0
Examples = Encodings × OfWords × OfStreams × OfLines × OfLogins × OfHistories × OfCharges
