-- What a client is told, and its bytes: the replies of RESP2 (RESP protocol specification, "RESP
-- protocol description").
use Rattle.std.specs.Prelude.{ℕ, ℤ, List, ◌++◌, length, codes}
use Rattle.std.specs.List.{flat_map}
use Rattle.std.specs.Fmt.{decimal}
use Rattle.stow_model.specs.declared.refusal.Refusal.{Refusal}
use Rattle.stow_model.specs.declared.stream_fault.StreamFault.{StreamFault}
use Rattle.stow_model.specs.declared.simple_string.SimpleString.{SimpleString}
use Rattle.stow_model.specs.declared.simple_string.SimpleString.TheVariants as simple
use Rattle.stow_model.specs.Texts.{refusal_text, fault_text}
use Rattle.stow_model.specs.Item.{Item, line, integer_encoding, bulk_encoding, null_encoding, item_encoding}
use Rattle.stow_model.specs.declared.reply.Reply as coded
use Rattle.stow_model.specs.declared.reply.Reply.TheVariants as in_reply

pub data Reply : Type 0 where
  Simple : SimpleString → Reply
  Error : Refusal → Reply
  ProtocolError : StreamFault → Reply
  Integer : ℤ → Reply
  Bulk : List ℕ → Reply
  Null : Reply
  Array : List Item → Reply

abbrev pub simple_text : SimpleString → List ℕ
simple_text simple.Ok = codes "OK"
simple_text simple.Pong = codes "PONG"

-- the bytes of a reply
abbrev pub encoding : Reply → List ℕ
encoding (Simple text) = line 43 (simple_text text)
encoding (Error refusal) = line 45 (refusal_text refusal)
encoding (ProtocolError fault) = line 45 (codes "ERR Protocol error: " ++ fault_text fault)
encoding (Integer n) = integer_encoding n
encoding (Bulk bytes) = bulk_encoding bytes
encoding Null = null_encoding
encoding (Array items) = line 42 (decimal (length items)) ++ flat_map item_encoding items

-- what the code's type stands for, whatever allocator it has its memory from
abbrev pub reply_of : {A : Type 0} → coded.Reply A → Reply
reply_of (in_reply.Simple text) = Simple text
reply_of (in_reply.Error refusal) = Error refusal
reply_of (in_reply.ProtocolError fault) = ProtocolError fault
reply_of (in_reply.Integer n) = Integer n
reply_of (in_reply.Bulk bytes) = Bulk bytes
reply_of in_reply.Null = Null
reply_of (in_reply.Array items) = Array items
