-- A request as it is taken from a stream.
use Rattle.std.specs.Prelude.{ℕ, List}
use Rattle.stow_model.specs.declared.message.Message as coded
use Rattle.stow_model.specs.declared.message.Message.TheVariants as in_message

pub data Message : Type 0 where
  -- these words
  Words : List (List ℕ) → Message
  -- a line with a quotation mark in it
  Quoted : Message
  -- nothing to do
  Blank : Message

-- what the code's type stands for, whatever allocator it has its memory from
abbrev pub message_of : {A : Type 0} → coded.Message A → Message
message_of (in_message.Words words) = Words words
message_of in_message.Quoted = Quoted
message_of in_message.Blank = Blank
