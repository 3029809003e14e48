-- A change on its way to a leaf.
use Rattle.std.specs.Prelude.{ℕ, List}
use Rattle.stow_tree_model.specs.Op.{Op, op_of}
use Rattle.stow_tree_model.specs.declared.message.Message as coded

pub record TreeMessage : Type 0 where
  -- the key among those of all tenants
  pub key : List ℕ
  -- the write that it is of
  pub number : ℕ
  pub op : Op

-- what the code's type stands for
abbrev pub message_of : coded.Message → TreeMessage
message_of m = record { key = m.key.bytes.now; number = m.number; op = op_of m.op }
