-- What a message does to the value of its key: a put, a removal, an append.
use Rattle.std.specs.Prelude.{ℕ, List}
use Rattle.std.specs.Prelude.{[]}
use Rattle.stow_tree_model.specs.declared.op.Op as coded
use Rattle.stow_tree_model.specs.declared.op.Op.TheVariants as in_op

pub data Op : Type 0 where
  -- the key has this value
  Put : List ℕ → Op
  -- the key has none
  Gone : Op
  -- the value is followed by this, a missing one counting as empty
  Append : List ℕ → Op

-- what the code's type stands for
abbrev pub op_of : coded.Op → Op
op_of (in_op.Put value) = Put value.now
op_of in_op.Gone = Gone
op_of (in_op.Append suffix) = Append suffix.now

-- the bytes that it carries
abbrev pub bytes_in : Op → List ℕ
bytes_in (Put value) = value
bytes_in Gone = []
bytes_in (Append suffix) = suffix
