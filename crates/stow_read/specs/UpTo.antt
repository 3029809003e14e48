-- The messages of a key up to a number, at the front of a buffer.
use Rattle.std.specs.Prelude.{◌≡◌, ◌≢◌, ℕ, ◌<◌, ◌≤◌, List, length, take, Option, Some, None}
use Rattle.std.specs.List.{AllByRecursion}
use Rattle.std.specs.declared.cmp.Ordering.TheVariants.{Greater}
use Rattle.stow_bytes.specs.Bytes.{bytes_cmp}
use Rattle.stow_tree_model.specs.Messages.{ops_in}
use Rattle.stow_tree_model.specs.Op.{op_of}
use Rattle.stow_tree_model.specs.Operations.{Operations, NoneAbove, NoneUpTo}
use Rattle.stow_tree_model.specs.TreeMessage.{TreeMessage}
use Rattle.stow_tree_model.specs.declared.message.Message.{Message}

-- so many messages at the front have all that the key has up to the number, and stand no higher
pub record IsUpTo (ms : List TreeMessage) (key : List ℕ) (at count : ℕ) : Type 0 where
  pub within : count ≤ length ms
  pub whole : (n : ℕ) → n ≤ at → ops_in (take count ms) key n ≡ ops_in ms key n
  pub none : NoneAbove at (ops_in (take count ms) key)
  pub low : AllByRecursion (λ m. bytes_cmp m.key key ≢ Greater) (take count ms)

-- the message is the newest of these operations up to the number
pub record IsTop (ops : Operations) (at : ℕ) (m : Message) : Type 0 where
  pub within : m.number ≤ at
  pub there : ops m.number ≡ Some (op_of m.op)
  pub none : (n : ℕ) → m.number < n → n ≤ at → ops n ≡ None

-- it, or none where there are none up to it
abbrev pub IsNewestUpTo : Operations → ℕ → Option Message → Type 0
IsNewestUpTo ops at None = NoneUpTo at ops
IsNewestUpTo ops at (Some m) = IsTop ops at m
