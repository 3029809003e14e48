-- Messages that come to the tree.
use Rattle.std.specs.Prelude.{◌≡◌, ◌≢◌, ℕ, ◌+◌, ◌≤◌, List, [], ◌∷◌, ◌++◌, length, None}
use Rattle.std.specs.List.{AllByRecursion, sum_by}
use Rattle.stow_flush.specs.Rooms.{BytesFit, FitsSqueezed}
use Rattle.stow_flush.specs.StowMessage.Packed.{message_size}
use Rattle.stow_flush.specs.StowNode.Moves.{IsSqueezed}
use Rattle.stow_flush.specs.StowNode.Subtree.{Subtree, buffered}
use Rattle.stow_flush.specs.StowNode.Superseded.{MayLoseHidden}
use Rattle.stow_tree_model.specs.Agreement.{TenantPins}
use Rattle.stow_tree_model.specs.Messages.{Messages, ops_of, value, with_all}
use Rattle.stow_tree_model.specs.Operations.{outcome, value_in}
use Rattle.stow_tree_model.specs.TreeMessage.{TreeMessage}
use Rattle.stow_tree_model.specs.Value.{IsValue}
use Rattle.stow_tree.specs.TreeState.{TreeState, tree_messages}

-- the message is newer than all of its key, and what it makes of the key's value is within the
-- limit
pub record CanAdd (ms : Messages) (m : TreeMessage) : Type 0 where
  pub newest : (n : ℕ) → m.number ≤ n → ops_of ms m.key n ≡ None
  pub short : IsValue (outcome m.op (value_in (value ms m.key m.number)))

-- no two messages are of one key
abbrev pub AreApart : List TreeMessage → Type 0
AreApart [] = Unit {0}
AreApart (m ∷ ms) = AllByRecursion (λ o. o.key ≢ m.key) ms × AreApart ms

-- the messages can be put beside those that there are
pub record CanPut (held : Messages) (ms : List TreeMessage) : Type 0 where
  pub apart : AreApart ms
  pub each : AllByRecursion (CanAdd held) ms

-- the bytes that messages take in a buffer
abbrev pub bytes_of : List TreeMessage → ℕ
bytes_of ms = sum_by message_size ms

-- the messages can be put, and together they fit an empty buffer
pub record CanReserve (tree : TreeState) (ms : List TreeMessage) : Type 0 where
  pub can : CanPut (tree_messages tree) ms
  pub fit : bytes_of ms ≤ tree.root.shape.buffer

-- the messages can be put, and there is room for them beside the root's own
pub record IsReserved (tree : TreeState) (ms : List TreeMessage) : Type 0 where
  pub can : CanPut (tree_messages tree) ms
  pub room : BytesFit (bytes_of ms) tree.root

-- where one message fits the root, dead bytes dropped, no message moves; but one of the root's own
-- may go before, which the next one hides
pub record MakesRoomNear (m : TreeMessage) (pins : TenantPins) (old new : Subtree) : Type 0 where
  pub between : Subtree
  pub loses : MayLoseHidden pins old between
  pub unmoved : FitsSqueezed (message_size m) between → IsSqueezed between new

-- the tree has exactly these messages more, in its buffers, and nothing else changed: what else
-- there was room for can still be put
pub record Puts (ms : List TreeMessage) (old new : TreeState) : Type 0 where
  pub messages : tree_messages new ≡ with_all (tree_messages old) ms
  pub buffered : length (buffered new.root) ≡ length (buffered old.root) + length ms
  pub height : new.root.height ≡ old.root.height
  pub shape : new.root.shape ≡ old.root.shape
  pub leaves : new.root.leaves ≡ old.root.leaves
  pub cache : new.cache ≡ old.cache
  pub rest : (more : List TreeMessage) → IsReserved old (ms ++ more) → IsReserved new more
