-- A node of whose own messages newer ones supersede some.
use Rattle.std.specs.Prelude.{◌≡◌, ◌⊎◌, ℕ, ◌+◌, ◌*◌, ◌/◌, ◌≤◌, List, length}
use Rattle.stow_leaves.specs.StowLeaf.Replacements.{MeanTheSame}
use Rattle.stow_leaves.specs.StowMessage.MessageBuf.{MessageList}
use Rattle.stow_superseded.specs.Hidden.{DropsHidden}
use Rattle.stow_superseded.specs.Superseded.{buffer_without_superseded}
use Rattle.stow_tree_model.specs.Agreement.{TenantPins}
use Rattle.stow_tree_model.specs.Keys.{tenant_of}
use Rattle.stow_tree_model.specs.Messages.{ops_in}
use Rattle.stow_node.specs.Subtree.{Subtree, messages_of}

-- these are gone, and dead bytes too; a quarter of the block is free
pub record DropsSuperseded (pins : TenantPins) (old new : Subtree) : Type 0 where
  pub weight : ℕ
  pub is : new ≡ record old {
    buffer = buffer_without_superseded pins old.buffer;
    weight = weight;
  }
  pub lighter : weight + old.height * length old.buffer.messages
      ≡ old.weight + old.height * length new.buffer.messages
  pub ample : new.buffer.used + old.buffer.capacity / 4 ≤ old.buffer.capacity

-- .. or nothing changed
abbrev pub MayDropSuperseded : TenantPins → Subtree → Subtree → Type 0
MayDropSuperseded pins old new = (new ≡ old) ⊎ DropsSuperseded pins old new

-- one of its own messages is gone that the next one hid
pub record LosesHidden (pins : TenantPins) (old new : Subtree) : Type 0 where
  pub buffer : MessageList
  pub weight : ℕ
  pub drops : DropsHidden pins old.buffer buffer
  pub is : new ≡ record old { buffer = buffer; weight = weight }
  pub lighter : weight + old.height * length old.buffer.messages
      ≡ old.weight + old.height * length buffer.messages

-- .. or nothing changed
abbrev pub MayLoseHidden : TenantPins → Subtree → Subtree → Type 0
MayLoseHidden pins old new = (new ≡ old) ⊎ LosesHidden pins old new

-- each key means the same under the pins
abbrev pub EachMeansTheSame : TenantPins → Subtree → Subtree → Type 0
EachMeansTheSame pins old new = (key : List ℕ) → MeanTheSame (pins (tenant_of key))
    (ops_in (messages_of old) key) (ops_in (messages_of new) key)
