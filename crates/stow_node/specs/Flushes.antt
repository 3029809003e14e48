-- A node after messages moved below it, or were merged into its leaves.
use Rattle.std.specs.Prelude.{◌≡◌, ℕ, ◌<◌, ◌≤◌, List}
use Rattle.stow_leaves.specs.StowLeaf.Replacements.{HasShortValues, MeanTheSame}
use Rattle.stow_tree_model.specs.Agreement.{TenantPins}
use Rattle.stow_tree_model.specs.Keys.{tenant_of}
use Rattle.stow_tree_model.specs.Messages.{ops_in}
use Rattle.stow_tree_model.specs.TreeMessage.{TreeMessage}
use Rattle.stow_node.specs.Nodes.{node_part, AreLeafSizes}
use Rattle.stow_node.specs.Parts.{IsTile}
use Rattle.stow_node.specs.Subtree.{Subtree, messages_of}

-- no key has a value longer than values may be, at any number
abbrev pub AreShort : List TreeMessage → Type 0
AreShort ms = (key : List ℕ) → HasShortValues (ops_in ms key)

-- the node means the same under the pins, and stands where it stood
pub record KeepsMeaning (pins : TenantPins) (old new : Subtree) : Type 0 where
  pub low : new.low ≡ old.low
  pub height : new.height ≡ old.height
  pub shape : new.shape ≡ old.shape
  pub capacity : new.buffer.capacity ≡ old.buffer.capacity
  pub sizes : AreLeafSizes new.shape.leaf new.leaves
  pub tile : (high : List ℕ) → IsTile (node_part old) high → IsTile (node_part new) high
  pub means : (key : List ℕ) → MeanTheSame (pins (tenant_of key))
      (ops_in (messages_of old) key) (ops_in (messages_of new) key)

-- a root means the same under the pins, whatever height it has
pub record KeepsRoot (pins : TenantPins) (old new : Subtree) : Type 0 where
  pub low : new.low ≡ old.low
  pub shape : new.shape ≡ old.shape
  pub capacity : new.buffer.capacity ≡ old.buffer.capacity
  pub few : new.width ≤ new.shape.fan_out
  pub means : (key : List ℕ) → MeanTheSame (pins (tenant_of key))
      (ops_in (messages_of old) key) (ops_in (messages_of new) key)

-- and its messages are fewer, or nearer to the leaves
pub record Flushes (pins : TenantPins) (old new : Subtree) : Type 0 where
  pub low : new.low ≡ old.low
  pub shape : new.shape ≡ old.shape
  pub capacity : new.buffer.capacity ≡ old.buffer.capacity
  pub few : new.width ≤ new.shape.fan_out
  pub means : (key : List ℕ) → MeanTheSame (pins (tenant_of key))
      (ops_in (messages_of old) key) (ops_in (messages_of new) key)
  pub lighter : new.weight < old.weight
