-- A message that the one right behind it makes unreadable.
use Rattle.std.specs.Prelude.{◌≡◌, ◌-◌, ◌&&◌, Bool, true, List, ◌∷◌, ◌++◌, Some}
use Rattle.stow_leaf.specs.StowMessage.MessageBuf.{MessageList, message_list}
use Rattle.stow_superseded.specs.Superseded.{is_whole, is_hidden}
use Rattle.stow_tree_model.specs.Agreement.{TenantPins}
use Rattle.stow_tree_model.specs.Merged.{same_key}
use Rattle.stow_tree_model.specs.TreeMessage.{TreeMessage}

-- the next one is a newer put or removal of the message's key, and no pin stands between
abbrev pub hides : TenantPins → TreeMessage → TreeMessage → Bool
hides pins m next = is_whole next.op && (same_key m.key next.key && is_hidden pins m (Some next))

-- a buffer without one message that the next one hides: its bytes are dead
pub record DropsHidden (pins : TenantPins) (old new : MessageList) : Type 0 where
  pub before : List TreeMessage
  pub hidden : TreeMessage
  pub next : TreeMessage
  pub after : List TreeMessage
  pub were : old.messages ≡ before ++ (hidden ∷ next ∷ after)
  pub is_hidden : hides pins hidden next ≡ true
  pub are : new ≡ message_list (before ++ (next ∷ after)) (old.used - 4) old.capacity
