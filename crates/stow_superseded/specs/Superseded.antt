-- Messages that a newer put or removal of their key makes unreadable.
use Rattle.std.specs.Prelude.{ℕ, Bool, true, false, not, List, [], ◌∷◌, Option, Some, None, if◌then◌else◌}
use Rattle.std.specs.List.{sum_by}
use Rattle.stow_leaf.specs.StowMessage.MessageBuf.{MessageList, message_list}
use Rattle.stow_leaf.specs.StowMessage.Packed.{message_size}
use Rattle.stow_tree_model.specs.Agreement.{TenantPins}
use Rattle.stow_tree_model.specs.Keys.{tenant_of}
use Rattle.stow_tree_model.specs.Merged.{same_key, is_pin_within}
use Rattle.stow_tree_model.specs.Op.{Op, Put, Gone, Append}
use Rattle.stow_tree_model.specs.TreeMessage.{TreeMessage}

-- what the key has after the operation is the same whatever it had before
abbrev pub is_whole : Op → Bool
is_whole (Put value) = true
is_whole Gone = true
is_whole (Append suffix) = false

-- the key's first put or removal, where the messages of the key come first
abbrev pub next_whole : List ℕ → List TreeMessage → Option TreeMessage
next_whole key [] = None
next_whole key (n ∷ ns) =
    if same_key key n.key then (if is_whole n.op then Some n else next_whole key ns) else None

-- there is a newer put or removal, and no pin of the tenant stands from the message on and below it
abbrev pub is_hidden : TenantPins → TreeMessage → Option TreeMessage → Bool
is_hidden pins m None = false
is_hidden pins m (Some newer) =
    not (is_pin_within (pins (tenant_of m.key)) m.number newer.number)

-- .. among the messages that stand behind it
abbrev pub is_superseded : TenantPins → TreeMessage → List TreeMessage → Bool
is_superseded pins m newer = is_hidden pins m (next_whole m.key newer)

-- a list that rises, without the messages that newer ones of it supersede
abbrev pub without_superseded : TenantPins → List TreeMessage → List TreeMessage
without_superseded pins [] = []
without_superseded pins (m ∷ ms) =
    if is_superseded pins m ms then without_superseded pins ms
    else m ∷ without_superseded pins ms

-- a buffer without them, and without dead bytes
abbrev pub buffer_without_superseded : TenantPins → MessageList → MessageList
buffer_without_superseded pins b =
    message_list (without_superseded pins b.messages)
    (sum_by message_size (without_superseded pins b.messages)) b.capacity
