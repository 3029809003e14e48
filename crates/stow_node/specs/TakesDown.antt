-- A child that takes its messages out of the buffer above it, and may merge all that it has then.
use Rattle.std.specs.Prelude.{◌≡◌, ◌⊎◌, ℕ, ◌<◌, ◌≤◌, List, [], length, slice_get, slice_set, false, Option, Some, None}
use Rattle.std.specs.Ordering.{is_lt}
use Rattle.stow_tree_model.specs.StowBytes.Bytes.{bytes_cmp}
use Rattle.stow_leaves.specs.StowLeaf.Intervals.{top_key}
use Rattle.stow_leaves.specs.StowLeafCache.Cache.{Cache}
use Rattle.stow_leaves.specs.StowMessage.MessageBuf.{MessageList}
use Rattle.stow_leaves.specs.StowMessage.Rising.{in_range}
use Rattle.stow_tree_model.specs.Agreement.{TenantPins}
use Rattle.stow_tree_model.specs.TreeMessage.{TreeMessage}
use Rattle.stow_node.specs.declared.child.Child.{Child}
use Rattle.stow_node.specs.declared.child.Child.TheVariants as in_child
use Rattle.stow_node.specs.declared.room.Room.{Room}
use Rattle.stow_node.specs.Flushes.{AreShort}
use Rattle.stow_node.specs.Moves.{accepted, CanAccept, HandsDown, IsLaden, messages_for}
use Rattle.stow_node.specs.Nodes.{node_part, parts_of}
use Rattle.stow_node.specs.Parts.{high_of, IsTile}
use Rattle.stow_node.specs.Regroups.{StepsAsOne, ForgetsCame}
use Rattle.stow_node.specs.Rooms.{HasRoom}
use Rattle.stow_node.specs.Subtree.{Subtree, messages_of}
use Rattle.stow_node.specs.Ways.{MergesInto, MergesTaken}

-- a node right above leaves has no message, and could take those for it, whose keys end here
pub record CanMergeFrom (ms : List TreeMessage) (end : List ℕ) (t : Subtree) : Type 0 where
  pub level : t.height ≡ 1
  pub empty : t.buffer.messages ≡ []
  pub can : CanAccept (in_range t.low end ms) t
  pub some : 0 < length (in_range t.low end ms)
  pub tile : IsTile (node_part t) end
  pub ends : is_lt (bytes_cmp top_key end) ≡ false
  pub fan_out : 1 ≤ t.shape.fan_out
  pub short : AreShort (messages_of (accepted (in_range t.low end ms) t))

-- the child is a node that can take its messages, of which there are some
pub record CanTakeDown {A : Type 0} (children : List (Child A)) (i : ℕ)
    (b : MessageList) : Type 0 where
  pub node : Subtree
  pub at : slice_get children i ≡ Some (in_child.Node node)
  pub can : CanAccept (messages_for (parts_of children) b i node) node
  pub some : 0 < length (messages_for (parts_of children) b i node)
  pub tile : IsTile (node_part node) (high_of (parts_of children) i)
  pub ends : is_lt (bytes_cmp top_key (high_of (parts_of children) i)) ≡ false
  pub fan_out : 1 ≤ node.shape.fan_out
  pub short : AreShort (messages_of (accepted (messages_for (parts_of children) b i node) node))

-- the child is a node that has messages
pub record CanUnlade {A : Type 0} (children : List (Child A)) (i : ℕ) : Type 0 where
  pub node : Subtree
  pub at : slice_get children i ≡ Some (in_child.Node node)
  pub some : 0 < length node.buffer.messages
  pub fan_out : 1 ≤ node.shape.fan_out
  pub short : AreShort (messages_of node)

-- it isn't laden, and all stays
pub record IsLight {A : Type 0} (children : List (Child A)) (i : ℕ) (children' : List (Child A))
    (cache cache' : Cache) : Type 0 where
  pub node : Subtree
  pub at : slice_get children i ≡ Some (in_child.Node node)
  pub light : ¬ IsLaden 0 node
  pub stays : children' ≡ children
  pub same : cache' ≡ cache

-- it is laden and merges all, and the nodes that came behind it are in the room
pub record Unloads {A : Type 0} (pins : TenantPins) (children : List (Child A)) (i : ℕ)
    (above : List ℕ) (room : Room A) (children' : List (Child A)) (cache cache' : Cache)
    : Type 0 where
  pub node : Subtree
  pub at : slice_get children i ≡ Some (in_child.Node node)
  pub laden : IsLaden 0 node
  pub merged : Subtree
  pub into : children' ≡ slice_set children i (in_child.Node merged)
  pub steps : StepsAsOne pins node merged room.came.items
  pub merges : MergesInto top_key node.buffer.messages pins node merged room.came.items
      cache cache'
  pub has_room : HasRoom node.shape above room
  pub forgets : ForgetsCame node merged room.came.items cache cache'

abbrev pub Unlades : {A : Type 0} → TenantPins → List (Child A) → ℕ → List ℕ → Option (Room A)
    → List (Child A) → Cache → Cache → Type 0
Unlades pins children i above None children' cache cache' =
    IsLight children i children' cache cache'
Unlades pins children i above (Some room) children' cache cache' =
    Unloads pins children i above room children' cache cache'

-- the child takes its messages, and isn't laden then
pub record TakesLight {A : Type 0} (children : List (Child A)) (i : ℕ) (b : MessageList)
    (children' : List (Child A)) (b' : MessageList) (cache cache' : Cache) : Type 0 where
  pub down : HandsDown children i b children' b'
  pub filled : Subtree
  pub taken : slice_get children' i ≡ Some (in_child.Node filled)
  pub light : ¬ IsLaden 0 filled
  pub same : cache' ≡ cache

-- it is laden then and merges all that it has, and the nodes that came behind it are in the room
pub record MergesDown {A : Type 0} (pins : TenantPins) (children : List (Child A)) (i : ℕ)
    (b : MessageList) (above : List ℕ) (room : Room A) (children' : List (Child A))
    (b' : MessageList) (cache cache' : Cache) : Type 0 where
  pub after : List (Child A)
  pub down : HandsDown children i b after b'
  pub filled : Subtree
  pub taken : slice_get after i ≡ Some (in_child.Node filled)
  pub laden : IsLaden 0 filled
  pub merged : Subtree
  pub into : children' ≡ slice_set after i (in_child.Node merged)
  pub steps : StepsAsOne pins filled merged room.came.items
  pub merges : MergesTaken children i b pins down.node filled merged room.came.items cache cache'
  pub has_room : HasRoom filled.shape above room
  pub forgets : ForgetsCame filled merged room.came.items cache cache'

abbrev pub TakesDown : {A : Type 0} → TenantPins → List (Child A) → ℕ → MessageList → List ℕ
    → Option (Room A) → List (Child A) → MessageList → Cache → Cache → Type 0
TakesDown pins children i b above None children' b' cache cache' =
    TakesLight children i b children' b' cache cache'
TakesDown pins children i b above (Some room) children' b' cache cache' =
    MergesDown pins children i b above room children' b' cache cache'

-- all stays, or its messages are merged straight into its leaves
abbrev pub MaySkip : {A : Type 0} → (Room A → List (Child A) → MessageList → Cache → Cache
    → Type 0) → Option (Room A) → List (Child A) → List (Child A) → MessageList → MessageList
    → Cache → Cache → Type 0
MaySkip merges None children children' b b' cache cache' =
    (children' ≡ children) × ((b' ≡ b) × (cache' ≡ cache))
MaySkip merges (Some room) children children' b b' cache cache' =
    merges room children' b' cache cache'

-- all stays, or the child takes its messages
abbrev pub MayHandDown : {A : Type 0} → List (Child A) → ℕ → MessageList → List (Child A)
    → MessageList → Type 0
MayHandDown children i b children' b' =
    ((children' ≡ children) × (b' ≡ b)) ⊎ HandsDown children i b children' b'
