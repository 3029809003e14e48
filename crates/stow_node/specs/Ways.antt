-- The way of a step's messages.
use Rattle.std.specs.Prelude.{◌≡◌, ◌⊎◌, ℕ, zero, suc, ◌+◌, ◌≤◌, List, [], ◌∷◌, ◌++◌, length, take, drop, slice_get, slice_set, Some}
use Rattle.stow_leaves.specs.StowLeafCache.Cache.{Cache}
use Rattle.stow_leaves.specs.StowLeaf.Intervals.{top_key}
use Rattle.stow_leaves.specs.Absorbs.{Merges}
use Rattle.stow_leaves.specs.AbsorbsAll.{MergesAll}
use Rattle.stow_leaves.specs.StowMessage.MessageBuf.{MessageList, message_list, without_range}
use Rattle.stow_tree_model.specs.Agreement.{TenantPins}
use Rattle.stow_tree_model.specs.TreeMessage.{TreeMessage}
use Rattle.stow_node.specs.declared.child.Child.{Child}
use Rattle.stow_node.specs.declared.child.Child.TheVariants as in_child
use Rattle.stow_node.specs.Moves.{IsHeaviest, IsLaden, IsReallocated, HandsDown, LacksRoom, bytes_for}
use Rattle.stow_node.specs.Nodes.{node_part, parts_of, leaves_of, AreLeaves, AreChildren}
use Rattle.stow_node.specs.Parts.{high_of}
use Rattle.stow_node.specs.Regroups.{Grows}
use Rattle.stow_node.specs.Subtree.{Subtree}

-- a node and those that came behind it hold what one with these children and messages would
pub record IsCutFrom {A : Type 0} (pins : TenantPins) (children : List (Child A)) (b : MessageList)
    (new : Subtree) (came : List (Child A)) : Type 0 where
  pub whole : Subtree
  pub stand : AreChildren whole children
  pub own : whole.buffer ≡ b
  pub grows : Grows pins whole new came

-- the child for which most bytes are buffered, the leftmost of equals
pub record Heaviest (A : Type 0) (old : Subtree) : Type 0 where
  pub children : List (Child A)
  pub stand : AreChildren old children
  pub index : ℕ
  pub most : IsHeaviest (parts_of children) old.buffer index

-- right above leaves: all messages for the heaviest one leave the buffer and are merged into it
pub record MergesHeaviest {A : Type 0} (pins : TenantPins) (old new : Subtree)
    (came : List (Child A)) (cache cache' : Cache) : Type 0 where
  pub to : Heaviest A old
  pub fresh : List (Child A)
  pub are_leaves : AreLeaves fresh
  pub merges : Merges (leaves_of to.children) to.index old.buffer.messages pins old.shape.leaf
      (leaves_of fresh) cache cache'
  pub cut : IsCutFrom pins fresh (without_range merges.leaf.0
      (high_of (parts_of to.children) to.index) old.buffer) new came

-- right above leaves: all messages for its leaves, whose keys end here, are merged into them, and
-- its buffer is empty then
pub record MergesInto {A : Type 0} (end : List ℕ) (ms : List TreeMessage) (pins : TenantPins)
    (old new : Subtree) (came : List (Child A)) (cache cache' : Cache) : Type 0 where
  pub children : List (Child A)
  pub stand : AreChildren old children
  pub fresh : List (Child A)
  pub are_leaves : AreLeaves fresh
  pub merges : MergesAll (leaves_of children) end ms pins old.shape.leaf (leaves_of fresh)
      cache cache'
  pub cut : IsCutFrom pins fresh (message_list [] 0 old.buffer.capacity) new came

-- a child that took its messages out of a buffer merges all that it has then; where it had none
-- before, straight from that buffer
abbrev pub MergesTaken : {A : Type 0} → List (Child A) → ℕ → MessageList → TenantPins → Subtree
    → Subtree → Subtree → List (Child A) → Cache → Cache → Type 0
MergesTaken children index b pins node filled merged came cache cache' =
    MergesInto top_key filled.buffer.messages pins filled merged came cache cache'
    ⊎ ((node.buffer.messages ≡ []) × MergesInto (high_of (parts_of children) index) b.messages
    pins node merged came cache cache')

-- the child takes all its messages out of the buffer above it, and isn't laden then
pub record ChildTakes {A : Type 0} (children : List (Child A)) (index : ℕ) (old new : Subtree)
    (came : List (Child A)) (cache cache' : Cache) : Type 0 where
  pub after : List (Child A)
  pub down : HandsDown children index old.buffer after new.buffer
  pub filled : Subtree
  pub taken : slice_get after index ≡ Some (in_child.Node filled)
  pub light : ¬ IsLaden 0 filled
  pub stand : AreChildren new after
  pub none : came ≡ []
  pub same : cache' ≡ cache

-- it takes them and is laden then, so it merges all that it has into its leaves, and what comes
-- behind it stands there
pub record TakesAndMerges {A : Type 0} (pins : TenantPins) (children : List (Child A)) (index : ℕ)
    (old new : Subtree) (came : List (Child A)) (cache cache' : Cache) : Type 0 where
  pub after : List (Child A)
  pub left : MessageList
  pub down : HandsDown children index old.buffer after left
  pub filled : Subtree
  pub taken : slice_get after index ≡ Some (in_child.Node filled)
  pub laden : IsLaden 0 filled
  pub stepped : Subtree
  pub behind : List (Child A)
  pub merges : MergesTaken children index old.buffer pins down.node filled stepped behind
      cache cache'
  pub cut : IsCutFrom pins (take index after
      ++ ((in_child.Node stepped ∷ behind) ++ drop (index + 1) after)) left new came

-- it lacks room, so the step is the child's own, and what comes behind it stands there
pub record Enters {A : Type 0}
    (below : Subtree → Subtree → List (Child A) → Cache → Cache → Type 0) (pins : TenantPins)
    (children : List (Child A)) (index : ℕ) (node old new : Subtree) (came : List (Child A))
    (cache cache' : Cache) : Type 0 where
  pub lacks : LacksRoom (bytes_for (parts_of children) old.buffer index (node_part node)) node
  pub stepped : Subtree
  pub behind : List (Child A)
  pub steps : below node stepped behind cache cache'
  pub cut : IsCutFrom pins (take index children
      ++ ((in_child.Node stepped ∷ behind) ++ drop (index + 1) children)) old.buffer new came

-- further up: the heaviest child, a node that may have got a block and of which dead bytes may have
-- gone, takes them, and merges all that it has then where it is laden; or it is entered
pub record GoesDown {A : Type 0}
    (below : Subtree → Subtree → List (Child A) → Cache → Cache → Type 0) (pins : TenantPins)
    (old new : Subtree) (came : List (Child A)) (cache cache' : Cache) : Type 0 where
  pub to : Heaviest A old
  pub node : Subtree
  pub at : slice_get to.children to.index ≡ Some (in_child.Node node)
  pub ready : Subtree
  pub reallocated : IsReallocated node ready
  pub way : ChildTakes (slice_set to.children to.index (in_child.Node ready)) to.index old new came
      cache cache'
      ⊎ (TakesAndMerges pins (slice_set to.children to.index (in_child.Node ready)) to.index old
      new came cache cache'
      ⊎ Enters below pins to.children to.index ready old new came cache cache')

-- the step of a node of this height goes down along the heaviest children
abbrev pub Goes : {A : Type 0} → ℕ → TenantPins → Subtree → Subtree → List (Child A)
    → Cache → Cache → Type 0
Goes zero pins old new came cache cache' = ⊥
Goes (suc zero) pins old new came cache cache' = MergesHeaviest pins old new came cache cache'
Goes (suc (suc height)) pins old new came cache cache' =
    GoesDown (Goes (suc height) pins) pins old new came cache cache'

-- a root's step: it goes down along the heaviest children, and nodes that come behind the root get
-- roots above them, at most one for each
pub record StepsDown (A : Type 0) (pins : TenantPins) (old new : Subtree)
    (cache cache' : Cache) : Type 0 where
  pub stepped : Subtree
  pub came : List (Child A)
  pub goes : Goes old.height pins old stepped came cache cache'
  pub alone : came ≡ [] → new ≡ stepped
  pub height : new.height ≤ stepped.height + length came
  pub leaves : new.leaves ≡ stepped.leaves ++ leaves_of came
