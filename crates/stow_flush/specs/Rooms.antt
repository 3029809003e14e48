-- Room at the root.
use Rattle.std.specs.Prelude.{◌≡◌, ◌⊎◌, ℕ, zero, suc, ◌+◌, ◌≤◌, List}
use Rattle.std.specs.List.{sum_by}
use Rattle.stow_node.specs.StowLeafCache.Cache.{Cache}
use Rattle.stow_node.specs.StowMessage.Packed.{message_size}
use Rattle.stow_node.specs.StowLeaf.Replacements.{MeanTheSame}
use Rattle.stow_node.specs.Moves.{IsSqueezed, LacksRoom}
use Rattle.stow_node.specs.Subtree.{Subtree, messages_of}
use Rattle.stow_node.specs.Superseded.{DropsSuperseded}
use Rattle.stow_node.specs.Ways.{StepsDown}
use Rattle.stow_node.specs.StowTreeModel.Agreement.{TenantPins}
use Rattle.stow_node.specs.StowTreeModel.Keys.{tenant_of}
use Rattle.stow_node.specs.StowTreeModel.Messages.{ops_in}

-- so many bytes fit beside a node's own messages
abbrev pub BytesFit : ℕ → Subtree → Type 0
BytesFit bytes t = t.buffer.used + bytes ≤ t.buffer.capacity

-- they fit once dead bytes are dropped
abbrev pub FitsSqueezed : ℕ → Subtree → Type 0
FitsSqueezed bytes t = sum_by message_size t.buffer.messages + bytes ≤ t.buffer.capacity

-- a root that lacks room takes a step down, and dead bytes may be dropped
pub record MakesStep (A : Type 0) (bytes : ℕ) (pins : TenantPins) (old new : Subtree)
    (cache cache' : Cache) : Type 0 where
  pub lacks : LacksRoom bytes old
  pub stepped : Subtree
  pub down : StepsDown A pins old stepped cache cache'
  pub squeezed : IsSqueezed stepped new

-- so many steps, one after another
abbrev pub FlushesTimes : (A : Type 0) → ℕ → ℕ → TenantPins → Subtree → Subtree
    → Cache → Cache → Type 0
FlushesTimes A zero bytes pins old new cache cache' = IsSqueezed old new × (cache' ≡ cache)
FlushesTimes A (suc n) bytes pins old new cache cache' = (full : Subtree) × (between : Cache)
    × FlushesTimes A n bytes pins old full cache between
    × MakesStep A bytes pins full new between cache'

-- by steps down and by nothing else
abbrev pub FlushesForRoom : (A : Type 0) → ℕ → TenantPins → Subtree → Subtree
    → Cache → Cache → Type 0
FlushesForRoom A bytes pins old new cache cache' =
    (n : ℕ) × FlushesTimes A n bytes pins old new cache cache'

-- messages that newer ones supersede are dropped, where dropping dead bytes makes no room
pub record DropsForRoom (bytes : ℕ) (pins : TenantPins) (old new : Subtree) : Type 0 where
  pub full : FitsSqueezed bytes old → ⊥
  pub drops : DropsSuperseded pins old new

-- room for so many bytes is made by dropping superseded messages at most once, by steps down then,
-- and by nothing else
abbrev pub MakesRoom : (A : Type 0) → ℕ → TenantPins → Subtree → Subtree
    → Cache → Cache → Type 0
MakesRoom A bytes pins old new cache cache' =
    FlushesForRoom A bytes pins old new cache cache'
    ⊎ ((dropped : Subtree) × DropsForRoom bytes pins old dropped
    × FlushesForRoom A bytes pins dropped new cache cache')

-- the root means the same under the pins, whatever height it has
pub record RootStands (pins : TenantPins) (old new : Subtree) : Type 0 where
  pub low : new.low ≡ old.low
  pub shape : new.shape ≡ old.shape
  pub capacity : new.buffer.capacity ≡ old.buffer.capacity
  pub means : (key : List ℕ) → MeanTheSame (pins (tenant_of key))
      (ops_in (messages_of old) key) (ops_in (messages_of new) key)
