-- Messages that are merged into all leaves of a row.
use Rattle.std.specs.Prelude.{◌≡◌, ◌≢◌, ◌⊎◌, ℕ, ◌<◌, List, [], ◌∷◌, ◌++◌, length, true, false}
use Rattle.std.specs.List.{AllByRecursion}
use Rattle.std.specs.Ordering.{is_lt}
use Rattle.stow_leaf_cache.specs.StowBytes.Bytes.{bytes_cmp}
use Rattle.stow_leaf.specs.Intervals.{top_key, spans}
use Rattle.stow_leaf.specs.LeafRows.{LeafRows, first_fence, IsLeafTile, LeavesTo}
use Rattle.stow_leaf.specs.Replacements.{IsLeafSize, AreThere, HasShortValues, MeanTheSame, ops_with, IsReplacement}
use Rattle.stow_leaf_cache.specs.Cache.{Cache}
use Rattle.stow_leaf.specs.StowMessage.Rising.{in_range}
use Rattle.stow_leaf_cache.specs.StowTreeModel.Agreement.{TenantPins}
use Rattle.stow_leaf_cache.specs.StowTreeModel.Keys.{tenant_of}
use Rattle.stow_leaf_cache.specs.StowTreeModel.TreeMessage.{TreeMessage}
use Rattle.stow_leaves.specs.Absorbs.{ops_above}
use Rattle.stow_leaves.specs.Forgets.{cache_without}
use Rattle.stow_leaves.specs.Joins.{JoinsAll, NoneToJoin}

-- the messages of the leaves' keys, which end here, can be merged into them
pub record CanAbsorbAll (leaves : List LeafRows) (end : List ℕ) (ms : List TreeMessage)
    (target : ℕ) : Type 0 where
  pub some : 0 < length leaves
  pub tiled : LeavesTo end leaves
  pub ends : is_lt (bytes_cmp top_key end) ≡ false
  pub sizes : AllByRecursion (λ l. IsLeafSize target l.1) leaves
  pub short : (key : List ℕ) → spans (first_fence end leaves) end key ≡ true
      → HasShortValues (ops_above ms leaves key)

-- the messages for the leaf, if there are some, can be merged into it
pub record CanGiveWay (leaf : LeafRows) (high : List ℕ) (ms : List TreeMessage)
    (target : ℕ) : Type 0 where
  pub tile : IsLeafTile leaf high
  pub size : IsLeafSize target leaf.1
  pub short : (key : List ℕ) → spans leaf.0 high key ≡ true
      → HasShortValues (ops_with ms leaf.1 key)

-- no message is for the leaf, and it stays
pub record Stays (leaf : LeafRows) (high : List ℕ) (ms : List TreeMessage)
    (others : List LeafRows) (cache cache' : Cache) : Type 0 where
  pub none : in_range leaf.0 high ms ≡ []
  pub are : others ≡ leaf ∷ []
  pub same : cache' ≡ cache

-- some are, all are merged into it, and the cache lost it and no other
pub record IsReplaced (leaf : LeafRows) (high : List ℕ) (ms : List TreeMessage) (pins : TenantPins)
    (target : ℕ) (others : List LeafRows) (cache cache' : Cache) : Type 0 where
  pub some : in_range leaf.0 high ms ≢ []
  pub replaced : IsReplacement leaf high ms pins target others
  pub lost : cache' ≡ cache_without (leaf.0 ∷ []) cache

abbrev pub GivesWay : LeafRows → List ℕ → List TreeMessage → TenantPins → ℕ → List LeafRows
    → Cache → Cache → Type 0
GivesWay leaf high ms pins target others cache cache' =
    Stays leaf high ms others cache cache' ⊎ IsReplaced leaf high ms pins target others cache cache'

-- what came in the place of a leaf stands before what came in the place of those above it
pub record FirstGivesWay (above : List LeafRows → Cache → Type 0) (leaf : LeafRows) (high : List ℕ)
    (ms : List TreeMessage) (pins : TenantPins) (target : ℕ) (fresh : List LeafRows)
    (cache' : Cache) : Type 0 where
  pub others : List LeafRows
  pub rest : List LeafRows
  pub between : Cache
  pub are : fresh ≡ others ++ rest
  pub way : GivesWay leaf high ms pins target others between cache'
  pub done : above rest between

-- each leaf gives way to others with all messages for it merged, or stays where there are none
abbrev pub AllGiveWay : List LeafRows → List ℕ → List TreeMessage → TenantPins → ℕ → Cache
    → List LeafRows → Cache → Type 0
AllGiveWay [] end ms pins target cache fresh cache' = (fresh ≡ []) × (cache' ≡ cache)
AllGiveWay (leaf ∷ leaves) end ms pins target cache fresh cache' =
    FirstGivesWay (AllGiveWay leaves end ms pins target cache) leaf (first_fence end leaves)
    ms pins target fresh cache'

-- All messages for the leaves, whose keys end here, are merged into them, and no two neighbours are
-- left that are to be one leaf; the cache lost the leaves that had messages and those that were
-- joined, and no other.
pub record MergesAll (leaves : List LeafRows) (end : List ℕ) (ms : List TreeMessage)
    (pins : TenantPins) (target : ℕ) (fresh : List LeafRows) (cache cache' : Cache) : Type 0 where
  pub middle : List LeafRows
  pub between : Cache
  pub each : AllGiveWay leaves end ms pins target cache middle between
  pub joins : JoinsAll target middle fresh between cache'
  pub none : NoneToJoin target fresh

-- Leaves can stand in the place of others and of all messages for them: they share out the same
-- keys, and each means the same under the pins.
pub record StandsForAll (leaves : List LeafRows) (end : List ℕ) (ms : List TreeMessage)
    (pins : TenantPins) (target : ℕ) (fresh : List LeafRows) : Type 0 where
  pub some : 0 < length fresh
  pub first : first_fence end fresh ≡ first_fence end leaves
  pub tiled : LeavesTo end fresh
  pub sizes : AllByRecursion (λ l. IsLeafSize target l.1) fresh
  pub means : (key : List ℕ) → spans (first_fence end leaves) end key ≡ true
      → MeanTheSame (pins (tenant_of key)) (ops_above ms leaves key) (ops_above [] fresh key)
  -- they begin within each interval that has all fences and keys
  pub fences : (low high : List ℕ) → AllByRecursion (λ l. spans low high l.0 ≡ true) leaves
      → ((key : List ℕ) → spans (first_fence end leaves) end key ≡ true
      → AreThere (ops_above ms leaves key) → spans low high key ≡ true)
      → AllByRecursion (λ l. spans low high l.0 ≡ true) fresh
