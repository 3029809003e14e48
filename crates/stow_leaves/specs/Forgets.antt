-- Leaves that a cache lost, as others came in their place.
use Rattle.std.specs.Prelude.{◌≡◌, ℕ, List, [], ◌∷◌, Contains}
use Rattle.stow_leaf.specs.LeafRows.{LeafRows}
use Rattle.stow_leaf_cache.specs.Cache.{Cache, leaves_without}

-- the cache holds no more than it held, and of a node's leaves only those that are still there
pub record Forgets (old new : List LeafRows) (cache cache' : Cache) : Type 0 where
  pub limit : cache'.limit ≡ cache.limit
  pub held : (leaf : LeafRows) → Contains cache'.leaves leaf → Contains cache.leaves leaf
  pub stands : (leaf : LeafRows) → Contains cache'.leaves leaf → Contains old leaf
      → Contains new leaf

-- all leaves but those under these fences
abbrev pub leaves_without_all : List (List ℕ) → List LeafRows → List LeafRows
leaves_without_all [] leaves = leaves
leaves_without_all (fence ∷ fences) leaves = leaves_without fence (leaves_without_all fences leaves)

-- the cache without the leaves under these fences
abbrev pub cache_without : List (List ℕ) → Cache → Cache
cache_without fences cache = record cache { leaves = leaves_without_all fences cache.leaves }
