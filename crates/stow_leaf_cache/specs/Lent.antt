-- What a cache is once the rows that it lent are given back.
use Rattle.std.specs.Prelude.{◌≡◌, ⊤, ℕ, List}
use Rattle.std.specs.Borrow.{Fml, RattleType, MutBor, follows_so}
use Rattle.std.specs.declared.alloc.Allocator as alloc
use mathlib.Core.Option.{none}
use Rattle.stow_leaf_cache.specs.Cache.{Cache, cache_used}
use Rattle.stow_leaf_cache.specs.contracts.leaf_cache.LeafCache.{the_row}

module _ (A : RattleType) (heap : alloc.Ghosts A.Denot) (cache : MutBor Cache) where
  -- it is the cache once the leaf under the fence was used
  abbrev pub ends_used : List ℕ → Fml
  ends_used fence =
      let row = the_row A heap in
      follows_so row row cache.ghost_name none (λ _ _. ⊤)
      (λ last. last ≡ cache_used fence cache.now)
