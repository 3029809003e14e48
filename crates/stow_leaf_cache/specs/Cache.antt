-- Leaves that are held unpacked, the last used first.
use Rattle.std.specs.Prelude.{◌≡◌, ◌⊎◌, ℕ, zero, suc, List, [], ◌∷◌, map, take, Option}
use Rattle.std.specs.Map.{lookup, remove_entry}
use Rattle.std.specs.Option.{option_map_or}
use Rattle.std.specs.Str.{bytes_eq}
use Rattle.std.specs.declared.vec.Vec.{Vec}
use Rattle.lru.specs.LruCache.{LruCache}
use Rattle.stow_page.specs.StowTreeModel.Version.{Version}

-- a leaf's low fence, with its rows
abbrev pub HeldLeaf : Type 0
HeldLeaf = List ℕ × List Version

pub record Cache : Type 0 where
  -- the last used first
  pub leaves : List HeldLeaf
  -- how many there may be
  pub limit : ℕ

-- the rows under a fence
abbrev pub rows_under : List ℕ → List HeldLeaf → Option (List Version)
rows_under fence leaves = lookup (bytes_eq fence) leaves

-- all leaves but the one under the fence
abbrev pub leaves_without : List ℕ → List HeldLeaf → List HeldLeaf
leaves_without fence leaves = remove_entry (bytes_eq fence) leaves

-- the leaf under the fence goes first, if there is one
abbrev pub leaves_used : List ℕ → List HeldLeaf → List HeldLeaf
leaves_used fence leaves =
    option_map_or (λ rows. (fence, rows) ∷ leaves_without fence leaves)
    (rows_under fence leaves) leaves

-- these rows stand under the fence in front; the last leaves fall out that are more than the limit
abbrev pub leaves_kept : ℕ → List ℕ → List Version → List HeldLeaf → List HeldLeaf
leaves_kept limit fence rows leaves = take limit ((fence, rows) ∷ leaves_without fence leaves)

-- the rows are kept, or, where memory is refused, nothing is held under the fence
abbrev pub IsOffered : Cache → List ℕ → List Version → List HeldLeaf → Type 0
IsOffered cache fence rows new =
    (new ≡ leaves_kept cache.limit fence rows cache.leaves)
    ⊎ (new ≡ leaves_without fence cache.leaves)

-- the cache once the leaf under the fence was used
abbrev pub cache_used : List ℕ → Cache → Cache
cache_used fence cache = record { leaves = leaves_used fence cache.leaves; limit = cache.limit }

-- the cache with another limit: the last used of its leaves stay
abbrev pub cache_resized : ℕ → Cache → Cache
cache_resized limit cache = record { leaves = take limit cache.leaves; limit = limit }

-- ---- what the code's type stands for

abbrev pub leaf_of : {A : Type 0} → Vec ℕ A × List Version → HeldLeaf
leaf_of e = (e.0.items, e.1)

abbrev pub leaves_of : {A : Type 0} → LruCache (Vec ℕ A) (List Version) → List HeldLeaf
leaves_of held = map leaf_of held.entries

-- a cache of no leaves is kept as one of a single leaf, which it never gets
abbrev pub IsLimited : {A : Type 0} → ℕ → LruCache (Vec ℕ A) (List Version) → Type 0
IsLimited zero held = held.entries ≡ []
IsLimited (suc n) held = held.cap ≡ suc n
