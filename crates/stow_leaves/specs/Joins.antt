-- Small leaves that become one with a neighbour.
use Rattle.std.specs.Prelude.{◌≡◌, ◌⊎◌, ℕ, zero, suc, ◌*◌, ◌<◌, ◌≤◌, List, [], ◌∷◌, ◌++◌, length, Option, Some, None, Bool, true, false}
use Rattle.stow_leaf.specs.Intervals.{top_key}
use Rattle.stow_leaf.specs.LeafRows.{LeafRows, LeavesTo}
use Rattle.stow_leaf_cache.specs.Cache.{Cache}
use Rattle.stow_leaf_cache.specs.StowPage.Format.{packed_page}
use Rattle.stow_leaf_cache.specs.StowTreeModel.Version.{Version}
use Rattle.stow_leaves.specs.Forgets.{cache_without}

-- the page is below a quarter of the target
abbrev pub IsSmall : ℕ → List Version → Type 0
IsSmall target rows = 4 * length (packed_page rows) < target

-- of two neighbours' rows one page is small, and one page of both fits the target
abbrev pub AreToJoin : ℕ → List Version → List Version → Type 0
AreToJoin target lower upper = (IsSmall target lower ⊎ IsSmall target upper)
    × (length (packed_page (lower ++ upper)) ≤ target)

-- two neighbours that are to join became one leaf, from the lower one's fence on
pub record Joins (target : ℕ) (old new : List LeafRows) : Type 0 where
  pub before : List LeafRows
  pub lower : LeafRows
  pub upper : LeafRows
  pub after : List LeafRows
  pub are_to_join : AreToJoin target lower.1 upper.1
  pub were : old ≡ before ++ (lower ∷ upper ∷ after)
  pub are : new ≡ before ++ ((lower.0, lower.1 ++ upper.1) ∷ after)

-- so many joins, one after another
abbrev pub JoinTimes : ℕ → ℕ → List LeafRows → List LeafRows → Type 0
JoinTimes zero target old new = new ≡ old
JoinTimes (suc n) target old new = (middle : List LeafRows) × JoinTimes n target old middle
    × Joins target middle new

-- some joins, or none
abbrev pub AreJoined : ℕ → List LeafRows → List LeafRows → Type 0
AreJoined target old new = (n : ℕ) × JoinTimes n target old new

-- the fences of all leaves that were joined
abbrev pub joined_fences : (n target : ℕ) (old new : List LeafRows) → JoinTimes n target old new
    → List (List ℕ)
joined_fences zero target old new same = []
joined_fences (suc n) target old new times =
    times.2.upper.0 ∷ times.2.lower.0 ∷ joined_fences n target old times.0 times.1

-- some joins, or none, and the cache lost just the leaves that were joined
pub record JoinsAll (target : ℕ) (old new : List LeafRows) (cache cache' : Cache) : Type 0 where
  pub joined : AreJoined target old new
  pub lost : cache' ≡ cache_without (joined_fences joined.0 target old new joined.1) cache

-- no neighbours are left that are to join
abbrev pub NoneToJoin : ℕ → List LeafRows → Type 0
NoneToJoin target leaves = (new : List LeafRows) → Joins target leaves new → ⊥

-- ---- a pair

-- a leaf at this place, and the one above it, of leaves that share out the keys
pub record Pair (leaves : List LeafRows) (i : ℕ) : Type 0 where
  pub before : List LeafRows
  pub lower : LeafRows
  pub upper : LeafRows
  pub after : List LeafRows
  pub place : length before ≡ i
  pub are : leaves ≡ before ++ (lower ∷ upper ∷ after)
  pub tiled : LeavesTo top_key (before ++ (lower ∷ upper ∷ after))

-- one leaf with these rows in the place of the pair
abbrev pub with_joined : {leaves : List LeafRows} {i : ℕ} → Pair leaves i → List Version
    → List LeafRows
with_joined pair rows = pair.before ++ ((pair.lower.0, rows) ∷ pair.after)

-- the rows of both, if they are to join
abbrev pub IsJoinOf : ℕ → List Version → List Version → Option (List Version) → Type 0
IsJoinOf target lower upper (Some rows) = AreToJoin target lower upper × (rows ≡ lower ++ upper)
IsJoinOf target lower upper None = AreToJoin target lower upper → ⊥

-- the cache lost both leaves of the pair, if they were joined
abbrev pub LosesPair : {leaves : List LeafRows} {i : ℕ} → Pair leaves i → Cache → Cache → Bool
    → Type 0
LosesPair pair cache cache' true =
    cache' ≡ cache_without (pair.upper.0 ∷ pair.lower.0 ∷ []) cache
LosesPair pair cache cache' false = cache' ≡ cache

-- the pair is joined, or is not to join
abbrev pub JoinsPair : (target : ℕ) {leaves : List LeafRows} {i : ℕ} → Pair leaves i
    → List LeafRows → Bool → Type 0
JoinsPair target pair new true = AreToJoin target pair.lower.1 pair.upper.1
    × (new ≡ with_joined pair (pair.lower.1 ++ pair.upper.1))
JoinsPair target {leaves} pair new false = (new ≡ leaves)
    × (AreToJoin target pair.lower.1 pair.upper.1 → ⊥)
