-- Messages that are merged into a leaf of a row.
use Rattle.std.specs.Prelude.{◌≡◌, ◌≢◌, ℕ, ◌+◌, ◌<◌, List, [], ◌∷◌, ◌++◌, take, drop, length, slice_get, IsSome, Some, true, false}
use Rattle.std.specs.List.{AllByRecursion}
use Rattle.stow_leaf.specs.Intervals.{top_key, spans}
use Rattle.stow_leaf.specs.LeafRows.{LeafRows, row_messages, first_fence, LeavesTo}
use Rattle.stow_leaf.specs.Replacements.{IsLeafSize, AreThere, HasShortValues, MeanTheSame, ops_with, IsReplacement, IsJobOf}
use Rattle.stow_leaf_cache.specs.Cache.{Cache}
use Rattle.stow_leaf.specs.StowMerge.Covering.{Covers}
use Rattle.stow_leaf.specs.StowMerge.Pins.{pins_in}
use Rattle.stow_leaf.specs.StowMerge.declared.flush_job.FlushJob.{FlushJob}
use Rattle.stow_leaf.specs.StowMessage.Rising.{in_range, out_of_range}
use Rattle.stow_leaf_cache.specs.StowTreeModel.Agreement.{TenantPins}
use Rattle.stow_leaf_cache.specs.StowTreeModel.Keys.{tenant_of}
use Rattle.stow_leaf_cache.specs.StowTreeModel.Messages.{ops_in}
use Rattle.stow_leaf_cache.specs.StowTreeModel.Operations.{Operations, or_else, over}
use Rattle.stow_leaf_cache.specs.StowTreeModel.TreeMessage.{TreeMessage}
use Rattle.stow_leaf_cache.specs.StowTreeModel.Version.{Version}
use Rattle.stow_leaves.specs.Forgets.{cache_without}
use Rattle.stow_leaves.specs.Joins.{JoinsAll, NoneToJoin}

-- where the leaf at this place begins, and the one below it ends
abbrev pub fence_at : List LeafRows → ℕ → List ℕ
fence_at leaves i = first_fence top_key (drop i leaves)

-- others in the place of the leaf
abbrev pub with_leaves : List LeafRows → ℕ → List LeafRows → List LeafRows
with_leaves leaves i others = take i leaves ++ (others ++ drop (i + 1) leaves)

-- what messages and the leaves below them have of a key
abbrev pub ops_above : List TreeMessage → List LeafRows → List ℕ → Operations
ops_above ms leaves key = over (ops_in ms key) (ops_in (row_messages leaves) key)

-- the messages for other leaves
abbrev pub left_above : List LeafRows → ℕ → List TreeMessage → List TreeMessage
left_above leaves i ms = out_of_range (fence_at leaves i) (fence_at leaves (i + 1)) ms

-- some messages are for the leaf, and can be merged into it
pub record CanAbsorb (leaves : List LeafRows) (i : ℕ) (ms : List TreeMessage)
    (target : ℕ) : Type 0 where
  pub inside : i < length leaves
  pub tiled : LeavesTo top_key leaves
  pub sizes : AllByRecursion (λ l. IsLeafSize target l.1) leaves
  pub short : (key : List ℕ) → HasShortValues (ops_above ms leaves key)
  pub some : in_range (fence_at leaves i) (fence_at leaves (i + 1)) ms ≢ []

-- the others share out the keys of the leaf at this place
pub record CanPutOthers (leaves : List LeafRows) (i : ℕ) (others : List LeafRows) : Type 0 where
  pub inside : i < length leaves
  pub tiled : LeavesTo top_key leaves
  pub others_tiled : LeavesTo (fence_at leaves (i + 1)) others
  pub first : first_fence (fence_at leaves (i + 1)) others ≡ fence_at leaves i

-- The others came in the place of the leaf, and no two neighbours are left that are to be one leaf;
-- the cache lost this leaf and those that were joined, and no other.
pub record PutsOthers (leaves : List LeafRows) (i : ℕ) (others : List LeafRows) (target : ℕ)
    (fresh : List LeafRows) (cache cache' : Cache) : Type 0 where
  pub leaf : LeafRows
  pub at : slice_get leaves i ≡ Some leaf
  pub joins : JoinsAll target (with_leaves leaves i others) fresh
      (cache_without (leaf.0 ∷ []) cache) cache'
  pub tiled : LeavesTo top_key fresh
  pub none : NoneToJoin target fresh

-- All messages for the leaf are merged into it, and no two neighbours are left that are to be one
-- leaf; the cache lost this leaf and those that were joined, and no other.
pub record Merges (leaves : List LeafRows) (i : ℕ) (ms : List TreeMessage) (pins : TenantPins)
    (target : ℕ) (fresh : List LeafRows) (cache cache' : Cache) : Type 0 where
  pub leaf : LeafRows
  pub at : slice_get leaves i ≡ Some leaf
  pub others : List LeafRows
  pub replaced : IsReplacement leaf (fence_at leaves (i + 1)) ms pins target others
  pub joins : JoinsAll target (with_leaves leaves i others) fresh
      (cache_without (leaf.0 ∷ []) cache) cache'
  pub tiled : LeavesTo top_key fresh
  pub none : NoneToJoin target fresh

-- Leaves with the messages that are left above them can stand in the place of others, of which the
-- one at this place took some: they share out the same keys, and each means the same under the
-- pins.
pub record StandsFor (leaves : List LeafRows) (i : ℕ) (ms left : List TreeMessage)
    (pins : TenantPins) (target : ℕ) (fresh : List LeafRows) : Type 0 where
  pub some : 0 < length fresh
  pub first : first_fence top_key fresh ≡ first_fence top_key leaves
  pub sizes : AllByRecursion (λ l. IsLeafSize target l.1) fresh
  pub means : (key : List ℕ) → MeanTheSame (pins (tenant_of key)) (ops_above ms leaves key)
      (ops_above left fresh key)
  -- the rows of other leaves are the same
  pub beside : (key : List ℕ) (n : ℕ)
      → spans (fence_at leaves i) (fence_at leaves (i + 1)) key ≡ false
      → ops_in (row_messages fresh) key n ≡ ops_in (row_messages leaves) key n
  -- they begin within each interval that has all fences and keys
  pub fences : (low high : List ℕ) → AllByRecursion (λ l. spans low high l.0 ≡ true) leaves
      → ((key : List ℕ) → AreThere (ops_above ms leaves key) → spans low high key ≡ true)
      → AllByRecursion (λ l. spans low high l.0 ≡ true) fresh

-- ---- a job's result

-- the job is one of the leaf at this place, and under some pins its merge keeps what they show
pub record CanPutPages {A : Type 0} (leaves : List LeafRows) (i : ℕ) (job : FlushJob A)
    : Type 0 where
  pub inside : i < length leaves
  pub tiled : LeavesTo top_key leaves
  pub sizes : AllByRecursion (λ l. IsLeafSize job.target.leaf_target l.1) leaves
  pub leaf : LeafRows
  pub at : slice_get leaves i ≡ Some leaf
  pub pins : TenantPins
  pub is : IsJobOf leaf (fence_at leaves (i + 1)) pins job

-- of the messages above the leaves the batch goes, and what is left of the leaf's keys is newer
-- than it and the leaf's rows
pub record BatchGoes (leaves : List LeafRows) (i : ℕ) (ms left batch : List TreeMessage)
    (rows : List Version) : Type 0 where
  pub parts : (key : List ℕ) (n : ℕ)
      → ops_in ms key n ≡ or_else (ops_in left key n) (ops_in batch key n)
  pub newer : (key : List ℕ) (n k : ℕ)
      → spans (fence_at leaves i) (fence_at leaves (i + 1)) key ≡ true
      → IsSome (ops_in left key n) → IsSome (ops_with batch rows key k) → k < n

-- the pages of a job's merge are in the leaf's place: wherever its batch goes they stand for what
-- was, under each pins that the job covers
abbrev pub PutsPages : {A : Type 0} → List LeafRows → ℕ → FlushJob A → List LeafRows → Type 0
PutsPages leaves i job fresh = (pins : TenantPins) (ms left : List TreeMessage)
    → Covers (pins_in job.pins) pins job.page job.batch.messages
    → BatchGoes leaves i ms left job.batch.messages job.page
    → StandsFor leaves i ms left pins job.target.leaf_target fresh
