-- Where the result of a flush job can be installed.
use Rattle.std.specs.Prelude.{◌≡◌, ℕ, List, [], ◌∷◌, Contains, IsSome, None, if◌then◌else◌}
use Rattle.std.specs.Ordering.{is_lt}
use Rattle.stow_tree_model.specs.StowBytes.Bytes.{bytes_cmp}
use Rattle.stow_leaves.specs.StowLeaf.Intervals.{top_key, NoneOutside}
use Rattle.stow_leaves.specs.StowLeaf.LeafRows.{LeafRows}
use Rattle.stow_leaves.specs.StowLeaf.declared.leaf.Leaf.{Leaf}
use Rattle.stow_leaves.specs.StowMerge.Covering.{Covers}
use Rattle.stow_leaves.specs.StowMerge.Pins.{pins_in}
use Rattle.stow_leaves.specs.StowMerge.declared.flush_job.FlushJob.{FlushJob}
use Rattle.stow_leaves.specs.StowMessage.Rising.{AreOldest}
use Rattle.stow_tree_model.specs.Agreement.{TenantPins}
use Rattle.stow_tree_model.specs.Messages.{ops_in}
use Rattle.stow_tree_model.specs.TreeMessage.{TreeMessage}
use Rattle.stow_node.specs.Jobs.{JobState, job_state}
use Rattle.stow_node.specs.Subtree.{Subtree, right_above_leaves}

-- where the next leaf above a fence begins, or else the upper end
abbrev pub next_fence : List ℕ → List LeafRows → List ℕ → List ℕ
next_fence high [] fence = high
next_fence high (leaf ∷ leaves) fence =
    if is_lt (bytes_cmp fence leaf.0) then leaf.0 else next_fence high leaves fence

-- None of the four causes for which a result is stale: the leaf at the target has the job's page,
-- and is cut as the job says; each key of the batch is the leaf's; the batch is all that is
-- buffered of its keys right above the leaf, up to its numbers; and no pin is missing.
pub record IsFresh (t : Subtree) (job : JobState) (pins : TenantPins) : Type 0 where
  pub leaf : Contains t.leaves (job.low_fence, job.page)
  pub target : job.leaf_target ≡ t.shape.leaf
  pub inside : NoneOutside job.low_fence (next_fence top_key t.leaves job.low_fence) job.batch
  pub oldest : AreOldest job.batch (right_above_leaves t)
  pub covered : Covers job.pins pins job.page job.batch

-- the job's result can be installed under these pins
abbrev pub CanInstall : {A : Type 0} → Subtree → FlushJob A → TenantPins → Type 0
CanInstall t job pins = IsFresh t (job_state job) pins

-- the job's merge keeps all that these pins show
abbrev pub CoversAll : {A : Type 0} → FlushJob A → TenantPins → Type 0
CoversAll job pins = Covers (pins_in job.pins) pins job.page job.batch.messages

-- the leaf has the job's fence and page
abbrev pub IsLeafOf : {A : Type 0} → Leaf A → FlushJob A → Type 0
IsLeafOf leaf job = (leaf.low ≡ job.target.low_fence) × (leaf.rows ≡ job.page)

-- the leaf is the job's, of a node right above it that can take the batch out
abbrev pub IsAsPlanned : {A : Type 0} → Leaf A → Subtree → FlushJob A → TenantPins → Type 0
IsAsPlanned leaf t job pins = IsLeafOf leaf job × ((job.target.leaf_target ≡ t.shape.leaf)
    × (AreOldest job.batch.messages t.buffer.messages × CoversAll job pins))

-- no message of the batch is among these
abbrev pub AreGone : List TreeMessage → List TreeMessage → Type 0
AreGone batch ms = (key : List ℕ) (n : ℕ) → IsSome (ops_in batch key n)
    → ops_in ms key n ≡ None

-- no message of the batch is left in the buffers right above the leaves
abbrev pub BatchIsGone : List TreeMessage → Subtree → Type 0
BatchIsGone batch t = AreGone batch (right_above_leaves t)

-- under some pins the result can be installed
pub record CanComeIn {A : Type 0} (t : Subtree) (job : FlushJob A) : Type 0 where
  pub pins : TenantPins
  pub can : CanInstall t job pins
