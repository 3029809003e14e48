-- The way of a plan: which buffer it takes, and where its messages go.
use Rattle.std.specs.Prelude.{◌≡◌, ◌≢◌, ◌⊎◌, ℕ, ◌≤◌, zero, suc, List, [], slice_get, slice_set, Some, None, Option}
use Rattle.stow_leaves.specs.StowLeaf.LeafRows.{LeafRows}
use Rattle.stow_leaves.specs.StowMerge.Pins.{pins_in}
use Rattle.stow_leaves.specs.StowMerge.declared.flush_job.FlushJob.{FlushJob}
use Rattle.stow_leaves.specs.StowMerge.declared.flush_target.TheConstants.{LEAST_LEAF_TARGET, GREATEST_LEAF_TARGET}
use Rattle.stow_leaves.specs.StowMessage.Rising.{in_range}
use Rattle.stow_tree_model.specs.Agreement.{TenantPins}
use Rattle.stow_tree_model.specs.TreeMessage.{TreeMessage}
use Rattle.stow_node.specs.declared.child.Child.{Child}
use Rattle.stow_node.specs.declared.child.Child.TheVariants as in_child
use Rattle.stow_node.specs.declared.shape.Shape.{Shape}
use Rattle.stow_node.specs.Installs.{CanInstall}
use Rattle.stow_node.specs.Moves.{IsReallocated, HandsDown}
use Rattle.stow_node.specs.Nodes.{AreAmong, part_of, parts_of, leaves_of, deepest_of, deepest_in, AreChildren}
use Rattle.stow_node.specs.Parts.{high_of, messages_in}
use Rattle.stow_node.specs.Subtree.{Subtree, buffered, deepest_buffer}
use Rattle.stow_node.specs.Ways.{Heaviest}

-- the bytes of a page that leaves may be cut by
abbrev pub IsLeafTarget : ℕ → Type 0
IsLeafTarget target = (LEAST_LEAF_TARGET ≤ target) × (target ≤ GREATEST_LEAF_TARGET)

abbrev pub HasLeafTarget : Shape → Type 0
HasLeafTarget shape = IsLeafTarget shape.leaf

-- the job has messages, all of them the node's, and the pins, and could be installed as it is
pub record IsPlanned {A : Type 0} (under : TenantPins) (t : Subtree) (job : FlushJob A)
    : Type 0 where
  pub some : job.batch.messages ≢ []
  pub among : AreAmong job.batch.messages (buffered t)
  pub pins : (tenant : ℕ) → pins_in job.pins tenant ≡ under tenant
  pub can : CanInstall t job under

-- the job is a leaf's with all messages for it, its keys ending here
pub record IsLeafJob {A : Type 0} (leaf : LeafRows) (high : List ℕ) (ms : List TreeMessage)
    (under : TenantPins) (cut : ℕ) (job : FlushJob A) : Type 0 where
  pub page : job.page ≡ leaf.1
  pub low : job.target.low_fence ≡ leaf.0
  pub target : job.target.leaf_target ≡ cut
  pub batch : job.batch.messages ≡ in_range leaf.0 high ms
  pub pins : (tenant : ℕ) → pins_in job.pins tenant ≡ under tenant

-- the place of the child below which the deepest buffer stands that holds a message, if one does
pub record HasDeepest {A : Type 0} (children : List (Child A)) (i : ℕ) : Type 0 where
  pub child : Child A
  pub at : slice_get children i ≡ Some child
  pub deepest : deepest_of child ≡ deepest_in children
  pub some : (part_of child).messages ≢ []

abbrev pub IsDeepestChild : {A : Type 0} → List (Child A) → Option ℕ → Type 0
IsDeepestChild children None = messages_in (parts_of children) ≡ []
IsDeepestChild children (Some i) = HasDeepest children i

-- right above leaves: the batch is all messages for the heaviest one, the page is its rows
pub record TakesLeaf {A : Type 0} (old new : Subtree) (job : FlushJob A) : Type 0 where
  pub same : new ≡ old
  pub to : Heaviest A old
  pub leaf : slice_get (leaves_of to.children) to.index
      ≡ Some (job.target.low_fence, job.page)
  pub batch : job.batch.messages ≡ in_range job.target.low_fence
      (high_of (parts_of to.children) to.index) old.buffer.messages

-- further up: the messages for the heaviest child move into its buffer, which is empty, and the
-- way goes on there
pub record MovesDown {A : Type 0} (below : Subtree → Subtree → FlushJob A → Type 0)
    (old new : Subtree) (job : FlushJob A) : Type 0 where
  pub to : Heaviest A old
  pub node : Subtree
  pub at : slice_get to.children to.index ≡ Some (in_child.Node node)
  pub ready : Subtree
  pub reallocated : IsReallocated node ready
  pub empty : buffered ready ≡ []
  pub after : List (Child A)
  pub down : HandsDown (slice_set to.children to.index (in_child.Node ready)) to.index old.buffer
      after new.buffer
  pub filled : Subtree
  pub taken : slice_get after to.index ≡ Some (in_child.Node filled)
  pub planned : Subtree
  pub way : below filled planned job
  pub stand : AreChildren new (slice_set after to.index (in_child.Node planned))

-- from a node below which no buffer holds a message
abbrev pub TakesOwn : {A : Type 0} → ℕ → Subtree → Subtree → FlushJob A → Type 0
TakesOwn zero old new job = ⊥
TakesOwn (suc zero) old new job = TakesLeaf old new job
TakesOwn (suc (suc height)) old new job = MovesDown (TakesOwn (suc height)) old new job

-- the way goes to a child below which the deepest buffer stands that holds a message
pub record GoesToDeepest {A : Type 0} (below : Subtree → Subtree → FlushJob A → Type 0)
    (old new : Subtree) (job : FlushJob A) : Type 0 where
  pub children : List (Child A)
  pub stand : AreChildren old children
  pub index : ℕ
  pub node : Subtree
  pub at : slice_get children index ≡ Some (in_child.Node node)
  pub deepest : deepest_buffer node ≡ old.deepest
  pub planned : Subtree
  pub way : below node planned job
  pub own : new.buffer ≡ old.buffer
  pub after : AreChildren new (slice_set children index (in_child.Node planned))

-- a plan takes the deepest buffer that holds a message, of these any
abbrev pub Plans : {A : Type 0} → ℕ → Subtree → Subtree → FlushJob A → Type 0
Plans zero old new job = ⊥
Plans (suc height) old new job =
    ((old.deeper ≡ []) × TakesOwn (suc height) old new job)
    ⊎ GoesToDeepest (Plans height) old new job
