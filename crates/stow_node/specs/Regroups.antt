-- Nodes in the place of one.
use Rattle.std.specs.Prelude.{◌≡◌, ℕ, ◌^◌, ◌<◌, ◌≤◌, List, ◌∷◌, ◌++◌, map, length}
use Rattle.std.specs.List.{AllByRecursion}
use Rattle.stow_leaves.specs.StowLeaf.Intervals.{top_key}
use Rattle.stow_leaves.specs.StowLeaf.LeafRows.{row_messages}
use Rattle.stow_leaves.specs.StowLeafCache.Cache.{Cache}
use Rattle.stow_leaves.specs.Forgets.{Forgets}
use Rattle.stow_tree_model.specs.Agreement.{TenantPins}
use Rattle.stow_tree_model.specs.Keys.{tenant_of}
use Rattle.stow_tree_model.specs.Messages.{ops_in}
use Rattle.stow_tree_model.specs.TreeMessage.{TreeMessage}
use Rattle.stow_node.specs.declared.child.Child.{Child}
use Rattle.stow_node.specs.declared.child.Child.TheVariants as in_child
use Rattle.stow_leaves.specs.StowLeaf.Replacements.{MeanTheSame}
use Rattle.stow_node.specs.Halves.{IsLike}
use Rattle.stow_node.specs.Nodes.{node_part, leaves_of, nearest_in, AreAmong, AreLeafSizes}
use Rattle.stow_node.specs.Parts.{Part, low_or, IsTile, TiledTo, messages_in, leaves_in, weight_in}
use Rattle.stow_node.specs.Subtree.{Subtree, messages_of, right_above_leaves}

abbrev pub nodes : (A : Type 0) → List Subtree → List (Child A)
nodes A run = map in_child.Node run

abbrev pub run_parts : List Subtree → List Part
run_parts run = map node_part run

-- all that nodes in a row have
abbrev pub run_messages : List Subtree → List TreeMessage
run_messages run = messages_in (run_parts run) ++ row_messages (leaves_in (run_parts run))

-- these nodes can stand in a row where one stood: they share out its keys and mean the same
pub record TakePlace (pins : TenantPins) (x : Subtree) (run : List Subtree) : Type 0 where
  pub tiled : (high : List ℕ) → IsTile (node_part x) high
      → TiledTo high (run_parts run) × (low_or high (run_parts run) ≡ x.low)
  pub sizes : AreLeafSizes x.shape.leaf (leaves_in (run_parts run))
  pub means : (key : List ℕ) → MeanTheSame (pins (tenant_of key))
      (ops_in (messages_of x) key) (ops_in (run_messages run) key)

-- none has more children than it may
abbrev pub AreFew : List Subtree → Type 0
AreFew run = AllByRecursion (λ t. t.width ≤ t.shape.fan_out) run

-- a node and others that came behind it hold what one node held
pub record Grows {A : Type 0} (pins : TenantPins) (old new : Subtree)
    (came : List (Child A)) : Type 0 where
  pub run : List Subtree
  pub are : came ≡ nodes A run
  pub capacity : new.buffer.capacity ≡ old.buffer.capacity
  pub like : AllByRecursion (IsLike old) (new ∷ run)
  pub place : TakePlace pins old (new ∷ run)
  pub few : AreFew (new ∷ run)
  pub weight : weight_in (run_parts (new ∷ run)) ≡ old.weight
  pub leaves : leaves_in (run_parts (new ∷ run)) ≡ old.leaves
  pub nearest : AreAmong (nearest_in (nodes A (new ∷ run))) (right_above_leaves old)

-- a node and others that came behind it mean what one node meant, and weigh less
pub record StandAsOne {A : Type 0} (pins : TenantPins) (old new : Subtree)
    (came : List (Child A)) : Type 0 where
  pub run : List Subtree
  pub are : came ≡ nodes A run
  pub shape : new.shape ≡ old.shape
  pub capacity : new.buffer.capacity ≡ old.buffer.capacity
  pub like : AllByRecursion (IsLike new) run
  pub place : TakePlace pins old (new ∷ run)
  pub few : AreFew (new ∷ run)
  pub lighter : weight_in (run_parts (new ∷ run)) < old.weight

-- and they stand where the one stood; none, or not too many to count
pub record StepsAsOne {A : Type 0} (pins : TenantPins) (old new : Subtree)
    (came : List (Child A)) : Type 0 where
  pub stands : StandAsOne pins old new came
  pub height : new.height ≡ old.height
  pub counted : length came < 2 ^ 32

-- a node and others that came behind it stand for one with all keys from its low on
pub record AreBehind {A : Type 0} (new : Subtree) (came : List (Child A)) : Type 0 where
  pub pins : TenantPins
  pub old : Subtree
  pub tile : IsTile (node_part old) top_key
  pub stands : StandAsOne pins old new came

-- the cache lost the leaves that went
abbrev pub ForgetsCame : {A : Type 0} → Subtree → Subtree → List (Child A) → Cache → Cache → Type 0
ForgetsCame old new came cache cache' =
    Forgets old.leaves (new.leaves ++ leaves_of came) cache cache'
