-- What a contract sees of the tree, and what the tree means: one set of messages.
use Rattle.std.specs.Prelude.{◌≡◌, ℕ, ◌≤◌, List, [], Contains}
use Rattle.stow_flush.specs.StowLeaf.LeafRows.{LeafRows}
use Rattle.stow_flush.specs.StowLeafCache.Cache.{Cache}
use Rattle.stow_flush.specs.StowNode.Flushes.{AreShort}
use Rattle.stow_flush.specs.StowNode.Subtree.{Subtree, messages_of, first_subtree}
use Rattle.stow_tree_model.specs.Agreement.{TenantPins, TenantBounds, Agree}
use Rattle.stow_tree_model.specs.Keys.{packed, tenant_of}
use Rattle.stow_tree_model.specs.Messages.{Messages, set_of, ops_of}
use Rattle.stow_tree_model.specs.Operations.{NoneAbove}
use Rattle.stow_tree.specs.declared.tree.Tree.TheInside.{Inside}
use Rattle.stow_tree.specs.declared.tree_shape.TreeShape.{TreeShape}
use Rattle.stow_tree.specs.Shapes.{AreInRange, nodes_of}

pub record TreeState : Type 0 where
  -- the root, with all that stands below it
  pub root : Subtree
  -- the leaves that are held unpacked
  pub cache : Cache

-- the changes in its buffers, and those that its leaves' rows stand for
unfoldable pub tree_messages : TreeState → Messages
tree_messages tree = set_of (messages_of tree.root)

-- one empty leaf below the root, and no leaf held
abbrev pub new_tree : TreeShape → TreeState
new_tree shape =
    record {
      root = first_subtree (nodes_of shape);
      cache = record { leaves = []; limit = shape.cache };
    }

-- each leaf that is held is one of the tree's, with its rows
abbrev pub HoldsLeaves : Cache → List LeafRows → Type 0
HoldsLeaves cache leaves = (leaf : LeafRows) → Contains cache.leaves leaf → Contains leaves leaf

-- what the tree's type keeps, beside what its nodes' types keep
pub record IsTree {A : Type 0} (tree : Inside A) : Type 0 where
  pub sizes : AreInRange tree.root.shape
  pub low : tree.root.low ≡ packed 0 []
  pub few : tree.root.width ≤ tree.root.shape.fan_out
  pub root_block : tree.root.buffer.capacity ≡ tree.root.shape.buffer
  pub block : tree.root.buffer.capacity ≤ tree.spare.capacity
  pub short : AreShort (messages_of tree.root)
  pub held : HoldsLeaves tree.cache tree.root.leaves

-- no message of a tenant is above its bound
abbrev pub HasBound : Messages → TenantBounds → Type 0
HasBound ms bound = (key : List ℕ) → NoneAbove (bound (tenant_of key)) (ops_of ms key)

-- the sets mean the same under the pins, for every bound that the first one has
abbrev pub AgreeUnder : TenantPins → Messages → Messages → Type 0
AgreeUnder pins old new = (bound : TenantBounds) → HasBound old bound → Agree old new pins bound

-- no message moved; only which leaves are held may be other
pub record IsRead (old new : TreeState) : Type 0 where
  pub root : new.root ≡ old.root
  pub limit : new.cache.limit ≡ old.cache.limit
