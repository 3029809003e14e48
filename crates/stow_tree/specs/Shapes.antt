-- How large the parts of a tree may grow.
use Rattle.std.specs.Prelude.{◌≤◌}
use Rattle.stow_bytes.specs.Limits.{cache_limit}
use Rattle.stow_flush.specs.StowNode.declared.shape.Shape.{Shape}
use Rattle.stow_tree.specs.declared.tree_shape.TreeShape.{TreeShape}

-- the sizes of nodes and leaves are within their limits
pub record AreInRange (nodes : Shape) : Type 0 where
  pub buffer : (2097152 ≤ nodes.buffer) × (nodes.buffer ≤ 4194304)
  pub leaf : (4096 ≤ nodes.leaf) × (nodes.leaf ≤ 1048576)
  pub fan_out : (4 ≤ nodes.fan_out) × (nodes.fan_out ≤ 256)

-- the sizes of its nodes and leaves
abbrev pub nodes_of : TreeShape → Shape
nodes_of shape = record { buffer = shape.buffer; leaf = shape.leaf; fan_out = shape.fan_out }

-- each size is within its limits
pub record IsInRange (shape : TreeShape) : Type 0 where
  pub nodes : AreInRange (nodes_of shape)
  pub cache : shape.cache ≤ cache_limit
