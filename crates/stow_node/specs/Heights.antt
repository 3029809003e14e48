-- Each child is lower than its node.
use Rattle.std.specs.Prelude.{ℕ, ◌≤◌, List, [], ◌∷◌}
use Rattle.std.specs.List.{AllByRecursion}
use Rattle.std.specs.declared.alloc.Allocator as alloc
use Rattle.std.proofs.Common.{arith}
use denote.Param.Weighed.{most}
use Rattle.stow_node.specs.declared.child.Child.{Child}
use Rattle.stow_node.specs.declared.child.Child.TheVariants as in_child
use Rattle.stow_node.specs.declared.shape.Shape.{Shape}
use Rattle.stow_node.specs.declared.node.Node.TheDeep.{deep-Child}
use Rattle.stow_node.specs.Nodes.{IsBelow}

deep_le : (A : Type 0) (heap : alloc.Ghosts A) (h : ℕ) (shape : Shape) (c : Child A)
    → IsBelow h shape c → deep-Child A heap c ≤ h
deep_le A heap h shape (in_child.Leaf leaf) b = omega arith
deep_le A heap h shape (in_child.Node node) b = omega (arith, b.level)

-- no child is as high as its node
pub deepest_child : (A : Type 0) (heap : alloc.Ghosts A) (h : ℕ) (shape : Shape)
    (cs : List (Child A)) → AllByRecursion (IsBelow h shape) cs → most (deep-Child A heap) cs ≤ h
deepest_child A heap h shape [] all = omega arith
deepest_child A heap h shape (c ∷ cs) all =
    omega (arith, deepest_child A heap h shape cs all.1, deep_le A heap h shape c all.0)
