use Rattle.std.proofs.Common.{◌≡◌, map, take}
use Rattle.stow_node.specs.declared.child.Child.TheVariants as in_child
use Rattle.stow_node.proofs.absorbing.shared.Given as goal

abbrev pub invariant-loop-i : goal.invariant-loop-i
invariant-loop-i g l = map in_child.Leaf l.leaves.items ≡ take l.i l.children
