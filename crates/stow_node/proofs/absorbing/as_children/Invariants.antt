use Rattle.std.proofs.Common.{◌≡◌, ◌≤◌, ◌++◌, length, map}
use Rattle.std.specs.Vec.{vec_len, vec_capacity}
use Rattle.std.specs.Vec.Iter.{into_iter_items, into_iter_len}
use Rattle.stow_node.specs.declared.child.Child.TheVariants as in_child
use Rattle.stow_node.proofs.absorbing.as_children.Given as goal

abbrev pub invariant-loop-leaf : goal.invariant-loop-leaf
invariant-loop-leaf g l = (l.into.items ≡ map in_child.Leaf l.yielded) × (l.yielded ++ into_iter_items l.leaf-iterator ≡ l.fn.leaves.items)
    × (into_iter_len l.leaf-iterator ≡ length (into_iter_items l.leaf-iterator)) × (vec_len l.fn.leaves ≤ vec_capacity l.into)
