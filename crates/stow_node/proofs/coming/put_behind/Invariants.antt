use Rattle.std.proofs.Common.{◌≡◌, ◌+◌, ◌≤◌}
use Rattle.std.specs.Vec.{vec_len, vec_capacity}
use Rattle.stow_node.proofs.Came.{IsComing}
use Rattle.stow_node.proofs.coming.put_behind.Given as goal

abbrev pub invariant-loop-child : goal.invariant-loop-child
invariant-loop-child g l = IsComing l.fn.children.items (l.index + 1) l.fn.came.items l.came.items l.wide.items × (vec_len l.wide + vec_len l.came ≤ vec_capacity l.wide) × (vec_capacity l.came ≡ vec_capacity l.fn.came)

abbrev pub decreases-loop-child : goal.decreases-loop-child
decreases-loop-child g l = vec_len l.came
