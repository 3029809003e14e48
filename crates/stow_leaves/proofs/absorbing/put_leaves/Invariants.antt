use Rattle.std.proofs.Common.{◌+◌, ◌≤◌}
use Rattle.std.specs.Vec.{vec_len, vec_capacity}
use Rattle.stow_leaves.proofs.Replaced.{IsPutting}
use Rattle.stow_leaves.proofs.absorbing.put_leaves.Given as goal

abbrev pub invariant-loop-leaf : goal.invariant-loop-leaf
invariant-loop-leaf g l = IsPutting l.fn.leaves.items l.index l.fn.others.items l.others.items l.leaves.items × (vec_len l.leaves + vec_len l.others ≤ vec_capacity l.leaves)

abbrev pub decreases-loop-leaf : goal.decreases-loop-leaf
decreases-loop-leaf g l = vec_len l.others
