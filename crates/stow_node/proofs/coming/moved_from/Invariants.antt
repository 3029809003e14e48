use Rattle.std.proofs.Common.{◌≡◌, ◌+◌, ◌≤◌, ◌++◌}
use Rattle.std.specs.Vec.{vec_len, vec_capacity}
use Rattle.stow_node.proofs.coming.moved_from.Given as goal

abbrev pub invariant-loop-from : goal.invariant-loop-from
invariant-loop-from g l = (l.from.items ++ l.into.items ≡ l.fn.from.items) × (vec_len l.from + vec_len l.into ≡ vec_len l.fn.from) × (l.at ≤ vec_len l.from) × (vec_len l.fn.from ≤ vec_capacity l.into + l.at)

abbrev pub decreases-loop-from : goal.decreases-loop-from
decreases-loop-from g l = vec_len l.from
