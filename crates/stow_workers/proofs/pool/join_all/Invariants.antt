use Rattle.std.proofs.Common.{◌≡◌, ◌+◌, ◌≤◌, ◌++◌, length}
use Rattle.std.specs.Prelude.{vec_len, vec_capacity}
use Rattle.std.specs.Vec.Iter.{into_iter_items, into_iter_len}
use Rattle.stow_workers.specs.Pools.{AreEach, GivesBack}
use Rattle.stow_workers.proofs.pool.join_all.Given as goal

-- those so far are in their places, and there is room for the others
abbrev pub invariant-loop-worker : goal.invariant-loop-worker
invariant-loop-worker g l = (l.yielded ++ into_iter_items l.worker-iterator ≡ into_iter_items l.initial.worker-iterator)
    × AreEach (GivesBack g.J.Journal.keeps) l.yielded l.returned.items
    × (into_iter_len l.worker-iterator ≡ length (into_iter_items l.worker-iterator))
    × (vec_len l.returned + into_iter_len l.worker-iterator ≤ vec_capacity l.returned)
