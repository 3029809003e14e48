use Rattle.std.proofs.Common.{◌≡◌, ◌+◌, ◌≤◌, ◌++◌, length}
use Rattle.std.specs.Prelude.{vec_len, vec_capacity}
use Rattle.std.specs.Vec.Iter.{into_iter_items, into_iter_len}
use Rattle.stow_workers.specs.Pools.{AreEachUpTo, IsFlusherOf, IsWorkerOf}
use Rattle.stow_workers.proofs.pool.start_all.Given as goal

-- those so far are in their places, workers first, and there is room for the others
abbrev pub invariant-loop-seat : goal.invariant-loop-seat
invariant-loop-seat g l = (l.yielded ++ into_iter_items l.seat-iterator ≡ into_iter_items l.initial.seat-iterator)
    × AreEachUpTo l.count (IsWorkerOf g.J.Journal.keeps) (IsFlusherOf g.J.Journal.keeps) l.yielded l.workers.items
    × (into_iter_len l.seat-iterator ≡ length (into_iter_items l.seat-iterator))
    × (vec_len l.workers + into_iter_len l.seat-iterator ≡ into_iter_len l.initial.seat-iterator)
    × (into_iter_len l.initial.seat-iterator ≤ vec_capacity l.workers)
    × (length l.workers.items ≡ length l.yielded)
