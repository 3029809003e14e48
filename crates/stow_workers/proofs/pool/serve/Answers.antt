use Rattle.std.proofs.Common.{arith}
use denote.Param.Send.{sendable}
use Rattle.stow_workers.proofs.Flushed.{none_flushed}
use Rattle.stow_workers.proofs.Workers.{same_up_to, no_calls}
use Rattle.stow_workers.proofs.pool.serve.Goals as goal

pub returns-in_default-clause-back : goal.returns-in_default-clause-back
returns-in_default-clause-back g c = same_up_to _ _ _ (no_calls _) (none_flushed _) _

pub returns-in_default-with_capacity-clause-back : goal.returns-in_default-with_capacity-clause-back
returns-in_default-with_capacity-clause-back g c = same_up_to _ _ _ (no_calls _) (none_flushed _) _

pub scoped-requires : goal.scoped-requires
scoped-requires g c =
    let free = c.type_bounds.frees-A-Allocator in
    record {
      at = λ a. (
        (
          search sendable,
          search sendable,
          search sendable,
          search sendable,
          search sendable,
          search sendable,
          free,
          c.in-Ok.ensures.items,
          omega (arith, c.in-Ok.ensures.capacity, c.len.ensures),
          c.in-Ok-with_capacity.ensures.items,
          omega (arith, c.in-Ok-with_capacity.ensures.capacity, c.len-2.ensures),
        ),
        (search sendable, search sendable, search sendable, search sendable, search sendable, search sendable, free),
      );
    }
