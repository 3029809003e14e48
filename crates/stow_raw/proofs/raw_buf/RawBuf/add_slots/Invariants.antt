use Rattle.std.proofs.Common.{◌≡◌, ◌++◌}
use Rattle.std.proofs.Math.ListN.{replicate}
use Rattle.stow_raw.specs.Laid.{front_of, slots_of, IsLaid}
use Rattle.stow_raw.proofs.raw_buf.RawBuf.add_slots.Given as goal

abbrev pub invariant-loop : goal.invariant-loop
invariant-loop g l =
    record { laid : IsLaid l.self-inside.block; capacity : l.self-inside.block.capacity ≡ l.fn.self.capacity; front : front_of l.self-inside.block ≡ l.fn.self.front; slots : slots_of l.self-inside.block ≡ replicate l.counter 0 ++ l.fn.self.slots }
