use Rattle.std.proofs.Common.{◌≡◌}
use Rattle.std.specs.Io.KnownBytes.{Keeps}
use Rattle.stow_workers.specs.Counted.{inner_of, failures_of}
use Rattle.stow_workers.proofs.counted.CountedNonblockingSink.try_write.Given as goal

-- interrupted calls have changed nothing
abbrev pub invariant-loop : goal.invariant-loop
invariant-loop g l = Keeps (g.T.Write.contents (inner_of l.initial.self)) (g.T.Write.contents (inner_of l.self)) × (failures_of l.self ≡ failures_of l.initial.self)
