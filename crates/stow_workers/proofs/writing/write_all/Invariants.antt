use Rattle.std.proofs.Common.{◌≡◌, ℕ, List, ◌++◌, length}
use Rattle.std.specs.Io.KnownBytes.{Appends}
use Rattle.stow_workers.proofs.writing.write_all.Given as goal

-- these bytes were written so far, and no write has failed
abbrev pub invariant-loop-rest : goal.invariant-loop-rest
invariant-loop-rest g l = (done : List ℕ) × (l.initial.rest ≡ done ++ l.rest) × Appends (g.W.Sink.contents l.initial.writer) (g.W.Sink.contents l.writer) done
    × (g.W.Sink.failures l.writer ≡ g.W.Sink.failures l.initial.writer) × (g.W.Sink.borrow l.writer ≡ g.W.Sink.borrow l.initial.writer)

abbrev pub decreases-loop-rest : goal.decreases-loop-rest
decreases-loop-rest g l = length l.rest
