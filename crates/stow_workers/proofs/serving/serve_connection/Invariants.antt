use Rattle.std.proofs.Common.{◌≡◌, ◌≤◌, ℕ, List, length, Some}
use Rattle.std.specs.Io.KnownBytes.{Consumes}
use Rattle.stow_workers.specs.Sent.{written_of}
use Rattle.stow_shared.specs.StowHouse.declared.stop.Stop.TheVariants as stopped
use Rattle.stow_workers.specs.Turns.{IsAfter, IsEven, IsRested, state_of}
use Rattle.stow_workers.proofs.Pieces.{from_here}
use Rattle.stow_workers.proofs.serving.serve_connection.Given as goal

-- so much was read, served and answered
abbrev pub invariant-loop : goal.invariant-loop
invariant-loop g l = (read : List ℕ) × Consumes (g.R.Source.remaining l.initial.reader) (g.R.Source.remaining l.reader) read × (l.counter ≤ length read)
    × (g.R.Source.failures l.reader ≡ g.R.Source.failures l.initial.reader)
    × IsAfter g.D.Door.answers l.tenants (from_here l.initial.door) (written_of (g.W.Sink.contents l.initial.writer) (g.W.Sink.failures l.initial.writer)) read (Some stopped.More) (state_of l.door (g.W.Sink.contents l.writer) (g.W.Sink.failures l.writer) l.client)
    × IsEven (state_of l.door (g.W.Sink.contents l.writer) (g.W.Sink.failures l.writer) l.client).sent
    × (g.R.Source.borrow l.reader ≡ g.R.Source.borrow l.initial.reader) × (g.W.Sink.borrow l.writer ≡ g.W.Sink.borrow l.initial.writer)
    × IsRested l.client
