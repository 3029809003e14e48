use Rattle.std.proofs.Common.{◌≡◌, None}
use Rattle.stow_workers.specs.Sent.{sent_of}
use Rattle.stow_workers.specs.Turns.{StepsTo, weight}
use Rattle.stow_workers.proofs.client.Client.serve_all.Given as goal

-- whatever was at hand before, the connection goes on, and its writer is the same
abbrev pub invariant-loop-stop : goal.invariant-loop-stop
invariant-loop-stop g l = StepsTo g.D.Door.answers l.tenants None l.initial.door l.initial.self (sent_of (g.W.Sink.contents l.initial.writer) (g.W.Sink.failures l.initial.writer) l.initial.self.replies) l.door l.self (sent_of (g.W.Sink.contents l.writer) (g.W.Sink.failures l.writer) l.self.replies)
    × (g.W.Sink.borrow l.writer ≡ g.W.Sink.borrow l.initial.writer)

-- less is left to do
abbrev pub decreases-loop-stop : goal.decreases-loop-stop
decreases-loop-stop g l = weight l.self
