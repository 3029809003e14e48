use Rattle.std.proofs.Common.{◌≡◌, ◌-◌, length, false}
use Rattle.stow_workers.specs.Sent.{StaysSent, sent_at, written_of}
use Rattle.stow_workers.proofs.replies.Replies.send.Given as goal

-- what was written so far leaves all that was sent or waits, and no write has failed
abbrev pub invariant-loop-self : goal.invariant-loop-self
invariant-loop-self g l = StaysSent (sent_at (written_of (g.W.NonblockingSink.contents l.initial.writer) (g.W.NonblockingSink.failures l.initial.writer)) l.initial.self)
    (sent_at (written_of (g.W.NonblockingSink.contents l.writer) (g.W.NonblockingSink.failures l.writer)) l.self)
    × (l.self.has_failed ≡ false)

-- fewer bytes wait
abbrev pub decreases-loop-self : goal.decreases-loop-self
decreases-loop-self g l = length l.self.bytes.items - l.self.passed
