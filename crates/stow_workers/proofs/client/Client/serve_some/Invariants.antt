use Rattle.std.proofs.Common.{None}
use Rattle.stow_workers.specs.Sent.{Written, sent_at}
use Rattle.stow_workers.specs.Turns.{StepsTo, HasLed}
use Rattle.stow_workers.proofs.client.Client.serve_some.Given as goal

-- whatever was at hand before, the connection goes on, and calls led the door here
abbrev pub invariant-loop : goal.invariant-loop
invariant-loop g l = ((writer : Written) → StepsTo g.D.Door.answers l.tenants None l.fn.door l.fn.self (sent_at writer l.fn.self.replies) l.door l.self (sent_at writer l.self.replies)) × HasLed g.D.Door.answers l.fn.door l.door
