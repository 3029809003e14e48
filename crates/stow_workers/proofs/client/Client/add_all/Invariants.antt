use Rattle.std.proofs.Common.{◌≡◌}
use Rattle.stow_workers.specs.Pipelined.{encodings}
use Rattle.stow_workers.specs.Sent.{Written, Sends, sent_at}
use Rattle.stow_workers.proofs.Added.{added}
use Rattle.stow_workers.proofs.client.Client.add_all.Given as goal

-- the first reply and so many others were added
abbrev pub invariant-loop-i : goal.invariant-loop-i
invariant-loop-i g l = ((writer : Written) → Sends (sent_at writer l.fn.self.replies) (sent_at writer l.self.replies) (encodings (added l.fn.first l.fn.self.told.items l.i)))
    × (l.self ≡ record l.fn.self { replies = l.self.replies })
