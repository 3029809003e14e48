use Rattle.std.proofs.Common.{◌≡◌, length}
use Rattle.stow_shared.specs.StowHouse.Conversations.{talk_of}
use Rattle.stow_workers.specs.Pipelined.{AsksAll}
use Rattle.stow_workers.proofs.client.Client.hear_all.Given as goal

-- what was heard so far are requests, and no reply was added
abbrev pub invariant-loop-self : goal.invariant-loop-self
invariant-loop-self g l = AsksAll l.tenants l.self.requests.items (talk_of l.initial.self.conversation) (talk_of l.self.conversation)
    × (l.self.replies ≡ l.initial.self.replies) × (l.self.done ≡ l.initial.self.done) × (l.self.end ≡ l.initial.self.end)

-- the unread bytes grow fewer
abbrev pub decreases-loop-self : goal.decreases-loop-self
decreases-loop-self g l = length (talk_of l.self.conversation).unread
