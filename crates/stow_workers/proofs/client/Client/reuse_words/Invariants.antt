use Rattle.std.proofs.Common.{◌≡◌}
use Rattle.stow_shared.specs.StowHouse.Conversations.{talk_of}
use Rattle.stow_workers.proofs.client.Client.reuse_words.Given as goal

-- the conversation and the replies are as they were
abbrev pub invariant-loop : goal.invariant-loop
invariant-loop g l = (talk_of l.self.conversation ≡ talk_of l.fn.self.conversation) × (l.self.replies ≡ l.fn.self.replies) × (l.self.done ≡ l.fn.self.done) × (l.self.end ≡ l.fn.self.end)
