use Rattle.std.proofs.Common.{arith}
use Rattle.stow_workers.proofs.Sending.{stays_then, all_passed}
use Rattle.stow_workers.proofs.replies.Replies.send.Goals as goal

pub returns : goal.returns
returns g c = record {
  sent = stays_then _ _ _ c.loop-self.invariant.0
      (all_passed _ _ _ c.loop-self.self.passed _ c.loop-self.self.bytes.items _ c.clear.ensures.failed c.clear.ensures.passed c.clear.ensures.bytes (let t = c.loop-self-test.false in let n = c.len.ensures in omega (arith, t, n)));
}
