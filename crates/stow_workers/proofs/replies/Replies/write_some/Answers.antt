use Rattle.stow_workers.proofs.Sending.{taken_some}
use Rattle.stow_workers.proofs.replies.Replies.write_some.Goals as goal

pub returns-in-Ok-Some-clause-sent : goal.returns-in-Ok-Some-clause-sent
returns-in-Ok-Some-clause-sent g c =
    let some = c.in-Ok-Some.field-0-is in
    taken_some _ _ _ c.as_slice.result.now c.args.self.now.bytes.items c.args.self.now.passed c.in-Ok-Some.count c.requires.right c.as_slice.ensures.value (rw some at c.in-Ok-Some.ensures.bytes) ((rw some at c.in-Ok-Some.ensures.failures).0 c.if-count-gt0.true)
