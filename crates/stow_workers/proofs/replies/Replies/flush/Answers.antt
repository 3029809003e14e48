use Rattle.std.proofs.Common.{ap, ◌∙◌, drop}
use Rattle.std.proofs.lemmas.List.{take_rest}
use Rattle.stow_workers.proofs.Sending.{taken}
use Rattle.stow_workers.proofs.replies.Replies.flush.Goals as goal

pub returns-clause-sent : goal.returns-clause-sent
returns-clause-sent g c =
    taken _ _ _ _ _ _ _ c.write_all.result c.if-self.false (c.clear.ensures.failed ∙ c.is_err-self.ensures.value) (ap (λ n. drop n c.clear.new.self.bytes.items) c.clear.ensures.passed ∙ c.clear.ensures.bytes)
    (take_rest c.as_slice.result.now c.args.self.now.passed ∙ ap (drop c.args.self.now.passed) c.as_slice.ensures.value) c.write_all.ensures.written
