use Rattle.stow_workers.proofs.Sending.{err_map, same_waiting}
use Rattle.stow_workers.proofs.replies.Replies.add_reply.Goals as goal

pub returns-clause-err : goal.returns-clause-err
returns-clause-err g c writer = err_map c.write.result _ _ (λ same. same_waiting writer c.args.self.now.has_failed c.args.self.now.passed _ _ same) c.write.ensures.err
