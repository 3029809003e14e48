use Rattle.stow_program.proofs.Outcomes.{ends_at_line}
use Rattle.stow_program.proofs.serve.tell_address.Goals as goal

pub returns-clause-err : goal.returns-clause-err
returns-clause-err g c = ends_at_line _ _ _ c.finish.result c.finish.ensures.written c.finish.ensures.err
