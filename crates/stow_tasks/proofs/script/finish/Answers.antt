use Rattle.stow_tasks.proofs.Telling.{checked_ok, flushed}
use Rattle.stow_tasks.proofs.script.finish.Goals as goal

pub returns-clause-written : goal.returns-clause-written
returns-clause-written g c =
    flushed c.args.bytes.now _ _ _ c.flush.result c.check-2.result
    (checked_ok c.write_all.result c.in_ok-check.field-0 c.args.bytes.now _ _ c.in_ok-check.ensures c.write_all.ensures.written)
    c.flush.ensures.bytes c.flush.ensures.failures c.check-2.ensures
