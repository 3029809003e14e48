use Rattle.stow_workers.specs.Counted.{failures_of, inner_of}
use Rattle.stow_workers.specs.Sent.{written_of}
use Rattle.stow_tasks.proofs.Pipes.{ends_well, told_as_flushed}
use Rattle.stow_tasks.proofs.pipe.pipe.Goals as goal

pub returns-in-Quit-clause-piped : goal.returns-in-Quit-clause-piped
returns-in-Quit-clause-piped g c =
    let answered = written_of (g.W.Write.contents (inner_of c.serve_connection.new.writer)) (failures_of c.serve_connection.new.writer) in
    let after = written_of (g.W.Write.contents (inner_of c.flush.new.self)) (failures_of c.flush.new.self) in
    record {
      served = c.serve_connection.result;
      answered = answered;
      serves = c.serve_connection.ensures.serves;
      end = ends_well c.serve_connection.result c.check.result answered after c.in-Quit.is (told_as_flushed c.flush.result c.check.result answered after c.check.ensures c.flush.ensures.bytes c.flush.ensures.failures);
    }
