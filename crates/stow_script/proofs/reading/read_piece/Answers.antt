use Rattle.std.proofs.Common.{Some, subst}
use Rattle.std.specs.Prelude.{codes}
use Rattle.stow_script.specs.Read.{IsCut, IsNoEvent, IsNoNumberText, StandsForNone}
use Rattle.stow_script.proofs.Lines.{no_text, bad_connection, bad_text, event_fault, fault_so, number_fault}
use Rattle.stow_script.proofs.reading.read_piece.Goals as goal

pub returns-in_default : goal.returns-in_default
returns-in_default g c = λ entries.
    let rest = c.args.rest.now in
    no_text entries rest c.cut.result.0.now (subst (IsCut 32 rest c.cut.result.0.now) c.in_default.is c.cut.ensures)

pub returns-in_err-connection : goal.returns-in_err-connection
returns-in_err-connection g c = λ entries.
    let rest = c.args.rest.now in
    let first = c.cut.result.0.now in
    let fault = c.in_err-connection.field-0.0 in
    let cut : IsCut 32 rest first (Some c.in-Some.text) = subst (IsCut 32 rest first) c.in-Some.is c.cut.ensures in
    event_fault entries (codes "piece") rest c.from_residual.result fault c.from_residual.ensures.1
    (fault_so (IsNoNumberText 1 65535 first) (IsNoEvent entries (codes "piece") rest) fault
    (bad_connection entries rest first c.in-Some.text cut)
    (number_fault 1 65535 first fault c.in_err-connection.ensures))

pub returns-in_err-unescape : goal.returns-in_err-unescape
returns-in_err-unescape g c = λ entries.
    let rest = c.args.rest.now in
    let first = c.cut.result.0.now in
    let fault = c.in_err-unescape.field-0.0 in
    let cut : IsCut 32 rest first (Some c.in-Some.text) = subst (IsCut 32 rest first) c.in-Some.is c.cut.ensures in
    event_fault entries (codes "piece") rest c.from_residual-in_err-unescape.result fault c.from_residual-in_err-unescape.ensures.1
    (fault_so (StandsForNone c.in-Some.text.now) (IsNoEvent entries (codes "piece") rest) fault
    (bad_text entries rest first c.in-Some.text cut)
    c.in_err-unescape.ensures.err)
