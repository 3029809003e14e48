use Rattle.std.proofs.Common.{◌≡◌, ◌<◌, ◌==◌, length, false, Some, sym, ◌∙◌, subst, arith}
use Rattle.std.proofs.lemmas.Bool.Decides.{nat_tests}
use Rattle.stow_script.specs.Script.{IsBad}
use Rattle.stow_script.specs.Read.{IsCut, IsNoEvent}
use Rattle.stow_script.proofs.Lines.{bad_event, bad_word, fault_so, line_fault, not_skipped, of_other}
use Rattle.stow_script.proofs.reading.read_line.Goals as goal

pub returns-in_default : goal.returns-in_default
returns-in_default g c =
    let line = c.args.line.now in
    let first = c.cut.result.0.now in
    let filled : length line == 0 ≡ false = sym c.is_empty.ensures ∙ c.if-is_empty.false in
    let some : 0 < length line = grind (arith, nat_tests) in
    bad_word c.args.tenants.now line first (not_skipped line some c.if-line-eq35.false) (of_other _ _ c.is_same.result c.if-is_same.false c.is_same.ensures) (subst (IsCut 32 line first) c.in_default.is c.cut.ensures)

pub returns-in_err-event : goal.returns-in_err-event
returns-in_err-event g c =
    let line = c.args.line.now in
    let first = c.cut.result.0.now in
    let fault = c.in_err-event.field-0.0 in
    let filled : length line == 0 ≡ false = sym c.is_empty.ensures ∙ c.if-is_empty.false in
    let some : 0 < length line = grind (arith, nat_tests) in
    let cut : IsCut 32 line first (Some c.in-Some.rest) = subst (IsCut 32 line first) c.in-Some.is c.cut.ensures in
    line_fault c.args.tenants.now line c.from_residual-in_err-event.result fault c.from_residual-in_err-event.ensures.1
    (fault_so (IsNoEvent c.args.tenants.now first c.in-Some.rest.now) (IsBad c.args.tenants.now line) fault
    (bad_event c.args.tenants.now line first c.in-Some.rest (not_skipped line some c.if-line-eq35.false) (of_other _ _ c.is_same.result c.if-is_same.false c.is_same.ensures) (of_other _ _ c.is_same-2.result c.if-is_same-2.false c.is_same-2.ensures) cut)
    c.in_err-event.ensures)
