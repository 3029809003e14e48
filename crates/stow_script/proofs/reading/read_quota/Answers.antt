use Rattle.std.proofs.Common.{◌≡◌, None, Some, subst}
use Rattle.std.specs.Prelude.{codes}
use Rattle.stow_commands.specs.StowBytes.Limits.{number_limit}
use Rattle.stow_login.specs.Entries.{index_named}
use Rattle.stow_script.specs.Read.{IsCut, IsNoEvent, IsNoNumberText}
use Rattle.stow_script.proofs.Lines.{bad_name, bad_quota, event_fault, fault_so, index_fault, no_number_text, number_fault}
use Rattle.stow_script.proofs.reading.read_quota.Goals as goal

pub returns-in_default : goal.returns-in_default
returns-in_default g c =
    let rest = c.args.rest.now in
    no_number_text c.args.tenants.now rest c.cut.result.0.now (subst (IsCut 32 rest c.cut.result.0.now) c.in_default.is c.cut.ensures)

pub returns-in_err-tenant : goal.returns-in_err-tenant
returns-in_err-tenant g c =
    let entries = c.args.tenants.now in
    let rest = c.args.rest.now in
    let first = c.cut.result.0.now in
    let fault = c.in_err-tenant.field-0.0 in
    let cut : IsCut 32 rest first (Some c.in-Some.number_text) = subst (IsCut 32 rest first) c.in-Some.is c.cut.ensures in
    event_fault entries (codes "quota") rest c.from_residual.result fault c.from_residual.ensures.1
    (fault_so (index_named entries first ≡ None) (IsNoEvent entries (codes "quota") rest) fault
    (bad_name entries rest first c.in-Some.number_text cut)
    (index_fault entries first fault c.in_err-tenant.ensures))

pub returns-in_err-quota : goal.returns-in_err-quota
returns-in_err-quota g c =
    let entries = c.args.tenants.now in
    let rest = c.args.rest.now in
    let first = c.cut.result.0.now in
    let fault = c.in_err-quota.field-0.0 in
    let cut : IsCut 32 rest first (Some c.in-Some.number_text) = subst (IsCut 32 rest first) c.in-Some.is c.cut.ensures in
    event_fault entries (codes "quota") rest c.from_residual-in_err-quota.result fault c.from_residual-in_err-quota.ensures.1
    (fault_so (IsNoNumberText 0 number_limit c.in-Some.number_text.now) (IsNoEvent entries (codes "quota") rest) fault
    (bad_quota entries rest first c.in-Some.number_text cut)
    (number_fault 0 number_limit c.in-Some.number_text.now fault c.in_err-quota.ensures))
