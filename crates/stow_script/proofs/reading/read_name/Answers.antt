use Rattle.std.proofs.Common.{Some, subst}
use Rattle.stow_script.specs.Read.{IsCut}
use Rattle.stow_script.proofs.Lines.{two_fields}
use Rattle.stow_script.proofs.reading.read_name.Goals as goal

pub returns-in_default-Some : goal.returns-in_default-Some
returns-in_default-Some g c =
    let text = c.args.text.now in
    two_fields c.args.tenants.now text c.cut.result.0.now c.in_default-Some.field-0-1 (subst (IsCut 32 text c.cut.result.0.now) c.in_default-Some.is-1 c.cut.ensures)
