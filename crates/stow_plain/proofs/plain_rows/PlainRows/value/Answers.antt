use Rattle.std.proofs.Common.{ap, ◌∙◌, Some, None}
use Rattle.stow_plain.proofs.Mapped.{value-rows}
use Rattle.stow_plain.proofs.plain_rows.PlainRows.value.Goals as goal

pub returns-in-None : goal.returns-in-None
returns-in-None g c = value-rows (λ k. k.items) c.args.key.now c.self.inside.rows.entries c.args.self.now None c.self.view_is c.in-None.ensures.value

pub returns-in-Some : goal.returns-in-Some
returns-in-Some g c =
    ap Some c.as_slice.ensures
    ∙ value-rows (λ k. k.items) c.args.key.now c.self.inside.rows.entries c.args.self.now (Some c.in-Some.version.now) c.self.view_is c.in-Some.ensures.value
