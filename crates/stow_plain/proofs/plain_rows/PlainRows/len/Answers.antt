use Rattle.std.proofs.Common.{ap, sym, ◌∙◌}
use Rattle.std.specs.FinMap as map
use Rattle.stow_plain.proofs.Mapped.{len-rows}
use Rattle.stow_plain.proofs.plain_rows.PlainRows.len.Goals as goal

pub returns-clause-len : goal.returns-clause-len
returns-clause-len g c = c.len.ensures.len ∙ sym (len-rows (λ k. k.items) c.self.inside.rows.entries c.len.ensures.ordered) ∙ ap map.len c.self.view_is
