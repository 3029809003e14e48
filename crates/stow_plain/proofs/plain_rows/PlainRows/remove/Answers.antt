use Rattle.std.proofs.Common.{ap, ◌∙◌}
use Rattle.std.specs.FinMap as map
use Rattle.stow_plain.proofs.Mapped.{remove-rows}
use Rattle.stow_plain.proofs.plain_rows.PlainRows.remove.Goals as goal

pub returns : goal.returns
returns g c =
    let updates = c.remove-removed.ensures.updates in
    remove-rows (λ k. k.items) c.args.key.now c.self.inside.rows.entries c.remove-removed.new.self.entries updates.1 updates.3
    ∙ ap (λ r. map.remove r c.args.key.now) c.self.view_is
