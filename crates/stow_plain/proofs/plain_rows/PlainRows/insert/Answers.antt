use Rattle.std.proofs.Common.{ap, ◌∙◌}
use Rattle.std.specs.FinMap as map
use Rattle.stow_plain.specs.PlainMap.{rows_of}
use Rattle.stow_plain.proofs.Mapped.{insert-rows}
use Rattle.stow_plain.proofs.plain_rows.PlainRows.insert.Goals as goal

pub returns-clause-ok : goal.returns-clause-ok
returns-clause-ok g c =
    let k = c.in_ok-key.key in
    let es = c.self.inside.rows.entries in
    ap (rows_of (λ k. k.items)) c.in_ok-insert.ensures.entries
    ∙ insert-rows (λ k. k.items) k (record { number = c.args.number; value = c.in_ok-from_slice.field-0 }) es
    ∙ (λ i. map.insert (c.self.view_is i) (c.in_ok-key.ensures.items i) (record { number = c.args.number; value = c.in_ok-from_slice.ensures i }))
