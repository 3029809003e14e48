use Rattle.std.proofs.Common.{sym, ◌∙◌}
use Rattle.stow_page.proofs.Fields.{unfit}
use Rattle.stow_page.proofs.Formats.{format_of-mixed}
use Rattle.stow_page.proofs.packed_rows.PackedRows.joined.Goals as goal

pub joined_anew-requires-clause-wide : goal.joined_anew-requires-clause-wide
joined_anew-requires-clause-wide g c =
    format_of-mixed c.args.lower.now c.args.upper.now (λ e. unfit _ c.is_same.ensures c.if-is_same.false (c.format.ensures ∙ e ∙ sym c.format-2.ensures))
