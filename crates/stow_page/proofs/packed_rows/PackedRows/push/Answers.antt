use Rattle.std.proofs.Common.{[], ◌∷◌, sym, ◌∙◌}
use Rattle.stow_tree_model.specs.Version.{version_of}
use Rattle.stow_page.proofs.Fields.{unfit}
use Rattle.stow_page.proofs.Formats.{format_of-grown}
use Rattle.stow_page.proofs.packed_rows.PackedRows.push.Goals as goal

pub anew_with-requires-clause-wide : goal.anew_with-requires-clause-wide
anew_with-requires-clause-wide g c =
    format_of-grown c.args.self.now (version_of c.args.version ∷ []) (λ e. unfit _ c.is_same.ensures c.if-not-is_same.true (c.format.ensures ∙ e ∙ sym c.format_with.ensures))
