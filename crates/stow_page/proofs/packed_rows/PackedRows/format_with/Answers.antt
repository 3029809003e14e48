use Rattle.std.proofs.Common.{[], ◌∷◌, sym, ◌∙◌, ap}
use Rattle.stow_tree_model.specs.Version.{version_of}
use Rattle.stow_page.specs.Format.{format_of}
use Rattle.stow_page.specs.Rows.{wider}
use Rattle.stow_page.proofs.Formats.{format_of-append}
use Rattle.stow_page.proofs.packed_rows.PackedRows.format_with.Goals as goal

pub returns : goal.returns
returns g c =
    c.wider.ensures ∙ (λ i. wider ((c.self.invariant.block.is_format ∙ ap format_of c.self.view_is) i) (c.format_of.ensures i))
    ∙ sym (format_of-append c.args.self.now (version_of c.args.version ∷ []))
