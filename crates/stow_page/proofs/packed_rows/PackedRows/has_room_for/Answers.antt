use Rattle.std.proofs.Common.{◌≡◌, ◌+◌, ◌<◌, ◌^◌, ◌++◌, ◌∷◌, [], length, subst, sym, ◌∙◌}
use Rattle.std.proofs.lemmas.Bool.{lt-ltb, ltb-true}
use Rattle.stow_tree_model.specs.Version.{version_of}
use Rattle.stow_page.specs.Format.{packed_page}
use Rattle.stow_page.proofs.Sizes.{length-with}
use Rattle.stow_page.proofs.packed_rows.PackedRows.has_room_for.Goals as goal

pub returns : goal.returns
returns g c =
    let size : c.len_in.result + c.entry_size.result ≡ length (packed_page (c.args.self.now ++ version_of c.args.version ∷ [])) =
    (λ i. c.len_in.ensures.len i + c.entry_size.ensures.size i)
    ∙ length-with c.format_with-format.result c.args.self.now (version_of c.args.version) c.format_with-format.ensures in
    (λ t. subst (λ n. n < 2 ^ 32) size (ltb-true _ _ t), λ low. lt-ltb _ _ (subst (λ n. n < 2 ^ 32) (sym size) low))
