use Rattle.std.proofs.Common.{cond, sym, ◌∙◌, ap}
use Rattle.stow_tree_model.specs.Value.{bytes_at}
use Rattle.stow_tree_model.specs.Version.{version_of}
use Rattle.stow_page.specs.Format.{is_long}
use Rattle.stow_page.specs.declared.format.Format.TheVariants.{One, Two}
use Rattle.stow_page.proofs.Formats.{format_of-lone}
use Rattle.stow_page.proofs.entry.format_of.Goals as goal

pub returns-in-None : goal.returns-in-None
returns-in-None c = ap (λ value. cond (is_long (bytes_at value)) Two One) (sym c.in-None.is) ∙ sym (format_of-lone (version_of c.args.version))

pub returns-in-Some : goal.returns-in-Some
returns-in-Some c = c.format_of_length.ensures ∙ ap (λ value. cond (is_long (bytes_at value)) Two One) (sym c.in-Some.is) ∙ sym (format_of-lone (version_of c.args.version))
