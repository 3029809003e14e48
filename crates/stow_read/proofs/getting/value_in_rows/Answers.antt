use Rattle.std.proofs.Common.{ap, ◌∙◌, sym}
use Rattle.std.specs.Option.{option_map}
use Rattle.stow_tree_model.specs.Operations.{numbered}
use Rattle.stow_tree_model.specs.Value.{bytes_at}
use Rattle.stow_tree_model.specs.Version.{version_of}
use Rattle.stow_read.specs.Found.{lent_of}
use Rattle.stow_read.specs.Shown.{value_shown}
use Rattle.stow_read.proofs.Shown.{rows_show}
use Rattle.stow_read.proofs.getting.value_in_rows.Goals as goal

pub returns-in_err-version : goal.returns-in_err-version
returns-in_err-version g c =
    ap (option_map lent_of) c.from_residual.ensures
    ∙ ap value_shown (ap (option_map version_of) (sym c.in_err-version.was) ∙ c.version_at.ensures)
    ∙ rows_show c.args.rows.now c.args.key.bytes.now c.args.at c.len-known.ensures.rise

pub returns-in_err-value : goal.returns-in_err-value
returns-in_err-value g c =
    ap (option_map lent_of) c.from_residual-in_err-value.ensures
    ∙ ap (λ v. numbered c.in_ok-version.version.number (bytes_at v)) (sym c.in_err-value.was)
    ∙ ap value_shown (ap (option_map version_of) (sym c.in_ok-version.was) ∙ c.version_at.ensures)
    ∙ rows_show c.args.rows.now c.args.key.bytes.now c.args.at c.len-known.ensures.rise

pub returns : goal.returns
returns g c =
    ap (λ v. numbered c.in_ok-version.version.number (bytes_at v)) (sym c.in_ok-value.was)
    ∙ ap value_shown (ap (option_map version_of) (sym c.in_ok-version.was) ∙ c.version_at.ensures)
    ∙ rows_show c.args.rows.now c.args.key.bytes.now c.args.at c.len-known.ensures.rise
