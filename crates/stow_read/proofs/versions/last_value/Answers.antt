use Rattle.std.proofs.Common.{Some, ap, ◌∙◌, sym}
use Rattle.std.specs.Option.{option_copied}
use Rattle.stow_tree_model.specs.VersionBuf.{version_of_buf}
use Rattle.stow_node.specs.StowPage.Rows.{value_in_version}
use Rattle.stow_read.proofs.Versioned.{last_is}
use Rattle.stow_read.proofs.versions.last_value.Goals as goal

pub returns-in-None : goal.returns-in-None
returns-in-None g c =
    sym (ap value_in_version (last_is version_of_buf c.args.versions.now c.in_ok-last.last.now (sym c.last.ensures.value ∙ ap option_copied c.in_ok-last.was)) ∙ c.in-None.is)

pub returns-in-Some : goal.returns-in-Some
returns-in-Some g c =
    ap Some c.as_slice.ensures
    ∙ sym (ap value_in_version (last_is version_of_buf c.args.versions.now c.in_ok-last.last.now (sym c.last.ensures.value ∙ ap option_copied c.in_ok-last.was)) ∙ c.in-Some.is)
