use Rattle.std.proofs.Common.{◌∙◌, ap, map}
use Rattle.stow_page.specs.StowTreeModel.TreeMessage.{message_of}
use Rattle.stow_page.proofs.StowTreeModel.Readings.{rises-in_order}
use Rattle.stow_merge.proofs.survey.survey_of.Goals as goal

pub keep-requires : goal.keep-requires
keep-requires g c = rises-in_order _ _ (ap (map message_of) c.as_slice.ensures.value ∙ c.in_ok-joined.ensures)
