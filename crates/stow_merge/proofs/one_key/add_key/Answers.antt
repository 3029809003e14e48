use Rattle.stow_page.specs.StowTreeModel.Version.{version_of}
use Rattle.stow_merge.proofs.OneKeyLemmas.{none_rise, one_rises}
use Rattle.stow_merge.proofs.one_key.add_key.Goals as goal

pub add_survey-requires-clause-rows : goal.add_survey-requires-clause-rows
add_survey-requires-clause-rows g c = none_rise

pub add_survey-requires-in-Some-row-clause-rows : goal.add_survey-requires-in-Some-row-clause-rows
add_survey-requires-in-Some-row-clause-rows g c = one_rises (version_of c.in-Some-row.row)
