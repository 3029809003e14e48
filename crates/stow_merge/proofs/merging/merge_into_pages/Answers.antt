use Rattle.std.proofs.Common.{◌≡◌, ◌∙◌, map, ap, sym, subst}
use Rattle.stow_page.specs.StowTreeModel.Merged.{merged, rows_set}
use Rattle.stow_page.specs.StowTreeModel.Messages.{with_all}
use Rattle.stow_page.specs.StowTreeModel.TreeMessage.{message_of}
use Rattle.stow_page.specs.StowTreeModel.Version.{version_of}
use Rattle.stow_merge.specs.Pins.{pins_in}
use Rattle.stow_merge.specs.Writing.{CanMerge, versions_in}
use Rattle.stow_merge.proofs.FewLemmas.{can_merge}
use Rattle.stow_merge.proofs.merging.merge_into_pages.Goals as goal

pub paged-requires : goal.paged-requires
paged-requires g c =
    let rows = c.args.rows.now in
    let batch = map message_of c.args.batch.now in
    let pins = pins_in c.args.pins.now in
    let survey = c.in_ok-survey.survey in
    let lent : map version_of c.as_slice.result.now ≡ rows = ap (map version_of) c.as_slice.ensures.value ∙ c.in_ok-lent.ensures.all in
    let kept : versions_in survey survey.kept.items ≡ merged rows batch pins = c.in_ok-survey.ensures ∙ ap (λ vs. merged vs batch pins) lent in
    subst CanMerge (sym kept) (can_merge pins (with_all (rows_set rows) batch) c.args.pins.now.few c.requires.values)
