use Rattle.std.proofs.Common.{List, ap, subst, ◌∙◌, map}
use Rattle.stow_merge.specs.Pages.{ArePagesOf}
use Rattle.stow_merge.specs.Pins.{pins_in}
use Rattle.stow_page.specs.StowTreeModel.Merged.{merged}
use Rattle.stow_page.specs.StowTreeModel.TreeMessage.{TreeMessage, message_of}
use Rattle.std.specs.Result.{IfOk}
use Rattle.stow_merge.proofs.flush_job.FlushJob.pages.Goals as goal

pub returns : goal.returns
returns g c =
    let job = c.args.self.now in
    subst (λ (ms : List TreeMessage). IfOk c.merge_into_pages.result (λ pages. ArePagesOf (merged job.page ms (pins_in job.pins)) job.target.leaf_target pages.items))
    (ap (map message_of) c.as_slice.ensures.value ∙ c.in_ok-batch.ensures.all) c.merge_into_pages.ensures
