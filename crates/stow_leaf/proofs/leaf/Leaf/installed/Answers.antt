use Rattle.std.proofs.Common.{◌∙◌, sym, subst}
use Rattle.stow_merge.specs.FlushJobs.{merged_by}
use Rattle.stow_leaf.specs.LeafRows.{leaf_rows}
use Rattle.stow_leaf.specs.Making.{leaves_from}
use Rattle.stow_leaf.specs.Replacements.{TakePlace}
use Rattle.stow_leaf.proofs.Fronts.{filled_pages, job_takes_place}
use Rattle.stow_leaf.proofs.Steps.{if_ok}
use Rattle.stow_leaf.proofs.leaf.Leaf.installed.Goals as goal

pub leaves_from-requires : goal.leaves_from-requires
leaves_from-requires g c =
    let merge = c.args.merge.now in
    rw c.as_slice.ensures.value (filled_pages (merged_by merge.job) merge.job.target.leaf_target merge.pages.items merge.are_merged)

pub returns : goal.returns
returns g c =
    let merge = c.args.merge.now in
    let leaf = leaf_rows c.args.self.now in
    if_ok c.leaves_from.result _ _ (λ r made high present is_job.
    subst (TakePlace leaf high merge.job.batch.messages present merge.job.target.leaf_target)
    (sym (made ∙ (λ i. leaves_from (c.as_key.ensures i) (c.as_slice.ensures.value i))))
    (job_takes_place leaf high present merge.job merge.pages.items is_job merge.are_merged)) c.leaves_from.ensures
