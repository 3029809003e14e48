use Rattle.std.proofs.Common.{◌∙◌, sym, map, subst}
use Rattle.stow_merge.specs.StowTreeModel.Merged.{merged}
use Rattle.stow_merge.specs.StowTreeModel.TreeMessage.{message_of}
use Rattle.stow_merge.specs.Pages.{ArePagesOf}
use Rattle.stow_merge.specs.Pins.{pins_in}
use Rattle.stow_merge.proofs.StowMessage.Ranges.{filter_rises}
use Rattle.stow_merge.specs.StowMessage.Rising.{is_between}
use Rattle.stow_leaf.specs.LeafRows.{leaf_rows}
use Rattle.stow_leaf.specs.Making.{leaves_from}
use Rattle.stow_leaf.specs.Replacements.{IsReplacement}
use Rattle.stow_leaf.proofs.Fronts.{filled_pages, replacement_is}
use Rattle.stow_leaf.proofs.Steps.{lent_are, if_ok}
use Rattle.stow_leaf.proofs.leaf.Leaf.replacement.Goals as goal

pub merge_into_pages-requires-clause-batch : goal.merge_into_pages-requires-clause-batch
merge_into_pages-requires-clause-batch g c =
    let are = lent_are c.as_slice.result.now c.in_ok-lent.lent.items c.in_range.result c.args.buffer.now.messages c.as_key-low.result.bytes.now c.args.self.now.low c.args.high.bytes.now c.as_slice.ensures.value c.in_ok-lent.ensures c.in_range.ensures.messages c.as_key-low.ensures in
    rw are (filter_rises (is_between c.args.self.now.low c.args.high.bytes.now) c.args.buffer.now.messages c.len-known.ensures.rising)

pub merge_into_pages-requires-clause-values : goal.merge_into_pages-requires-clause-values
merge_into_pages-requires-clause-values g c =
    let are = lent_are c.as_slice.result.now c.in_ok-lent.lent.items c.in_range.result c.args.buffer.now.messages c.as_key-low.result.bytes.now c.args.self.now.low c.args.high.bytes.now c.as_slice.ensures.value c.in_ok-lent.ensures c.in_range.ensures.messages c.as_key-low.ensures in
    rw are c.requires.short

pub leaves_from-requires : goal.leaves_from-requires
leaves_from-requires g c =
    rw c.as_slice-2.ensures.value (filled_pages (merged c.args.self.now.rows (map message_of c.as_slice.result.now) (pins_in c.args.pins.now)) c.args.target c.in_ok-pages.pages.items c.in_ok-pages.ensures)

pub returns : goal.returns
returns g c =
    let are = lent_are c.as_slice.result.now c.in_ok-lent.lent.items c.in_range.result c.args.buffer.now.messages c.as_key-low.result.bytes.now c.args.self.now.low c.args.high.bytes.now c.as_slice.ensures.value c.in_ok-lent.ensures c.in_range.ensures.messages c.as_key-low.ensures in
    if_ok c.leaves_from.result _ _ (λ r made.
    subst (IsReplacement (leaf_rows c.args.self.now) c.args.high.bytes.now c.args.buffer.now.messages (pins_in c.args.pins.now) c.args.target)
    (sym (made ∙ (λ i. leaves_from (c.as_key-low.ensures i) (c.as_slice-2.ensures.value i))))
    (replacement_is (leaf_rows c.args.self.now) c.args.high.bytes.now c.args.buffer.now.messages (pins_in c.args.pins.now) c.args.target c.in_ok-pages.pages.items c.requires
    (subst (λ bs. ArePagesOf (merged c.args.self.now.rows bs (pins_in c.args.pins.now)) c.args.target c.in_ok-pages.pages.items) are c.in_ok-pages.ensures))) c.leaves_from.ensures
