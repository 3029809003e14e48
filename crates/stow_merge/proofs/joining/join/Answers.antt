use Rattle.std.proofs.lemmas.Grind.{common_steps}
use Rattle.std.proofs.Common.{◌≡◌, ◌∙◌, [], ◌++◌, drop, sym, subst, map, arith}
use Rattle.std.specs.List.Sorted.{IsStrictlySortedBy}
use Rattle.std.proofs.lemmas.List.{append-nil}
use Rattle.stow_page.specs.StowTreeModel.Order.{place_cmp}
use Rattle.stow_page.specs.StowTreeModel.Merged.{row_message}
use Rattle.stow_page.specs.StowTreeModel.TreeMessage.{message_of}
use Rattle.stow_page.specs.StowTreeModel.Version.{version_of}
use Rattle.stow_page.specs.StowTreeModel.Zipped.{zipped}
use Rattle.stow_page.proofs.StowTreeModel.Merges.{same_places}
use Rattle.stow_page.proofs.StowTreeModel.Zipped.{zipped_in_order}
use Rattle.stow_merge.proofs.Pieces.{drop_past}
use Rattle.stow_merge.proofs.joining.join.Goals as goal

pub returns : goal.returns
returns g c =
    let rows = c.args.rows.now in
    let batch = c.args.batch.now in
    let no_rows : drop c.loop-i.i rows ≡ [] = drop_past rows c.loop-i.i c.if-i-rows.false in
    let no_batch : drop c.loop-i.j batch ≡ [] = drop_past batch c.loop-i.j c.if-j-batch.false in
    sym (append-nil (map message_of c.loop-i.joined.items))
    ∙ sym ((λ k. map message_of c.loop-i.joined.items ++ zipped (map row_message (map version_of (no_rows k))) (map message_of (no_batch k))))
    ∙ c.loop-i.invariant.2
    ∙ zipped_in_order (map row_message (map version_of rows)) (map message_of batch)
    (subst (IsStrictlySortedBy place_cmp) (sym (same_places (map version_of rows))) c.requires.rows) c.requires.batch

pub loop-i-preserved-then-j-batch-2 : goal.loop-i-preserved-then-j-batch-2
loop-i-preserved-then-j-batch-2 g c = grind (arith, common_steps)

pub loop-i-preserved-then-i-rows-2 : goal.loop-i-preserved-then-i-rows-2
loop-i-preserved-then-i-rows-2 g c = grind (arith, common_steps)

pub loop-i-preserved-in-Less : goal.loop-i-preserved-in-Less
loop-i-preserved-in-Less g c = grind (arith, common_steps)

pub loop-i-preserved-in-Equal : goal.loop-i-preserved-in-Equal
loop-i-preserved-in-Equal g c = grind (arith, common_steps)

pub loop-i-preserved : goal.loop-i-preserved
loop-i-preserved g c = grind (arith, common_steps)
