use Rattle.std.proofs.Common.{ap, ◌∙◌, subst, map, ◌++◌}
use Rattle.std.specs.List.{AllByRecursion, flat_map}
use Rattle.stow_tree_model.specs.Intervals.{IsWholeKey}
use Rattle.stow_core.specs.Ends.{row_bulks}
use Rattle.stow_dropping.specs.StowRead.Range.{key_value}
use Rattle.stow_core.proofs.Tenancies.{take_all}
use Rattle.stow_core.proofs.Told.{one_more_told, keys_of}
use Rattle.stow_core.proofs.ranging.items_of.Goals as goal

pub loop-index-preserved : goal.loop-index-preserved
loop-index-preserved g c =
    one_more_told c.args.rows.now c.loop-index.index c.index-rows-index.result c.loop-index.items c.push_row.new.items c.loop-index-test.true c.index-rows-index.is c.loop-index.invariant
    (c.in_ok-push_row.ensures.items ∙ ap (λ value. c.loop-index.items ++ row_bulks (c.index-rows-index.result.key.bytes.now, value)) c.bytes.ensures)
    (c.index-rows-index.result.key.is_key, c.in_ok-push_row.ensures.bytes)

pub returns-clause-items : goal.returns-clause-items
returns-clause-items g c = c.loop-index.invariant.so_far ∙ ap (λ rows. flat_map row_bulks (map key_value rows)) (take_all c.args.rows.now c.loop-index.index c.loop-index-test.false)

pub returns-clause-keys : goal.returns-clause-keys
returns-clause-keys g c = subst (λ rows. AllByRecursion IsWholeKey (keys_of rows)) (take_all c.args.rows.now c.loop-index.index c.loop-index-test.false) c.loop-index.invariant.keys
