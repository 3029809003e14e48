use Rattle.std.proofs.Common.{arith}
use Rattle.stow_page.proofs.Anew.{none_appended, more_appended, appended_low}
use Rattle.stow_page.proofs.packed_rows.append_all.Goals as goal

pub loop-index-init : goal.loop-index-init
loop-index-init g c = none_appended c.args.bytes.now.items c.args.places.now.items c.args.rows.now

pub append_placed-requires-clause-low : goal.append_placed-requires-clause-low
append_placed-requires-clause-low g c = appended_low _ _ c.args.rows.now _ _ _ c.loop-index.invariant c.requires

pub loop-index-preserved : goal.loop-index-preserved
loop-index-preserved g c =
    let len = c.len-index-end.ensures.len in
    more_appended _ _ c.args.rows.now _ _ _ _ c.loop-index.index _ c.loop-index.invariant (let low = c.loop-index-test.true in omega arith) c.get.ensures.version c.in_ok-append_placed.ensures.bytes c.in_ok-append_placed.ensures.places
