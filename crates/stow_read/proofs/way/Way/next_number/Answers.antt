use Rattle.std.proofs.Common.{◌≡◌, length, ap, ◌∙◌, sym, subst, arith}
use Rattle.std.specs.Prelude.{not}
use Rattle.stow_read.specs.Way.{row_ops}
use Rattle.stow_read.proofs.NextNumbers.{IsNextFrom, next_from_rows, up_kept, up_none}
use Rattle.stow_read.proofs.way.Way.next_number.Goals as goal
use Rattle.stow_read.proofs.way.Way.next_number.Goals.{else-is_none-via-then-is_none+else-is_next, else-is_none-via-else-is_none}

pub loop-i-init : goal.loop-i-init
loop-i-init g c =
    let levels = c.args.self.now.levels in
    let count : length levels.items ≡ c.len-i.result = (let n = c.len-i.ensures in let o = levels.ok.0 in omega (arith, n, o)) in
    subst (λ i. IsNextFrom levels.items (row_ops c.args.self.now c.args.key.bytes.now) c.args.key.bytes.now c.args.at i c.next_row_number-next.result) count
    (next_from_rows levels.items (row_ops c.args.self.now c.args.key.bytes.now) c.args.key.bytes.now c.args.at c.next_row_number-next.result c.next_row_number-next.ensures)

pub loop-i-preserved : goal.loop-i-preserved
loop-i-preserved g c =
    let levels = c.args.self.now.levels.items in
    let key = c.args.key.bytes.now in
    elim c.else-is_none.branch [
      | else-is_none-via-then-is_none+else-is_next w ↦ up_none levels (row_ops c.args.self.now key) key c.args.at c.loop-i.i c.loop-i.next c.index-level.result.now c.loop-i-test.true c.index-level.ensures c.requires.levels (sym w.is_next.ensures ∙ w.if-is_next.false) (c.is_none.ensures ∙ ap not w.if-is_none.true) c.loop-i.invariant
      | else-is_none-via-else-is_none w ↦ up_kept levels (row_ops c.args.self.now key) key c.args.at c.loop-i.i c.loop-i.next c.index-level.result.now c.loop-i-test.true c.index-level.ensures c.requires.newer (c.is_none.ensures ∙ ap not w.if-is_none.false) c.loop-i.invariant
    ]
