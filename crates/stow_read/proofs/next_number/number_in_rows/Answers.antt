use Rattle.std.proofs.Common.{sym, ◌∙◌, arith}
use Rattle.stow_tree_model.specs.Version.{version_of}
use Rattle.stow_read.proofs.NextNumbers.{row_none, row_next, row_end}
use Rattle.stow_read.proofs.next_number.number_in_rows.Goals as goal

pub returns-then-place-len : goal.returns-then-place-len
returns-then-place-len g c =
    row_none c.args.rows.now c.args.key.bytes.now c.args.at c.count_near-place.result c.count_near-place.ensures
    (let l = c.if-place-len.true in let n = c.len-len.ensures.len in omega (arith, l, n))

pub returns-then-is_same : goal.returns-then-is_same
returns-then-is_same g c =
    row_next c.args.rows.now c.args.key.bytes.now c.args.at c.count_near-place.result (version_of c.get-version.result) c.len-len.ensures.rise c.count_near-place.ensures c.get-version.ensures.version
    (sym c.is_same.ensures ∙ c.if-is_same.true)

pub returns-else-is_same : goal.returns-else-is_same
returns-else-is_same g c =
    row_end c.args.rows.now c.args.key.bytes.now c.args.at c.count_near-place.result (version_of c.get-version.result) c.len-len.ensures.rise c.count_near-place.ensures c.get-version.ensures.version
    (sym c.is_same.ensures ∙ c.if-is_same.false)
