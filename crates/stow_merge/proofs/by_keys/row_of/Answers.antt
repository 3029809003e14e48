use Rattle.std.proofs.Common.{sym, ◌∙◌, arith}
use Rattle.stow_page.specs.StowTreeModel.Version.{version_of}
use Rattle.stow_merge.proofs.OneKeyLemmas.{row_past, one_row, other_row}
use Rattle.stow_merge.proofs.by_keys.row_of.Goals as goal

pub returns-then-index-len : goal.returns-then-index-len
returns-then-index-len g c = row_past c.args.rows.now c.args.index c.args.key.bytes.now (let l = c.len.ensures.len in let past = c.if-index-len.true in omega (arith, l, past))

pub returns-then-is_same : goal.returns-then-is_same
returns-then-is_same g c = one_row c.args.rows.now c.args.index (version_of c.get-row.result) c.args.key.bytes.now c.get-row.ensures.version (sym c.is_same.ensures ∙ c.if-is_same.true)

pub returns-else-is_same : goal.returns-else-is_same
returns-else-is_same g c = other_row c.args.rows.now c.args.index (version_of c.get-row.result) c.args.key.bytes.now c.get-row.ensures.version (sym c.is_same.ensures ∙ c.if-is_same.false)
