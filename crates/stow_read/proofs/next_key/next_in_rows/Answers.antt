use Rattle.std.proofs.Common.{sym, ◌∙◌, subst, arith}
use Rattle.stow_tree_model.specs.Version.{version_of}
use Rattle.stow_node.specs.StowPage.Rows.{IsCountUpTo}
use Rattle.stow_read.proofs.NextRows.{rows_none, rows_next, rows_end}
use Rattle.stow_read.proofs.next_key.next_in_rows.Goals as goal

pub returns-then-at-len : goal.returns-then-at-len
returns-then-at-len g c =
    rows_none c.args.rows.now c.args.start.key.bytes.now c.args.start.after c.args.to.bytes.now c.count_near-at.result c.len-len.ensures.versions
    (subst (λ n. IsCountUpTo c.args.rows.now (c.args.start.key.bytes.now, n) c.count_near-at.result) c.passed_number.ensures c.count_near-at.ensures)
    (let l = c.if-at-len.true in let n = c.len-len.ensures.len in omega (arith, l, n))

pub returns-then-is_below : goal.returns-then-is_below
returns-then-is_below g c =
    rows_next c.args.rows.now c.args.start.key.bytes.now c.args.start.after c.args.to.bytes.now c.count_near-at.result (version_of c.get.result) c.len-len.ensures.versions c.len-len.ensures.rise
    (subst (λ n. IsCountUpTo c.args.rows.now (c.args.start.key.bytes.now, n) c.count_near-at.result) c.passed_number.ensures c.count_near-at.ensures)
    c.get.ensures.version (sym c.is_below.ensures ∙ c.if-is_below.true)

pub returns-else-is_below : goal.returns-else-is_below
returns-else-is_below g c =
    rows_end c.args.rows.now c.args.start.key.bytes.now c.args.start.after c.args.to.bytes.now c.count_near-at.result (version_of c.get.result) c.len-len.ensures.versions c.len-len.ensures.rise
    (subst (λ n. IsCountUpTo c.args.rows.now (c.args.start.key.bytes.now, n) c.count_near-at.result) c.passed_number.ensures c.count_near-at.ensures)
    c.get.ensures.version (sym c.is_below.ensures ∙ c.if-is_below.false)
