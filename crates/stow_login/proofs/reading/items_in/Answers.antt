use Rattle.std.proofs.lemmas.Grind.{common_steps}
use Rattle.std.proofs.Common.{refl, sym, ◌∙◌, arith}
use mathlib.Core.Bool.{false≢true}
use Rattle.toml.specs.View.{table_view}
use Rattle.stow_login.proofs.Shapes.{size_of_table, items_of_one, items_of_more, ok_items, err_items}
use Rattle.stow_login.proofs.reading.items_in.Goals as goal

pub returns-then-len-eq1-clause-ok : goal.returns-then-len-eq1-clause-ok
returns-then-len-eq1-clause-ok c =
    let table = table_view c.args.table.now in
    let one = size_of_table c.args.table.now ∙ sym c.len.ensures.len ∙ c.if-len-eq1.true in
    rw c.ok_or.ensures.value (ok_items table c.tables_at.result _ c.tables_at.ensures (items_of_one table _ one refl))

pub returns-then-len-eq1-clause-err : goal.returns-then-len-eq1-clause-err
returns-then-len-eq1-clause-err c =
    let table = table_view c.args.table.now in
    let one = size_of_table c.args.table.now ∙ sym c.len.ensures.len ∙ c.if-len-eq1.true in
    rw c.ok_or.ensures.value (err_items table c.tables_at.result _ c.tables_at.ensures (items_of_one table _ one refl))

pub returns-else-len-eq1-clause-err : goal.returns-else-len-eq1-clause-err
returns-else-len-eq1-clause-err c =
    let same = size_of_table c.args.table.now in
    items_of_more (table_view c.args.table.now) (λ none. false≢true (c.if-is_empty.ensures.1 (sym same ∙ none))) (λ one. c.if-len-eq1.false (c.len.ensures.len ∙ sym same ∙ one))

pub returns-then-is_empty-clause-err : goal.returns-then-is_empty-clause-err
returns-then-is_empty-clause-err c = grind (arith, common_steps)
