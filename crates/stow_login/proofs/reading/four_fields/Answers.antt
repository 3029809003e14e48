use Rattle.std.proofs.Common.{option_map, ap, sym, ◌∙◌}
use Rattle.toml.specs.View.{view, table_view}
use Rattle.stow_login.proofs.Shapes.{size_of_table, four_of, others_of, no_table}
use Rattle.stow_login.proofs.reading.four_fields.Goals as goal
use Rattle.stow_login.proofs.reading.four_fields.Goals.{in_default-via-in-Some+else-len-eq-FIELDS, in_default-via-in_default}

pub returns-in-Some : goal.returns-in-Some
returns-in-Some c =
    four_of (table_view c.in-Some.table.now) (view c.args.value.now)
    (ap (option_map (λ table. table_view table.now)) (sym c.in-Some.is) ∙ c.as_table.ensures)
    (size_of_table c.in-Some.table.now ∙ sym c.len.ensures.len ∙ c.if-len-eq-FIELDS.true)

pub returns-in_default : goal.returns-in_default
returns-in_default c =
    elim c.in_default.branch [
      | in_default-via-in-Some+else-len-eq-FIELDS w ↦
          others_of (table_view w.in-Some.table.now) (view c.args.value.now)
          (ap (option_map (λ table. table_view table.now)) (sym w.in-Some.is) ∙ c.as_table.ensures)
          (λ four. w.if-len-eq-FIELDS.false (w.len.ensures.len ∙ sym (size_of_table w.in-Some.table.now) ∙ four))
      | in_default-via-in_default w ↦ no_table (view c.args.value.now) (ap (option_map (λ table. table_view table.now)) (sym w.in_default.is) ∙ c.as_table.ensures)
    ]
