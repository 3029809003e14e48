use Rattle.std.proofs.Common.{length, sym, ◌∙◌, arith}
use Rattle.stow_tree_model.specs.Order.{VersionPlace}
use Rattle.stow_page.proofs.Looked.{IsNarrowed, counted_from, counted_up, counted_all, counted_here}
use Rattle.stow_page.proofs.packed_rows.PackedRows.is_count.Goals as goal
use Rattle.stow_page.proofs.packed_rows.PackedRows.is_count.Goals.{else-count-gt0-via-then-count-gt0+else-stands_above, else-count-gt0-via-else-count-gt0}

pub returns-then-count-len : goal.returns-then-count-len
returns-then-count-len g c =
    let rows = c.args.self.now in let place : VersionPlace = (c.args.key.bytes.now, c.args.number) in
    let from : IsNarrowed rows place 0 (length rows) c.args.count (length rows) = elim c.else-count-gt0.branch [
      | else-count-gt0-via-then-count-gt0+else-stands_above w ↦ counted_up rows place c.args.count _ w.get.ensures.rise c.requires w.if-count-gt0.true w.get.ensures.version (sym w.stands_above.ensures ∙ w.if-stands_above.false)
      | else-count-gt0-via-else-count-gt0 w ↦ counted_from rows place c.args.count c.requires (omega (arith, w.if-count-gt0.false))
    ] in
    λ _. counted_all rows place c.args.count from (c.if-count-len.true ∙ c.len.ensures.len)

pub returns-else-count-len : goal.returns-else-count-len
returns-else-count-len g c =
    let rows = c.args.self.now in let place : VersionPlace = (c.args.key.bytes.now, c.args.number) in
    let from : IsNarrowed rows place 0 (length rows) c.args.count (length rows) = elim c.else-count-gt0.branch [
      | else-count-gt0-via-then-count-gt0+else-stands_above w ↦ counted_up rows place c.args.count _ w.get.ensures.rise c.requires w.if-count-gt0.true w.get.ensures.version (sym w.stands_above.ensures ∙ w.if-stands_above.false)
      | else-count-gt0-via-else-count-gt0 w ↦ counted_from rows place c.args.count c.requires (omega (arith, w.if-count-gt0.false))
    ] in
    λ is. counted_here rows place c.args.count _ c.get-else-count-len.ensures.rise from c.get-else-count-len.ensures.version (sym c.stands_above-else-count-len.ensures ∙ is)
