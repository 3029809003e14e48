use Rattle.std.proofs.lemmas.Grind.{elements}
use Rattle.std.proofs.Common.{sym, ◌∙◌, arith}
use Rattle.stow_page.proofs.Looked.{narrowed_down, narrowed_up}
use Rattle.stow_page.proofs.packed_rows.PackedRows.count_between.Goals as goal

pub loop-low-preserved-then-stands_above : goal.loop-low-preserved-then-stands_above
loop-low-preserved-then-stands_above g c =
    narrowed_down _ _ _ _ _ _ _ _ c.get.ensures.rise c.loop-low.invariant (omega arith) (omega arith) c.get.ensures.version (sym c.stands_above.ensures ∙ c.if-stands_above.true)

pub loop-low-preserved : goal.loop-low-preserved
loop-low-preserved g c =
    narrowed_up _ _ _ _ _ _ _ _ c.get.ensures.rise c.loop-low.invariant (omega arith) (omega arith) c.get.ensures.version (sym c.stands_above.ensures ∙ c.if-stands_above.false)

pub loop-low-init : goal.loop-low-init
loop-low-init g c = grind (arith, elements)
