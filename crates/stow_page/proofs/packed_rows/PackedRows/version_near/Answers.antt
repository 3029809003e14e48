use Rattle.std.proofs.Common.{sym, ◌∙◌, arith}
use Rattle.stow_page.proofs.Looked.{found_none, found_it, found_other}
use Rattle.stow_page.proofs.packed_rows.PackedRows.version_near.Goals as goal

pub returns-then-count-eq0 : goal.returns-then-count-eq0
returns-then-count-eq0 g c = sym (found_none _ _ _ _ c.count_near-count.ensures c.if-count-eq0.true)

pub returns-then-is_up_to : goal.returns-then-is_up_to
returns-then-is_up_to g c = sym (found_it _ _ _ _ _ _ c.count_near-count.ensures (omega arith) c.get-version.ensures.version (sym c.is_up_to.ensures ∙ c.if-is_up_to.true))

pub returns-else-is_up_to : goal.returns-else-is_up_to
returns-else-is_up_to g c =
    sym (found_other _ _ _ _ _ _ c.get-version.ensures.rise c.count_near-count.ensures (omega arith) c.get-version.ensures.version (sym c.is_up_to.ensures ∙ c.if-is_up_to.false))
