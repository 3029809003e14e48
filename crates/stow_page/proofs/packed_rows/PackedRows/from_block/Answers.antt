use Rattle.std.proofs.Common.{ap, length}
use Rattle.stow_page.proofs.Marked.{none_marked, not_known}
use Rattle.stow_page.proofs.packed_rows.PackedRows.from_block.Goals as goal

pub invariant_of-result : goal.invariant_of-result
invariant_of-result g c = record { block = c.requires; covers = none_marked _ _ (ap length c.none.ensures); alone = not_known }
