use Rattle.stow_page.proofs.Sizes.{IsSummed}
use Rattle.stow_page.proofs.packed_rows.PackedRows.len_in.Given as goal

abbrev pub invariant-loop-index : goal.invariant-loop-index
invariant-loop-index g l = IsSummed l.format l.self l.index l.len
