use Rattle.std.proofs.Common.{arith}
use Rattle.std.proofs.lemmas.Grind.{common_steps}
use Rattle.stow_page.proofs.packed_rows.PackedRows.len.Goals as goal

pub returns-clause-len : goal.returns-clause-len
returns-clause-len g c = grind (arith, common_steps)
