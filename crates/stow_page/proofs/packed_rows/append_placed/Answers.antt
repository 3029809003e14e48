use Rattle.std.proofs.Common.{arith}
use Rattle.std.proofs.lemmas.Grind.{common_steps}
use Rattle.stow_page.proofs.packed_rows.append_placed.Goals as goal

pub returns-then-is_err-clause-bytes_stay : goal.returns-then-is_err-clause-bytes_stay
returns-then-is_err-clause-bytes_stay g c = grind (arith, common_steps)
