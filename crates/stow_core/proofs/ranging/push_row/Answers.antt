use Rattle.std.proofs.Common.{arith}
use Rattle.std.proofs.lemmas.Grind.{elements, common_steps}
use Rattle.stow_core.proofs.Told.{all_bytes}
use Rattle.stow_core.proofs.ranging.push_row.Goals as goal

pub returns-clause-bytes : goal.returns-clause-bytes
returns-clause-bytes g c = all_bytes c.args.key.now (λ i. (c.type_inv.key i).fits)

pub returns-in_err-push_bulk-clause-bytes : goal.returns-in_err-push_bulk-clause-bytes
returns-in_err-push_bulk-clause-bytes g c = grind (arith, elements)

pub returns-clause-items : goal.returns-clause-items
returns-clause-items g c = grind (arith, common_steps)
