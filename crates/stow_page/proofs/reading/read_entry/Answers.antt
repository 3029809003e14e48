use Rattle.std.proofs.Common.{arith}
use Rattle.std.proofs.lemmas.Grind.{common_steps}
use Rattle.stow_page.proofs.Fields.{entry_is_read}
use Rattle.stow_page.proofs.reading.read_entry.Goals as goal

pub returns-clause-ok : goal.returns-clause-ok
returns-clause-ok c = entry_is_read c.args.format _ _ _ _ _ c.in_ok-key.ensures.ok.0 c.in_ok-number.ensures.ok.0 c.in_ok-value.ensures.ok.0

pub returns-in_err-value-clause-err : goal.returns-in_err-value-clause-err
returns-in_err-value-clause-err c = grind (arith, common_steps)
