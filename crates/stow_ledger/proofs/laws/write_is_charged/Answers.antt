use Rattle.stow_ledger.proofs.WriteLemmas.{write_is_charged_law}
use Rattle.stow_ledger.proofs.laws.write_is_charged.Goals as goal

pub returns : goal.returns
returns c = write_is_charged_law
