use Rattle.stow_ledger.proofs.KeptLemmas.{new_account_is_empty_law}
use Rattle.stow_ledger.proofs.laws.new_account_is_empty.Goals as goal

pub returns : goal.returns
returns c = new_account_is_empty_law
