use Rattle.stow_ledger.proofs.HistoryLemmas.{next_is_new_law}
use Rattle.stow_ledger.proofs.laws.next_is_new.Goals as goal

pub returns : goal.returns
returns c = next_is_new_law
