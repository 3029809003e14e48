use Rattle.stow_ledger.proofs.TreeHistory.{rows_are_history_law}
use Rattle.stow_ledger.proofs.laws.rows_are_history.Goals as goal

pub returns : goal.returns
returns c = rows_are_history_law
