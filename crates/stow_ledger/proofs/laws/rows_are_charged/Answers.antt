use Rattle.stow_ledger.proofs.HistoryLemmas.{rows_are_charged_law}
use Rattle.stow_ledger.proofs.laws.rows_are_charged.Goals as goal

pub returns : goal.returns
returns c = rows_are_charged_law
