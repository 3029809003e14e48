use Rattle.stow_ledger.proofs.KeptLemmas.{report_is_usage_law}
use Rattle.stow_ledger.proofs.laws.report_is_usage.Goals as goal

pub returns : goal.returns
returns c = report_is_usage_law
