use Rattle.stow_ledger.proofs.KeptLemmas.{commit_is_charged_law}
use Rattle.stow_ledger.proofs.laws.commit_is_charged.Goals as goal

pub returns : goal.returns
returns c = commit_is_charged_law
