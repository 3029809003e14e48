use Rattle.stow_ledger.proofs.KeptLemmas.{present_is_charged_law}
use Rattle.stow_ledger.proofs.laws.present_is_charged.Goals as goal

pub returns : goal.returns
returns c = present_is_charged_law
