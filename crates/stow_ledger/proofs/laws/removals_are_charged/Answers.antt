use Rattle.stow_ledger.proofs.WriteLemmas.{removals_are_charged_law}
use Rattle.stow_ledger.proofs.laws.removals_are_charged.Goals as goal

pub returns : goal.returns
returns c = removals_are_charged_law
