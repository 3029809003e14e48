use Rattle.stow_ledger.proofs.DropLemmas.{drop_is_charged_law}
use Rattle.stow_ledger.proofs.laws.drop_is_charged.Goals as goal

pub returns : goal.returns
returns c = drop_is_charged_law
