use Rattle.stow_ledger.proofs.KeptLemmas.{take_is_free_law}
use Rattle.stow_ledger.proofs.laws.take_is_free.Goals as goal

pub returns : goal.returns
returns c = take_is_free_law
