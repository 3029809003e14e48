use Rattle.stow_ledger.proofs.HistoryLemmas.{pins_tell_of_writes_law}
use Rattle.stow_ledger.proofs.laws.pins_tell_of_writes.Goals as goal

pub returns : goal.returns
returns c = pins_tell_of_writes_law
