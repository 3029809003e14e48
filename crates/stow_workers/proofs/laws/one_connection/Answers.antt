use Rattle.stow_workers.proofs.OneConnection.{one_connection_lem}
use Rattle.stow_workers.proofs.laws.one_connection.Goals as goal

pub returns : goal.returns
returns c = one_connection_lem
