use Rattle.stow_state.proofs.Changes.{changes_once_law}
use Rattle.stow_state.proofs.laws.changes_once.Goals as goal

pub returns : goal.returns
returns c = changes_once_law
