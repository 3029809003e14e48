use Rattle.stow_state.proofs.Changes.{changes_by_rows_law}
use Rattle.stow_state.proofs.laws.changes_by_rows.Goals as goal

pub returns : goal.returns
returns c = changes_by_rows_law
