use Rattle.stow_state.proofs.Changes.{writes_by_messages_law}
use Rattle.stow_state.proofs.laws.writes_by_messages.Goals as goal

pub returns : goal.returns
returns c = writes_by_messages_law
