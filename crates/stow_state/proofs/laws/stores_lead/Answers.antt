use Rattle.stow_state.proofs.Steps.{stores_lead_law}
use Rattle.stow_state.proofs.laws.stores_lead.Goals as goal

pub returns : goal.returns
returns c = stores_lead_law
