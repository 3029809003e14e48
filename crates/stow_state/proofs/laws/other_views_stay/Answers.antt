use Rattle.stow_state.proofs.Steps.{other_views_stay_law}
use Rattle.stow_state.proofs.laws.other_views_stay.Goals as goal

pub returns : goal.returns
returns c = other_views_stay_law
