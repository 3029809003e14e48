use Rattle.stow_state.proofs.Steps.{stays_sound_law}
use Rattle.stow_state.proofs.laws.stays_sound.Goals as goal

pub returns : goal.returns
returns c = stays_sound_law
