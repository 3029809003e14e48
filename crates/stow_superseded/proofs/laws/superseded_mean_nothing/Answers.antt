use Rattle.stow_superseded.proofs.Meaning.{superseded_same}
use Rattle.stow_superseded.proofs.laws.superseded_mean_nothing.Goals as goal

pub returns : goal.returns
returns c = superseded_same
