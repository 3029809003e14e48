use Rattle.stow_message.proofs.Oldest.{oldest_are_held}
use Rattle.stow_message.proofs.laws.oldest_are_held.Goals as goal

pub returns : goal.returns
returns c = oldest_are_held
