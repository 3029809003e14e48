use Rattle.stow_message.proofs.RisingLaws.{placed_rise}
use Rattle.stow_message.proofs.laws.placed_rises.Goals as goal

pub returns : goal.returns
returns c = placed_rise
