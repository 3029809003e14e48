use Rattle.stow_message.proofs.RisingLaws.{rests_rise}
use Rattle.stow_message.proofs.laws.rests_rise.Goals as goal

pub returns : goal.returns
returns c = rests_rise
