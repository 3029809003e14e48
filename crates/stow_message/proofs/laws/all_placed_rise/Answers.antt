use Rattle.stow_message.proofs.RisingLaws.{all_placed_rise}
use Rattle.stow_message.proofs.laws.all_placed_rise.Goals as goal

pub returns : goal.returns
returns c = all_placed_rise
