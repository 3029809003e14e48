use Rattle.stow_message.proofs.RisingLaws.{range_and_rest}
use Rattle.stow_message.proofs.laws.range_and_rest.Goals as goal

pub returns : goal.returns
returns c = range_and_rest
