use Rattle.stow_message.proofs.RisingLaws.{taken_and_rest}
use Rattle.stow_message.proofs.laws.taken_and_rest.Goals as goal

pub returns : goal.returns
returns c = taken_and_rest
