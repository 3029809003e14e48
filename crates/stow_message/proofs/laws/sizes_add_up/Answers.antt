use Rattle.stow_message.proofs.RisingLaws.{sizes_add_up}
use Rattle.stow_message.proofs.laws.sizes_add_up.Goals as goal

pub returns : goal.returns
returns c = sizes_add_up
