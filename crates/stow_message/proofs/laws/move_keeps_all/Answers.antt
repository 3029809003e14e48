use Rattle.stow_message.proofs.RisingLaws.{move_keeps_all}
use Rattle.stow_message.proofs.laws.move_keeps_all.Goals as goal

pub returns : goal.returns
returns c = move_keeps_all
