use Rattle.stow_commands.proofs.Numbers.{no_text}
use Rattle.stow_commands.proofs.number.number.Goals as goal

pub returns-in_default : goal.returns-in_default
returns-in_default c = no_text c.args.text.now c.in_default.ensures.cases
