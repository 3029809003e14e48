use Rattle.std.proofs.Common.{arith}
use Rattle.std.proofs.lemmas.Grind.{common_steps}
use Rattle.stow_merge.proofs.writing.carried_or.Goals as goal

pub returns-then-messages-eq1 : goal.returns-then-messages-eq1
returns-then-messages-eq1 c = grind (arith, common_steps)
