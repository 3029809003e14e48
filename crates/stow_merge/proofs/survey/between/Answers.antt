use Rattle.std.proofs.Common.{arith}
use Rattle.std.proofs.lemmas.Grind.{common_steps}
use Rattle.stow_merge.proofs.survey.between.Goals as goal

pub returns-then-from-front : goal.returns-then-from-front
returns-then-from-front g c = grind (arith, common_steps)

pub returns-else-from-front : goal.returns-else-from-front
returns-else-from-front g c = grind (arith, common_steps)
