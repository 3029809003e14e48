use Rattle.std.proofs.Common.{arith}
use Rattle.std.proofs.lemmas.Grind.{common_steps}
use Rattle.stow_merge.proofs.survey.append_all.Goals as goal

pub loop-message-preserved : goal.loop-message-preserved
loop-message-preserved g c = grind (arith, common_steps)

pub returns : goal.returns
returns g c = grind (arith, common_steps)
