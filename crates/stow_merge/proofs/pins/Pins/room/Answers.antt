use Rattle.std.proofs.Common.{arith}
use Rattle.std.proofs.lemmas.Grind.{elements}
use Rattle.stow_merge.proofs.pins.Pins.room.Goals as goal

pub invariant_of-self : goal.invariant_of-self
invariant_of-self g c = grind (arith, elements)

pub loop-self-preserved : goal.loop-self-preserved
loop-self-preserved g c = grind (arith, elements)

pub invariant_of-self-2 : goal.invariant_of-self-2
invariant_of-self-2 g c = grind (arith, elements) steps 2000000

pub returns-clause-same : goal.returns-clause-same
returns-clause-same g c = grind (arith, elements)

pub returns-clause-room : goal.returns-clause-room
returns-clause-room g c = grind (arith, elements)
