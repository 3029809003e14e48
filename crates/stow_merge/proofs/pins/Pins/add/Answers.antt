use Rattle.std.proofs.Common.{arith}
use Rattle.std.proofs.lemmas.Grind.{elements}
use Rattle.stow_merge.proofs.pins.Pins.add.Goals as goal

pub index_mut-requires : goal.index_mut-requires
index_mut-requires g c = grind (arith, elements)

pub invariant_of-self : goal.invariant_of-self
invariant_of-self g c = grind (arith, elements)

pub returns : goal.returns
returns g c = grind (arith, elements)
