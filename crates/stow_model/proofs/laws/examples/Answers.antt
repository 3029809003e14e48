use Rattle.stow_model.proofs.Examples.{examples_lem}
use Rattle.stow_model.proofs.laws.examples.Goals as goal

pub returns : goal.returns
returns c = examples_lem
