use Rattle.stow_state.proofs.Examples.{examples_law}
use Rattle.stow_state.proofs.laws.examples.Goals as goal

pub returns : goal.returns
returns c = examples_law
