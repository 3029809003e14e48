use Rattle.stow_tree_model.proofs.Examples.{examples_law}
use Rattle.stow_tree_model.proofs.laws.examples.Goals as goal

pub returns : goal.returns
returns c = examples_law
