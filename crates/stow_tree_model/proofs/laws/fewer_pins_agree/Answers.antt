use Rattle.stow_tree_model.proofs.SetLemmas.{fewer_pins_agree_law}
use Rattle.stow_tree_model.proofs.laws.fewer_pins_agree.Goals as goal

pub returns : goal.returns
returns c = fewer_pins_agree_law
